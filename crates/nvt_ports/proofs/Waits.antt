-- A speaker that a look does not try has a shorter wait.
use Rattle.std.proofs.Common.{◌≡◌, ◌⊎◌, ℕ, ◌+◌, ◌-◌, ◌*◌, ◌<◌, ◌≤◌, true, false, List, [], ◌∷◌, length, map, min, get_or, Some, refl, sym, ap, ◌∙◌, inl, inr, arith}
use Rattle.std.specs.Prelude.{slice_get}
use Rattle.std.proofs.lemmas.Bool.{cases_Bool, cases_eq, cases_lt}
use Rattle.std.proofs.lemmas.Bool.Decides.{nat_tests}
use Rattle.std.proofs.lemmas.Option.{slice_get-get_or}
use Rattle.nvt_ports.specs.declared.turn_order.LookOutcome.{LookOutcome}
use Rattle.nvt_ports.specs.declared.turn_order.LookOutcome.TheVariants.{Found, Vain, Rests}
use Rattle.nvt_ports.specs.Lately.{CanBeTried, Order, after_look, behind, due, last_tried, number_in, plan, tired, tried_in_round, with_heard, without}
use Rattle.nvt_ports.specs.Waiting.{AnyTries, AreLooks, EachIsTried, IsInOrder, IsTried, IsTriedOrNearer, Look, WaitsAreShort, is_among, place_of, steps_to, wait_of}
use Rattle.nvt_ports.proofs.Places.{among-last, among-tired, among-tired-false, among-without, length-tired, length-with_heard, place-last, place-spoke, place-tired, place-without, place_within, stands_there}
use Rattle.nvt_ports.proofs.Plans.{length-plan, plan_of_lately, plan_of_round, planned_of_lately}

-- how far the round is from a number
steps_within : (s last : ℕ) → s < 97 → last < 97 → (0 < steps_to s last) × (steps_to s last ≤ 97)
steps_within s last s-small last-small = grind (arith, nat_tests)

steps_reach : (s last : ℕ) → s < 97 → last < 97 → behind last (steps_to s last) ≡ s
steps_reach s last s-small last-small = grind (arith, nat_tests)

steps_less : (s last n : ℕ) → s < 97 → last < 97 → n < steps_to s last → steps_to s (behind last n) + n ≡ steps_to s last
steps_less s last n s-small last-small ahead = grind (arith, nat_tests)

wait_of_silent : (o : Order) (s : ℕ) → is_among s o.lately ≡ false → wait_of o s ≡ steps_to s o.last + (4 * steps_to s o.last - o.credit)
wait_of_silent o s silent = rw silent refl

wait_of_lately : (o : Order) (s : ℕ) → is_among s o.lately ≡ true → wait_of o s ≡ 2 * place_of s o.lately + o.credit
wait_of_lately o s among = rw among refl

pub waits_are_short : WaitsAreShort
waits_are_short o kept s s-small =
    elim (cases_Bool (is_among s o.lately)) [
      | inl among ↦
          rw (wait_of_lately o s among) (omega (arith, kept.few, kept.credit, place_within s o.lately among))
      | inr silent ↦
          let within : steps_to s o.last ≤ 97 = (steps_within s o.last s-small kept.last).1 in
          rw (wait_of_silent o s silent) (omega arith)
    ]

-- the round comes to it in this look
tried_in_turn : (tried : ℕ) (o : Order) (s : ℕ) → IsInOrder o → s < 97 → steps_to s o.last ≤ tried_in_round tried o → IsTried tried o s
tried_in_turn tried o s kept s-small reached =
    let some : 0 < steps_to s o.last = (steps_within s o.last s-small kept.last).0 in
    let place = steps_to s o.last - 1 in (
      place,
      omega arith,
      plan_of_round o place (omega arith)
          ∙ ap Some (ap (behind o.last) (omega arith) ∙ steps_reach s o.last s-small kept.last),
    )

-- it stands before so many of those who spoke lately
tried_lately : (tried : ℕ) (o : Order) (s : ℕ) → is_among s o.lately ≡ true → place_of s o.lately < tried - due o → IsTried tried o s
tried_lately tried o s among ahead =
    let place = due o + place_of s o.lately in (
      place,
      omega arith,
      plan_of_lately o place (omega arith)
          ∙ ap (slice_get (map number_in o.lately)) (omega arith) ∙ stands_there s o.lately among,
    )

-- a silent one has a shorter wait, since the round came nearer or gained a look
nearer_silent : (before after : Order) (s n : ℕ) → s < 97 → before.last < 97 → before.credit ≤ 388
    → is_among s before.lately ≡ false → is_among s after.lately ≡ false
    → n < steps_to s before.last → after.last ≡ behind before.last n → 4 * n ≤ before.credit → (0 < n) ⊎ (before.credit < 4)
    → (after.credit ≡ before.credit + 1 - 4 * n) ⊎ (after.credit ≡ 388)
    → wait_of after s < wait_of before s
nearer_silent before after s n s-small last-small credit-small was is ahead last-is paid first credit-is =
    let bounds : (0 < steps_to s before.last) × (steps_to s before.last ≤ 97) = steps_within s before.last s-small last-small in
    let less : steps_to s after.last + n ≡ steps_to s before.last =
    ap (λ last. steps_to s last + n) last-is ∙ steps_less s before.last n s-small last-small ahead in
    rw (wait_of_silent before s was, wait_of_silent after s is)
    (elim first [
      | inl some ↦ elim credit-is [ inl gained ↦ omega arith | inr full ↦ omega arith ]
      | inr few ↦ elim credit-is [ inl gained ↦ omega arith | inr full ↦ omega arith ]
    ])

nearer_lately : (before after : Order) (s : ℕ) → is_among s before.lately ≡ true → is_among s after.lately ≡ true
    → 2 * place_of s after.lately + after.credit < 2 * place_of s before.lately + before.credit
    → wait_of after s < wait_of before s
nearer_lately before after s was is less = rw (wait_of_lately before s was, wait_of_lately after s is) less

tries_some : (tried : ℕ) (o : Order) → tried ≡ length (plan o) → (0 < tried) ⊎ (due o ≡ 0)
tries_some tried o all =
    let long : length (plan o) ≡ due o + length o.lately = length-plan o in
    elim (cases_lt 0 tried) [ inl some ↦ inl some | inr none ↦ inr (omega arith) ]

module _ (tried : ℕ) (o : Order) (s : ℕ) (kept : IsInOrder o) (small : s < 97) (ahead : tried_in_round tried o < steps_to s o.last) where
  -- where the round gained nothing, less than a try of it was due
  began : (0 < tried) ⊎ (due o ≡ 0) → (0 < tried_in_round tried o) ⊎ (o.credit < 4)
  began cause =
      elim (cases_lt 0 (due o)) [
        | inl some ↦ elim cause [ inl tries ↦ inl (omega arith) | inr none ↦ inr (omega arith) ]
        | inr none ↦ inr (omega arith)
      ]

  -- all were tried in vain
  in_vain : (after : Order) → tried ≡ length (plan o) → (is_among s o.lately ≡ false → is_among s after.lately ≡ false)
      → after.last ≡ behind o.last (tried_in_round tried o)
      → (after.credit ≡ o.credit + 1 - 4 * tried_in_round tried o) ⊎ (after.credit ≡ 388)
      → IsTriedOrNearer tried o after s
  in_vain after all silent-stays last-is credit-is =
      let long : length (plan o) ≡ due o + length o.lately = length-plan o in
      let tries : (0 < tried) ⊎ (due o ≡ 0) = tries_some tried o all in
      elim (cases_Bool (is_among s o.lately)) [
        | inl among ↦ inl (tried_lately tried o s among (omega (arith, place_within s o.lately among)))
        | inr silent ↦
            inr (nearer_silent o after s (tried_in_round tried o) small kept.last kept.credit silent (silent-stays silent) ahead last-is (omega arith) (began tries) credit-is)
      ]

  -- the last one that was tried is another one, and had something
  found_silent : 0 < tried → (s ≡ last_tried tried o → ⊥) → is_among s o.lately ≡ false
      → wait_of (after_look tried Found o) s < wait_of o s
  found_silent some other silent =
      let vain = tried - 1 - due o in
      let still : is_among s (with_heard (last_tried tried o) (tired vain o.lately)) ≡ false =
      among-last s (last_tried tried o) (without (last_tried tried o) (tired vain o.lately)) other
      ∙ among-without s (last_tried tried o) (tired vain o.lately) other
      ∙ among-tired-false vain s o.lately silent
      in
      nearer_silent o (after_look tried Found o) s (tried_in_round tried o) small kept.last kept.credit silent still ahead
      refl (omega arith) (began (inl some)) (inl refl)

  place_after : (s ≡ last_tried tried o → ⊥) → is_among s o.lately ≡ true → tried - due o ≤ place_of s o.lately → 0 < tried
      → (is_among s (with_heard (last_tried tried o) (tired (tried - 1 - due o) o.lately)) ≡ true)
      × (place_of s (with_heard (last_tried tried o) (tired (tried - 1 - due o) o.lately)) + min 1 (tried - due o) ≤ place_of s o.lately)
  place_after other among behind-them some =
      let vain = tried - 1 - due o in
      let f = last_tried tried o in
      let there : is_among s (without f (tired vain o.lately)) ≡ true =
      among-without s f (tired vain o.lately) other ∙ among-tired vain s o.lately (omega arith) ∙ among
      in
      let same : place_of s (with_heard f (tired vain o.lately)) ≡ place_of s (without f (tired vain o.lately)) =
      place-last s f (without f (tired vain o.lately)) there
      in
      let not_behind : place_of s (without f (tired vain o.lately)) ≤ place_of s o.lately =
      omega (arith, place-without s f (tired vain o.lately) other, place-tired vain s o.lately (omega arith))
      in (
        among-last s f (without f (tired vain o.lately)) other ∙ there,
        elim (cases_lt (due o) tried) [
          | inl past ↦
              let spoke : get_or (map number_in o.lately) vain 0 ≡ f = sym (planned_of_lately o (tried - 1) (omega arith)) in
              let gained : place_of s (without f (tired vain o.lately)) + 1 ≤ place_of s o.lately =
              place-spoke vain s f o.lately other (omega arith) spoke
              in
              omega arith
          | inr in_round ↦ omega arith
        ],
      )

  found_lately : 0 < tried → (s ≡ last_tried tried o → ⊥) → is_among s o.lately ≡ true → tried - due o ≤ place_of s o.lately
      → wait_of (after_look tried Found o) s < wait_of o s
  found_lately some other among behind-them =
      let now = place_after other among behind-them some in
      nearer_lately o (after_look tried Found o) s among now.0 (omega (arith, now.1))

  found : 0 < tried → tried ≤ length (plan o) → IsTriedOrNearer tried o (after_look tried Found o) s
  found some within =
      elim (cases_eq s (last_tried tried o)) [
        | inl this ↦ inl (tried - 1, omega arith, slice_get-get_or (plan o) (tried - 1) 0 (omega arith) ∙ ap Some (sym this))
        | inr other ↦
            elim (cases_Bool (is_among s o.lately)) [
              | inl among ↦
                  elim (cases_lt (place_of s o.lately) (tried - due o)) [
                    | inl before ↦ inl (tried_lately tried o s among before)
                    | inr behind-them ↦ inr (found_lately some other among behind-them)
                  ]
              | inr silent ↦ inr (found_silent some other silent)
            ]
      ]

-- past the round
untried : (tried : ℕ) (outcome : LookOutcome) (o : Order) (s : ℕ) → IsInOrder o → s < 97 → tried_in_round tried o < steps_to s o.last
    → CanBeTried tried outcome o → IsTriedOrNearer tried o (after_look tried outcome o) s
untried tried Found o s kept small ahead can = found tried o s kept small ahead can.0 can.1
untried tried Vain o s kept small ahead can = in_vain tried o s kept small ahead (after_look tried Vain o) can (among-tired-false (tried - due o) s o.lately) refl (inl refl)
untried tried Rests o s kept small ahead can = in_vain tried o s kept small ahead (after_look tried Rests o) can (λ _. refl) refl (inr refl)

pub tried_or_nearer : (tried : ℕ) (outcome : LookOutcome) (o : Order) (s : ℕ) → IsInOrder o → CanBeTried tried outcome o → s < 97
    → IsTriedOrNearer tried o (after_look tried outcome o) s
tried_or_nearer tried outcome o s kept can small =
    elim (cases_lt (tried_in_round tried o) (steps_to s o.last)) [
      | inl ahead ↦ untried tried outcome o s kept small ahead can
      | inr reached ↦ inl (tried_in_turn tried o s kept small reached)
    ]

-- a look keeps what holds of each order
keeps_order : (tried : ℕ) (o after : Order) → IsInOrder o → length after.lately ≤ 97 → after.last ≡ behind o.last (tried_in_round tried o)
    → (0 < tried) ⊎ (due o ≡ 0)
    → (after.credit ≡ o.credit + 1 - 4 * tried_in_round tried o) ⊎ (after.credit ≡ 388)
    → IsInOrder after
keeps_order tried o after kept few last-is cause credit-is =
    record {
      few = few;
      last = omega arith;
      credit = elim credit-is [
        | inl gained ↦ elim cause [ inl some ↦ omega (arith, kept.credit) | inr none ↦ omega arith ]
        | inr full ↦ omega arith
      ];
    }

pub after_in_order : (tried : ℕ) (outcome : LookOutcome) (o : Order) → IsInOrder o → CanBeTried tried outcome o → IsInOrder (after_look tried outcome o)
after_in_order tried Found o kept can =
    keeps_order tried o (after_look tried Found o) kept
    (length-with_heard (last_tried tried o) (tired (tried - 1 - due o) o.lately) (omega (arith, kept.few, length-tired (tried - 1 - due o) o.lately)))
    refl (inl can.0) (inl refl)
after_in_order tried Vain o kept can =
    keeps_order tried o (after_look tried Vain o) kept (omega (arith, kept.few, length-tired (tried - due o) o.lately))
    refl (tries_some tried o can) (inl refl)
after_in_order tried Rests o kept can =
    keeps_order tried o (after_look tried Rests o) kept (omega arith)
    refl (tries_some tried o can) (inr refl)

-- as many looks as the wait of it, and one more
tried_within_wait : (o : Order) (looks : List Look) (s : ℕ) → IsInOrder o → AreLooks o looks → s < 97 → wait_of o s < length looks
    → AnyTries o looks s
tried_within_wait o [] s kept looked small long = absurd (omega arith)
tried_within_wait o (look ∷ looks) s kept looked small long =
    let after = after_look look.tried look.outcome o in
    elim (tried_or_nearer look.tried look.outcome o s kept looked.0 small) [
      | inl tried ↦ inl tried
      | inr nearer ↦
          inr (tried_within_wait after looks s (after_in_order look.tried look.outcome o kept looked.0) looked.1 small (omega (arith, nearer)))
    ]

pub each_is_tried : EachIsTried
each_is_tried o kept looks looked long s small =
    tried_within_wait o looks s kept looked small (omega (arith, waits_are_short o kept s small))
