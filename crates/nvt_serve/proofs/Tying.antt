-- Each deed keeps the ties of slots to connections.
use Rattle.std.proofs.Common.{◌≡◌, ◌≢◌, ◌⊎◌, ℕ, zero, suc, ◌<◌, Bool, true, false, List, [], ◌∷◌, length, set, get_or, Option, Some, None, is_some, refl, sym, ap, ◌∙◌, subst, inl, inr, arith}
use Rattle.std.specs.Prelude.{◌==◌, if◌then◌else◌}
use Rattle.std.specs.Option.{option_map}
use Rattle.std.proofs.lemmas.Bool.{cases_eq, cases_lt}
use Rattle.std.proofs.lemmas.Bool.Decides.{nat_tests}
use Rattle.std.proofs.lemmas.List.{get_or_past, get_or-set_other, get_or-set_same}
use Rattle.tables.specs.NumberTable.{place, with_value, without}
use Rattle.tables.proofs.NumberTables.{least_free-Some, length-with_value, place-with_value, place-without, place_past}
use Rattle.nvt_ports.specs.Told.{PortsState}
use Rattle.nvt_serve.specs.Deed as deed
use Rattle.nvt_serve.specs.Deed.{Deed, Does, IsUnused, Runs, Serving}
use Rattle.nvt_serve.specs.declared.ties.Ties.{Ties}
use Rattle.nvt_serve.specs.Looks.{AreLooks}
use Rattle.nvt_serve.specs.Served.{AreTied, AreTies, IsTiedWithin, serving}
use Rattle.target_core.specs.Connection.{KnownConnection}
use Rattle.target_core.specs.Transition.{Transition, known_moved}
use Rattle.target_core.specs.Target.{TargetState, free_number, meets}
use Rattle.target_history.specs.Event.{given_up, opened}
use Rattle.target_history.specs.Occurrence.{Occurrence}
use Rattle.target_core.specs.Marks.{SameKnown}
use Rattle.target_core.proofs.Knowing.{edited_known, received_known, stepped_known, taken_known, ticked_known}

-- ---- at first

pub none_tied : (s : Serving) → ((slot : ℕ) → place s.connections slot ≡ None) → AreTied s
none_tied s none =
    let untied : (slot k : ℕ) → place s.connections slot ≢ Some k = λ slot k tied. let here = none slot in cc in
    record {
      known = λ slot k tied. absurd (untied slot k tied);
      alone = λ slot other k tied same. absurd (untied slot k tied);
      in_use = λ slot k tied. absurd (untied slot k tied);
    }

pub none_within : (connections : List (Option ℕ)) → ((slot : ℕ) → place connections slot ≡ None) → IsTiedWithin connections
none_within connections none =
    let untied : (slot k : ℕ) → place connections slot ≢ Some k = λ slot k tied. let here = none slot in cc in
    λ slot k tied. absurd (untied slot k tied)

-- ---- as they were

pub there : (a b : List (Option ℕ)) (slot k : ℕ) → a ≡ b → place a slot ≡ Some k → place b slot ≡ Some k
there a b slot k same tied = ap (λ (l : List (Option ℕ)). place l slot) (sym same) ∙ tied

used_same : (a b : List Bool) (slot : ℕ) → a ≡ b → get_or a slot false ≡ get_or b slot false
used_same a b slot same = ap (λ (l : List Bool). get_or l slot false) same

pub same_target : (old new : TargetState) → new ≡ old → SameKnown old new
same_target old new same = λ k. ap (λ (t : TargetState). is_some (place t.connections k)) same

tied_stay : (old new : Serving) → new.connections ≡ old.connections → new.ports.in_use ≡ old.ports.in_use → SameKnown old.target new.target
    → AreTied old → AreTied new
tied_stay old new connections used same are = record {
  known = λ slot k tied. same k ∙ are.known slot k (there new.connections old.connections slot k connections tied);
  alone = λ slot other k here too.
      are.alone slot other k (there new.connections old.connections slot k connections here) (there new.connections old.connections other k connections too);
  in_use = λ slot k tied.
      used_same new.ports.in_use old.ports.in_use slot used ∙ are.in_use slot k (there new.connections old.connections slot k connections tied);
}

within_same : (old new : List (Option ℕ)) → new ≡ old → IsTiedWithin old → IsTiedWithin new
within_same old new same within = λ slot k tied. within slot k (there new old slot k same tied)

-- .. with the ties, where steps were made, or nothing happened
pub ties_step : (ports : PortsState) (old new : TargetState) (before after : Ties) → SameKnown old new → after.connections ≡ before.connections
    → AreLooks new after → AreTies ports old before → AreTies ports new after
ties_step ports old new before after known same looks are = record {
  tied = tied_stay (serving ports old before) (serving ports new after) same refl known are.tied;
  within = within_same before.connections after.connections same are.within;
  looks = looks;
}

-- .. while a slot that has no connection is closed
tied_beside : (old new : Serving) (slot : ℕ) → place old.connections slot ≡ None → new.connections ≡ old.connections → new.target ≡ old.target
    → ((other : ℕ) → other ≢ slot → get_or new.ports.in_use other false ≡ get_or old.ports.in_use other false) → AreTied old → AreTied new
tied_beside old new slot untied connections target others are = record {
  known = λ other k tied.
      same_target old.target new.target target k ∙ are.known other k (there new.connections old.connections other k connections tied);
  alone = λ one other k here too.
      are.alone one other k (there new.connections old.connections one k connections here) (there new.connections old.connections other k connections too);
  in_use = λ other k tied.
      let was = there new.connections old.connections other k connections tied in
      elim (cases_eq other slot) [
        | inl same ↦ let here : place old.connections other ≡ None = ap (place old.connections) same ∙ untied in cc
        | inr differs ↦ others other differs ∙ are.in_use other k was
      ];
}

closed_beside : (new used : List Bool) (slot other : ℕ) → new ≡ set used slot false → other ≢ slot → get_or new other false ≡ get_or used other false
closed_beside new used slot other closed differs = used_same new (set used slot false) other closed ∙ get_or-set_other used slot other false false differs

-- ---- a slot that is not in use

same_within : (l : List Bool) (slot : ℕ) (a b : Bool) → slot < length l → get_or l slot a ≡ get_or l slot b
same_within [] slot a b within = absurd (omega (arith, within))
same_within (x ∷ l) zero a b within = refl
same_within (x ∷ l) (suc slot) a b within = same_within l slot a b (omega (arith, within))

unused_within : (l : List Bool) (slot : ℕ) → get_or l slot true ≡ false → slot < length l
unused_within l slot unused =
    elim (cases_lt slot (length l)) [
      | inl within ↦ within
      | inr past ↦ let out = get_or_past l slot true past in cc
    ]

-- .. has no connection
pub unused_untied : (s : Serving) (slot : ℕ) → AreTied s → IsUnused slot s.ports → place s.connections slot ≡ None
unused_untied s slot are unused = by (place s.connections slot) (are.in_use slot) where
  by : (o : Option ℕ) → ((k : ℕ) → o ≡ Some k → get_or s.ports.in_use slot false ≡ true) → o ≡ None
  by None used = refl
  by (Some k) used =
      let here = used k refl in
      let same = same_within s.ports.in_use slot true false (unused_within s.ports.in_use slot unused) in cc

-- ---- a connection is opened in a slot

opened_there : (x : Occurrence) (j : ℕ) (o : Option KnownConnection) (c : KnownConnection) (same : Bool) → is_some o ≡ true
    → is_some (if same then Some c else option_map (known_moved x j) o) ≡ true
opened_there x j o c true known = refl
opened_there x j None c false known = cc
opened_there x j (Some d) c false known = refl

pub tied_new : (connections : List (Option ℕ)) (slot k other j : ℕ) → place (with_value connections slot k) other ≡ Some j
    → ((other ≡ slot) × (j ≡ k)) ⊎ ((other ≢ slot) × (place connections other ≡ Some j))
tied_new connections slot k other j tied =
    elim (cases_eq other slot) [
      | inl same ↦ elim (cases_lt slot (length connections)) [
        | inl within ↦
            let equal : (other == slot) ≡ true = grind (arith, nat_tests) in
            let here : Some j ≡ Some k = sym tied ∙ place-with_value connections slot k other within
            ∙ ap (λ (b : Bool). if b then Some k else place connections other) equal in
            inl (same, cc)
        | inr past ↦
            let none : place (with_value connections slot k) other ≡ None =
            place_past (with_value connections slot k) other (omega (arith, same, past, length-with_value connections slot k)) in cc
      ]
      | inr differs ↦ inr (differs, sym (get_or-set_other connections slot other (Some k) None differs) ∙ tied)
    ]

tied_opened : (old new : Serving) (slot port k : ℕ) → IsUnused slot old.ports → new.ports.in_use ≡ set old.ports.in_use slot true
    → free_number old.target ≡ Some k → Transition (opened port k) old.target new.target → new.connections ≡ with_value old.connections slot k
    → AreTied old → AreTied new
tied_opened old new slot port k unused used free transition tied are =
    let none = (least_free-Some old.target.connections k free).0 in
    let split : (other j : ℕ) → place new.connections other ≡ Some j
    → ((other ≡ slot) × (j ≡ k)) ⊎ ((other ≢ slot) × (place old.connections other ≡ Some j)) = λ other j at.
    tied_new old.connections slot k other j (there new.connections (with_value old.connections slot k) other j tied at) in
    let not_k : (other : ℕ) → place old.connections other ≢ Some k = λ other at.
    let known = are.known other k at in
    let here : is_some (place old.target.connections k) ≡ false = ap is_some none in cc in
    record {
      known = λ other j at. ap is_some (transition.connection j) ∙ (elim (split other j at) [
        | inl here ↦
            let same = here.1 in
            let equal : (j == k) ≡ true = grind (arith, nat_tests) in
            rw equal refl
        | inr was ↦ opened_there (meets old.target (opened port k)) j (place old.target.connections j) _ (j == k) (are.known other j was.1)
      ]);
      alone = λ one other j here too. elim (split one j here) [
        | inl first ↦ elim (split other j too) [
          | inl second ↦ first.0 ∙ sym second.0
          | inr second ↦ absurd (not_k other (second.1 ∙ ap Some first.1))
        ]
        | inr first ↦ elim (split other j too) [
          | inl second ↦ absurd (not_k one (first.1 ∙ ap Some second.1))
          | inr second ↦ are.alone one other j first.1 second.1
        ]
      ];
      in_use = λ other j at. used_same new.ports.in_use (set old.ports.in_use slot true) other used ∙ (elim (split other j at) [
        | inl here ↦ ap (λ (i : ℕ). get_or (set old.ports.in_use slot true) i false) here.0
            ∙ get_or-set_same old.ports.in_use slot true false (unused_within old.ports.in_use slot unused)
        | inr was ↦ get_or-set_other old.ports.in_use slot other true false was.0 ∙ are.in_use other j was.1
      ]);
    }

-- ---- a connection is given up

gone_there : (x : Occurrence) (j : ℕ) (o : Option KnownConnection) (same : Bool) → same ≡ false → is_some o ≡ true
    → is_some (if same then None else option_map (known_moved x j) o) ≡ true
gone_there x j None same other known = cc
gone_there x j (Some c) same other known = rw other refl

-- what is left of the slots, none of which has the connection
tied_left : (old new : Serving) (k : ℕ) → Transition (given_up k) old.target new.target
    → ((slot j : ℕ) → place new.connections slot ≡ Some j → (j ≢ k) × (place old.connections slot ≡ Some j))
    → ((slot j : ℕ) → place new.connections slot ≡ Some j → get_or new.ports.in_use slot false ≡ get_or old.ports.in_use slot false)
    → AreTied old → AreTied new
tied_left old new k transition split used are = record {
  known = λ slot j at.
      let was = split slot j at in
      let differs = was.0 in
      let other : (j == k) ≡ false = grind (arith, nat_tests) in
      ap is_some (transition.connection j) ∙ gone_there (meets old.target (given_up k)) j (place old.target.connections j) (j == k) other (are.known slot j was.1);
  alone = λ one other j here too. are.alone one other j (split one j here).1 (split other j too).1;
  in_use = λ slot j at. used slot j at ∙ are.in_use slot j (split slot j at).1;
}

pub left_before : (connections : List (Option ℕ)) (slot other j : ℕ) → place (without connections slot) other ≡ Some j
    → (other ≢ slot) × (place connections other ≡ Some j)
left_before connections slot other j tied =
    elim (cases_eq other slot) [
      | inl same ↦
          let equal : (other == slot) ≡ true = grind (arith, nat_tests) in
          let here : Some j ≡ None = sym tied ∙ place-without connections slot other
          ∙ ap (λ (b : Bool). if b then None else place connections other) equal in cc
      | inr differs ↦ (differs, sym (get_or-set_other connections slot other None None differs) ∙ tied)
    ]

-- .. from its slot, which is closed
tied_untied : (old new : Serving) (slot k : ℕ) → place old.connections slot ≡ Some k → new.ports.in_use ≡ set old.ports.in_use slot false
    → Transition (given_up k) old.target new.target → new.connections ≡ without old.connections slot → AreTied old → AreTied new
tied_untied old new slot k tied used transition untied are =
    let split : (other j : ℕ) → place new.connections other ≡ Some j → (other ≢ slot) × (place old.connections other ≡ Some j) =
    λ other j at. left_before old.connections slot other j (there new.connections (without old.connections slot) other j untied at) in
    tied_left old new k transition
    (λ other j at. let was = split other j at in
    (λ same. was.0 (are.alone other slot k (was.1 ∙ ap Some same) tied), was.1))
    (λ other j at. closed_beside new.ports.in_use old.ports.in_use slot other used (split other j at).0)
    are

-- .. or without one
tied_forgotten : (old new : Serving) (k : ℕ) → ((slot : ℕ) → place old.connections slot ≢ Some k) → new.ports ≡ old.ports
    → Transition (given_up k) old.target new.target → new.connections ≡ old.connections → AreTied old → AreTied new
tied_forgotten old new k none ports transition same are =
    tied_left old new k transition
    (λ slot j at. let was = there new.connections old.connections slot j same at in (λ is. none slot (was ∙ ap Some is), was))
    (λ slot j at. ap (λ (p : PortsState). get_or p.in_use slot false) ports)
    are

-- ---- each deed

pub does_keep : (d : Deed) (old new : Serving) → Does d old new → AreTied old → AreTied new
does_keep (deed.clock_set ms) old new h are =
    tied_stay old new h.target.connections h.ports.in_use (ticked_known old.target new.target ms h.target.transition) are
does_keep (deed.connected slot port k) old new h are =
    tied_opened old new slot port k h.target.unused h.ports.in_use h.target.free h.target.transition h.target.tied are
does_keep (deed.refused slot port fault) old new h are =
    tied_beside old new slot (unused_untied old slot are h.target.unused) h.target.stays.connections h.target.stays.target
    (λ other differs. closed_beside new.ports.in_use (set old.ports.in_use slot true) slot other h.ports.in_use differs
    ∙ get_or-set_other old.ports.in_use slot other true false differs)
    are
does_keep (deed.received slot k bytes) old new h are =
    tied_stay old new h.target.connections h.ports.in_use (received_known old.target new.target k bytes h.target.result h.target.receives) are
does_keep (deed.received_by_none slot bytes) old new h are =
    tied_stay old new h.target.1.connections h.ports.in_use (same_target old.target new.target h.target.1.target) are
does_keep (deed.gone slot k) old new h are =
    tied_untied old new slot k h.target.tied h.ports.in_use h.target.transition h.target.untied are
does_keep (deed.gone_from_none slot) old new h are =
    tied_beside old new slot h.target.0 h.target.1.connections h.target.1.target
    (λ other differs. closed_beside new.ports.in_use old.ports.in_use slot other h.ports.in_use differs) are
does_keep (deed.edit_made line edit) old new h are =
    tied_stay old new h.target.happens.connections h.ports.in_use (edited_known old.target new.target edit h.target.happens.transition) are
does_keep (deed.edit_refused line why) old new h are =
    tied_stay old new h.target.1.connections h.ports.in_use (same_target old.target new.target h.target.1.target) are
does_keep deed.nothing_came old new h are =
    tied_stay old new h.target.connections h.ports.in_use (same_target old.target new.target h.target.target) are
does_keep (deed.stepped_on k found m) old new h are =
    tied_stay old new h.target.happens.connections (ap (λ (p : PortsState). p.in_use) h.ports)
    (stepped_known old.target new.target k found m h.target.happens.transition) are
does_keep (deed.sent slot k bytes) old new h are =
    tied_stay old new h.target.connections h.ports.in_use (taken_known old.target new.target k (length bytes) h.target.taken) are
does_keep (deed.failed slot k) old new h are =
    tied_untied old new slot k h.target.tied h.ports.in_use h.target.transition h.target.untied are
does_keep (deed.closed None k) old new h are =
    tied_forgotten old new k h.target.tied h.ports h.target.transition h.target.untied are
does_keep (deed.closed (Some slot) k) old new h are =
    tied_untied old new slot k h.target.tied h.ports.in_use h.target.transition h.target.untied are

pub runs_keep : (deeds : List Deed) (old new : Serving) → Runs deeds old new → AreTied old → AreTied new
runs_keep [] old new same are = subst AreTied (sym same) are
runs_keep (d ∷ deeds) old new h are = runs_keep deeds h.0 new h.2 (does_keep d old h.0 h.1 are)

-- ---- the connections of slots are of those that there may be

within_left : (old new : List (Option ℕ)) (slot : ℕ) → new ≡ without old slot → IsTiedWithin old → IsTiedWithin new
within_left old new slot left within = λ other j tied.
    within other j (left_before old slot other j (there new (without old slot) other j left tied)).1

pub within_kept : (d : Deed) (old new : Serving) → Does d old new → IsTiedWithin old.connections → IsTiedWithin new.connections
within_kept (deed.clock_set ms) old new h within = within_same old.connections new.connections h.target.connections within
within_kept (deed.connected slot port k) old new h within = λ other j tied.
    elim (tied_new old.connections slot k other j (there new.connections (with_value old.connections slot k) other j h.target.tied tied)) [
      | inl here ↦ subst (λ (i : ℕ). i < 64) (sym here.1) h.target.within
      | inr was ↦ within other j was.1
    ]
within_kept (deed.refused slot port fault) old new h within = within_same old.connections new.connections h.target.stays.connections within
within_kept (deed.received slot k bytes) old new h within = within_same old.connections new.connections h.target.connections within
within_kept (deed.received_by_none slot bytes) old new h within = within_same old.connections new.connections h.target.1.connections within
within_kept (deed.gone slot k) old new h within = within_left old.connections new.connections slot h.target.untied within
within_kept (deed.gone_from_none slot) old new h within = within_same old.connections new.connections h.target.1.connections within
within_kept (deed.edit_made line edit) old new h within = within_same old.connections new.connections h.target.happens.connections within
within_kept (deed.edit_refused line why) old new h within = within_same old.connections new.connections h.target.1.connections within
within_kept deed.nothing_came old new h within = within_same old.connections new.connections h.target.connections within
within_kept (deed.stepped_on k found m) old new h within = within_same old.connections new.connections h.target.happens.connections within
within_kept (deed.sent slot k bytes) old new h within = within_same old.connections new.connections h.target.connections within
within_kept (deed.failed slot k) old new h within = within_left old.connections new.connections slot h.target.untied within
within_kept (deed.closed None k) old new h within = within_same old.connections new.connections h.target.untied within
within_kept (deed.closed (Some slot) k) old new h within = within_left old.connections new.connections slot h.target.untied within
