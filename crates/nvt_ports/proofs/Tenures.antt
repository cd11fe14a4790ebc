-- Why a host is given up, by all that happened since it connected.
use Rattle.std.proofs.Common.{◌≡◌, ℕ, ◌+◌, ◌-◌, ◌≤◌, Bool, true, false, not, ◌||◌, ◌&&◌, inl, inr, List, [], ◌∷◌, Option, Some, None, refl, sym, ap, subst, ◌∙◌, nat_le, arith}
use Rattle.std.specs.Bool.{beq}
use Rattle.std.specs.Prelude.{if◌then◌else◌, IsSome, IsSomeAnd, is_none, unwrap_or}
use Rattle.std.proofs.lemmas.Bool.{cases_Bool, both_ways, true≢false, cond-true, cond-false, leb-true, le-leb, not-true, not-false, not_from_true, not_from_false, and_parts, and_from, or_parts, or_from}
use Rattle.nvt_ports.specs.declared.tenure.GivenUp.{GivenUp}
use Rattle.nvt_ports.specs.declared.tenure.GivenUp.TheVariants.{TookNothing, WithoutConnect}
use Rattle.nvt_ports.specs.declared.tenure.Tenure.{Tenure}
use Rattle.nvt_ports.specs.declared.tenure.TenureStanding.{TenureStanding}
use Rattle.nvt_ports.specs.Tenure.{begins_anew, is_without_connect, patience_of, since_of}
use Rattle.nvt_ports.specs.TenureRun.{Happening, moved, ticked, tenure_after, first_tick, last_tick, TimesNeverFall, TookNothingSince, GivesUpOnlyWhatTookNothing, GivesUpWhatTookNothing, GivesUpWhatDoesNotConnect}

same_from_beq : (a b : Bool) → beq a b ≡ true → a ≡ b
same_from_beq true true is = refl
same_from_beq false false is = refl
same_from_beq true false is = absurd (both_ways _ refl is)
same_from_beq false true is = absurd (both_ways _ refl is)

beq_self : (a : Bool) → beq a a ≡ true
beq_self true = refl
beq_self false = refl

least_patience : (ended : Bool) → 2000 ≤ patience_of ended
least_patience true = omega arith
least_patience false = omega arith

-- the time in which it takes nothing goes on
record GoesOn (standing : TenureStanding) (t : Tenure) : Type 0 where
  is_opened : is_none t.opened ≡ false
  is_still : t.has_moved ≡ false
  waits : standing.waits ≡ true
  ended : standing.is_ended ≡ t.is_ended

goes_on : (standing : TenureStanding) (t : Tenure) → begins_anew standing t ≡ false → GoesOn standing t
goes_on standing t on =
    let first = or_parts (is_none t.opened || t.has_moved || not standing.waits) (not (beq standing.is_ended t.is_ended)) on in
    let second = or_parts (is_none t.opened || t.has_moved) (not standing.waits) first.0 in
    let third = or_parts (is_none t.opened) t.has_moved second.0 in
    record {
      is_opened = third.0;
      is_still = third.1;
      waits = not-false standing.waits second.1;
      ended = same_from_beq standing.is_ended t.is_ended (not-false (beq standing.is_ended t.is_ended) first.1);
    }

not_anew : (standing : TenureStanding) (t : Tenure) → GoesOn standing t → begins_anew standing t ≡ false
not_anew standing t on =
    let same : beq standing.is_ended t.is_ended ≡ true =
    subst (λ (b : Bool). beq standing.is_ended b ≡ true) on.ended (beq_self standing.is_ended) in
    or_from _ _ (or_from _ _ (or_from _ _ on.is_opened on.is_still) (not_from_true standing.waits on.waits))
    (not_from_true (beq standing.is_ended t.is_ended) same)

look_back : (before : List Happening) → is_none (tenure_after before).opened ≡ false
    → (tenure_after before).has_moved ≡ false
    → TookNothingSince (tenure_after before).is_ended (tenure_after before).since before
look_back [] opened still = absurd (true≢false opened)
look_back (moved ∷ before) opened still = absurd (true≢false still)
look_back (ticked ms standing ∷ before) opened still =
    elim (cases_Bool (begins_anew standing (tenure_after before))) [
      | inl anew ↦ (refl, inl (sym (cond-true (begins_anew standing (tenure_after before)) ms (tenure_after before).since anew)))
      | inr on ↦
          let t = tenure_after before in
          let goes : GoesOn standing t = goes_on standing t on in (
            refl,
            inr (
              goes.waits,
              subst (λ (since : ℕ). TookNothingSince standing.is_ended since before) (sym (cond-false (begins_anew standing t) ms t.since on))
                  (subst (λ (ended : Bool). TookNothingSince ended t.since before) (sym goes.ended)
                  (look_back before goes.is_opened goes.is_still)),
            ),
          )
    ]

-- what is answered, by the two tests
abbrev answer : Bool → Bool → Option GivenUp
answer without long = if without then Some WithoutConnect else if long then Some TookNothing else None

long_from : (without long : Bool) → answer without long ≡ Some TookNothing → long ≡ true
long_from true long is = absurd (cc is)
long_from false true is = refl
long_from false false is = absurd (cc is)

without_from : (without long : Bool) → answer without long ≡ Some WithoutConnect → without ≡ true
without_from true long is = refl
without_from false true is = absurd (cc is)
without_from false false is = absurd (cc is)

is_given_up : (without long : Bool) → long ≡ true → IsSome (answer without long)
is_given_up true long is = refl
is_given_up false true is = refl
is_given_up false false is = absurd (true≢false (sym is))

pub gives_up_only_what_took_nothing : GivesUpOnlyWhatTookNothing
gives_up_only_what_took_nothing before ms standing given_up =
    let t = tenure_after before in
    let patience = patience_of standing.is_ended in
    let long : patience ≤ ms - since_of ms standing t = leb-true patience (ms - since_of ms standing t)
    (long_from (is_without_connect ms standing t) (nat_le patience (ms - since_of ms standing t)) given_up) in
    let least : 2000 ≤ patience = least_patience standing.is_ended in
    elim (cases_Bool (begins_anew standing t)) [
      | inl anew ↦
          let since : since_of ms standing t ≡ ms = cond-true (begins_anew standing t) ms t.since anew in
          absurd (omega arith)
      | inr on ↦
          let since : since_of ms standing t ≡ t.since = cond-false (begins_anew standing t) ms t.since on in
          let goes : GoesOn standing t = goes_on standing t on in
          record {
            waits = goes.waits;
            start = t.since;
            is_long = omega arith;
            took_nothing =
                subst (λ (ended : Bool). TookNothingSince ended t.since before) (sym goes.ended)
                (look_back before goes.is_opened goes.is_still);
          }
    ]

since_past : (before : List Happening) → TimesNeverFall before → (tenure_after before).since ≤ last_tick before
since_past [] rise = omega arith
since_past (moved ∷ before) rise = since_past before rise
since_past (ticked ms standing ∷ before) rise =
    elim (cases_Bool (begins_anew standing (tenure_after before))) [
      | inl anew ↦ omega (arith, cond-true (begins_anew standing (tenure_after before)) ms (tenure_after before).since anew)
      | inr on ↦ omega (arith, cond-false (begins_anew standing (tenure_after before)) ms (tenure_after before).since on, since_past before rise.1)
    ]

record KeptSince (ended : Bool) (start : ℕ) (t : Tenure) : Type 0 where
  is_opened : is_none t.opened ≡ false
  is_still : t.has_moved ≡ false
  same : t.is_ended ≡ ended
  since : t.since ≤ start

kept_since : (ended : Bool) (start : ℕ) (before : List Happening) → TimesNeverFall before
    → TookNothingSince ended start before → KeptSince ended start (tenure_after before)
kept_since ended start [] rise took = absurd took
kept_since ended start (moved ∷ before) rise took = absurd took
kept_since ended start (ticked ms standing ∷ before) rise (same, inl at) = record {
  is_opened = refl;
  is_still = refl;
  same = same;
  since = subst (λ (n : ℕ). (tenure_after (ticked ms standing ∷ before)).since ≤ n) at (since_past (ticked ms standing ∷ before) rise);
}
kept_since ended start (ticked ms standing ∷ before) rise (same, inr (waits, took)) =
    let t = tenure_after before in
    let kept : KeptSince ended start t = kept_since ended start before rise.1 took in
    let on : begins_anew standing t ≡ false = not_anew standing t
    (record { is_opened = kept.is_opened; is_still = kept.is_still; waits = waits; ended = same ∙ sym kept.same }) in
    record {
      is_opened = refl;
      is_still = refl;
      same = same;
      since = omega (arith, cond-false (begins_anew standing t) ms t.since on, kept.since);
    }

pub gives_up_what_took_nothing : GivesUpWhatTookNothing
gives_up_what_took_nothing before ms standing rise long =
    let t = tenure_after before in
    let patience = patience_of standing.is_ended in
    let kept : KeptSince standing.is_ended long.start t =
    kept_since standing.is_ended long.start before rise.1 long.took_nothing in
    let on : begins_anew standing t ≡ false = not_anew standing t
    (record { is_opened = kept.is_opened; is_still = kept.is_still; waits = long.waits; ended = sym kept.same }) in
    let since : since_of ms standing t ≡ t.since = cond-false (begins_anew standing t) ms t.since on in
    let enough : patience ≤ ms - since_of ms standing t = omega (arith, kept.since, long.is_long) in
    is_given_up (is_without_connect ms standing t) (nat_le patience (ms - since_of ms standing t))
    (le-leb patience (ms - since_of ms standing t) enough)

opened_first : (before : List Happening) → (tenure_after before).opened ≡ first_tick before
opened_first [] = refl
opened_first (moved ∷ before) = opened_first before
opened_first (ticked ms standing ∷ before) = ap (λ (o : Option ℕ). Some (unwrap_or o ms)) (opened_first before)

late_from : (opened : Option ℕ) (ms : ℕ) → nat_le 30000 (ms - unwrap_or opened ms) ≡ true
    → IsSomeAnd opened (λ at. at + 30000 ≤ ms)
late_from None ms late = absurd (omega (arith, leb-true 30000 (ms - ms) late))
late_from (Some at) ms late = omega (arith, leb-true 30000 (ms - at) late)

late_by : (opened : Option ℕ) (ms : ℕ) → IsSomeAnd opened (λ at. at + 30000 ≤ ms)
    → nat_le 30000 (ms - unwrap_or opened ms) ≡ true
late_by None ms late = absurd late
late_by (Some at) ms late = le-leb 30000 (ms - at) (omega arith)

pub gives_up_what_does_not_connect : GivesUpWhatDoesNotConnect
gives_up_what_does_not_connect before ms standing =
    let t = tenure_after before in
    let late = nat_le 30000 (ms - unwrap_or t.opened ms) in
    let long = nat_le (patience_of standing.is_ended) (ms - since_of ms standing t) in
    let first : t.opened ≡ first_tick before = opened_first before in (
      λ given_up.
          let parts : (not standing.is_connected ≡ true) × (late ≡ true) =
          and_parts (not standing.is_connected) late (without_from (not standing.is_connected && late) long given_up) in (
            not-true standing.is_connected parts.0,
            subst (λ (o : Option ℕ). IsSomeAnd o (λ at. at + 30000 ≤ ms)) first (late_from t.opened ms parts.1),
          ),
      λ (out, passed).
          let is_late : late ≡ true =
          late_by t.opened ms (subst (λ (o : Option ℕ). IsSomeAnd o (λ at. at + 30000 ≤ ms)) (sym first) passed) in
          cond-true (not standing.is_connected && late) (Some WithoutConnect) (if long then Some TookNothing else None)
          (and_from (not standing.is_connected) late (not_from_false standing.is_connected out) is_late),
    )
