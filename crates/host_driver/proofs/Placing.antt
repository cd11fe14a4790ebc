-- What stands at an identifier, where something stands there after a change.
use Rattle.std.proofs.Common.{◌≡◌, ◌⊎◌, ℕ, ◌≤◌, ◌==◌, Bool, true, false, if◌then◌else◌, List, length, replicate, Option, Some, None, refl, sym, ap, ◌∙◌, inl, inr}
use Rattle.std.proofs.Common.{arith}
use Rattle.std.proofs.lemmas.Bool.{cases_lt}
use Rattle.std.proofs.lemmas.Bool.Decides.{nat_tests}
use Rattle.std.proofs.lemmas.List.{set_past}
use Rattle.tables.specs.NumberTable.{place, with_value, without}
use Rattle.tables.proofs.NumberTables.{place-replicate, place-with_value, place-without, place_past}
use Rattle.host_driver.specs.Pending.{Commands, Pending, changed_by}

module _ {T : Type 0} where
  -- it is what was put there, or stands elsewhere and as before
  abbrev pub Put : Bool → Option T → T → T → Type 0
  Put here before value x = ((here ≡ true) × (x ≡ value)) ⊎ ((here ≡ false) × (before ≡ Some x))

  some_is : (x other : T) → Some x ≡ Some other → other ≡ x
  some_is x other h = cc

  chosen : (here : Bool) (before : Option T) (value x : T) → (if here then Some value else before) ≡ Some x → Put here before value x
  chosen true before value x is = inl (refl, some_is value x is)
  chosen false before value x is = inr (refl, is)

  pub not_both : (slot : Option T) (x : T) → slot ≡ None → slot ≡ Some x → ⊥
  not_both slot x none some = cc

  -- past the end nothing stands
  past_end : (here : Bool) (before : Option T) (value x : T) → (here ≡ true → before ≡ None) → before ≡ Some x → Put here before value x
  past_end true before value x none is = absurd (not_both before x (none refl) is)
  past_end false before value x none is = inr (refl, is)

  pub placed_with : (table : List (Option T)) (number : ℕ) (value : T) (other : ℕ) (x : T) → place (with_value table number value) other ≡ Some x
      → Put (other == number) (place table other) value x
  placed_with table number value other x is =
      elim (cases_lt number (length table)) [
        | inl within ↦ chosen (other == number) (place table other) value x (sym (place-with_value table number value other within) ∙ is)
        | inr past ↦
            let same : with_value table number value ≡ table = set_past table number (Some value) past in
            past_end (other == number) (place table other) value x (empty past) (ap (λ t. place t other) (sym same) ∙ is)
      ]
    where
      empty : length table ≤ number → (other == number) ≡ true → place table other ≡ None
      empty past here = place_past table other (grind (arith, nat_tests, past, here))

  left_by : (here : Bool) (before : Option T) (x : T) → (if here then None else before) ≡ Some x → (here ≡ false) × (before ≡ Some x)
  left_by true before x is = cc
  left_by false before x is = (refl, is)

  pub placed_without : (table : List (Option T)) (number other : ℕ) (x : T) → place (without table number) other ≡ Some x
      → ((other == number) ≡ false) × (place table other ≡ Some x)
  placed_without table number other x is =
      left_by (other == number) (place table other) x (sym (place-without table number other) ∙ is)

  -- each value of a table, with its number, is so
  abbrev pub Each : (ℕ → T → Type 0) → List (Option T) → Type 0
  Each P table = (number : ℕ) (value : T) → place table number ≡ Some value → P number value

  moved : (P : ℕ → T → Type 0) (a b : ℕ) (x y : T) → (a == b) ≡ true → x ≡ y → P b y → P a x
  moved P a b x y at is holds =
      let same : a ≡ b = grind (arith, nat_tests, at) in
      rw (same, is) holds

  pub each_with : (P : ℕ → T → Type 0) (table : List (Option T)) (number : ℕ) (value : T) → P number value → Each P table
      → Each P (with_value table number value)
  each_with P table number value holds each = λ other x placed.
      elim (placed_with table number value other x placed) [
        | inl put ↦ moved P other number x value put.0 put.1 holds
        | inr stays ↦ each other x stays.1
      ]

  pub each_without : (P : ℕ → T → Type 0) (table : List (Option T)) (number : ℕ) → Each P table → Each P (without table number)
  each_without P table number each = λ other x placed. each other x (placed_without table number other x placed).1

  pub each_replicated : (P : ℕ → T → Type 0) (places : ℕ) → Each P (replicate places None)
  each_replicated P places = λ other x placed. absurd (not_both (place (replicate places None) other) x (place-replicate {T = T} places other) placed)

-- one of the commands was changed
pub each_changed : (P : ℕ → Pending → Type 0) (commands : Commands) (cid : ℕ) (change : Pending → Pending) (held : Option Pending)
    → ((p : Pending) → held ≡ Some p → P cid (change p)) → Each P commands → Each P (changed_by commands cid change held)
each_changed P commands cid change None keeps each = each
each_changed P commands cid change (Some p) keeps each = each_with P commands cid (change p) (keeps p refl) each
