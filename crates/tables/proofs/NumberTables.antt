-- What a table has at each number after a change, for this crate and its callers.
use Rattle.std.proofs.Common.{◌≡◌, ◌⊎◌, ℕ, ◌<◌, ◌≤◌, ◌==◌, true, false, if◌then◌else◌, List, length, replicate, map, set, Option, Some, None, is_none, IsSome, option_map, position, refl, sym, ap, ◌∙◌, inl, inr, arith, length-set}
use Rattle.std.specs.List.{position_or_len}
use Rattle.std.proofs.lemmas.Bool.{cases_eq, cases_lt, lt-ltb}
use Rattle.std.proofs.lemmas.Bool.Decides.{nat_tests}
use Rattle.std.proofs.lemmas.List.{ext_get_or, get_or_past, get_or-set_same, get_or-set_other, get_or-replicate, length-replicate, set-get_or, set-set, map-set}
use Rattle.std.proofs.lemmas.List.Quantifiers.{position-Some}
use Rattle.std.proofs.lemmas.List.Sums.{fails_before_first}
use lib.ListN.{get_or-map}
use Rattle.tables.specs.NumberTable.{place, with_value, without}

module _ {T : Type 0} where
  -- two tables of one length with the same at each number are equal
  pub same_tables : (a b : List (Option T)) → length a ≡ length b → ((number : ℕ) → place a number ≡ place b number) → a ≡ b
  same_tables a b long same = ext_get_or None a b long (λ number _. same number)

  -- a number with a value is one of the table's, and past them there is none
  pub place_within : (table : List (Option T)) (number : ℕ) (value : T) → place table number ≡ Some value → number < length table
  place_within table number value found = grind (arith, get_or_past)

  pub place_past : (table : List (Option T)) (number : ℕ) → length table ≤ number → place table number ≡ None
  place_past table number past = get_or_past table number None past

  pub length-with_value : (table : List (Option T)) (number : ℕ) (value : T) → length (with_value table number value) ≡ length table
  length-with_value table number value = length-set table number (Some value)

  pub length-without : (table : List (Option T)) (number : ℕ) → length (without table number) ≡ length table
  length-without table number = length-set table number None

  -- what stands at a number after a write of it, and after a write of another
  at_set : (table : List (Option T)) (number : ℕ) (slot : Option T) (other : ℕ) → (other ≡ number → place (set table number slot) number ≡ slot)
      → place (set table number slot) other ≡ (if other == number then slot else place table other)
  at_set table number slot other here =
      elim (cases_eq other number) [
        | inl same ↦
            let equal : (other == number) ≡ true = grind (arith, nat_tests) in
            rw equal (ap (place (set table number slot)) same ∙ here same)
        | inr differs ↦
            let unequal : (other == number) ≡ false = grind (arith, nat_tests) in
            rw unequal (get_or-set_other table number other slot None differs)
      ]

  pub place-with_value : (table : List (Option T)) (number : ℕ) (value : T) (other : ℕ) → number < length table
      → place (with_value table number value) other ≡ (if other == number then Some value else place table other)
  place-with_value table number value other within =
      at_set table number (Some value) other (λ _. get_or-set_same table number (Some value) None within)

  pub place-with_value_held : (table : List (Option T)) (number : ℕ) (value : T) (other : ℕ) (old : T) → place table number ≡ Some old
      → place (with_value table number value) other ≡ (if other == number then Some value else place table other)
  place-with_value_held table number value other old held =
      place-with_value table number value other (place_within table number old held)

  pub place-without : (table : List (Option T)) (number other : ℕ)
      → place (without table number) other ≡ (if other == number then None else place table other)
  place-without table number other = at_set table number None other (λ _. emptied (cases_lt number (length table)))
    where
      emptied : (number < length table) ⊎ (length table ≤ number) → place (without table number) number ≡ None
      emptied (inl within) = get_or-set_same table number None None within
      emptied (inr past) = get_or_past (without table number) number None (omega (arith, length-set table number None))

  -- a write of what stands there changes nothing
  pub with_value_same : (table : List (Option T)) (number : ℕ) (value : T) → place table number ≡ Some value → with_value table number value ≡ table
  with_value_same table number value held = ap (set table number) (sym held) ∙ set-get_or table number None

  pub without_None : (table : List (Option T)) (number : ℕ) → place table number ≡ None → without table number ≡ table
  without_None table number empty = ap (set table number) (sym empty) ∙ set-get_or table number None

  -- of two writes of one number the second stays
  pub with_value-with_value : (table : List (Option T)) (number : ℕ) (first second : T) → with_value (with_value table number first) number second ≡ with_value table number second
  with_value-with_value table number first second = set-set table number (Some first) (Some second)

  pub with_value-without : (table : List (Option T)) (number : ℕ) (value : T) → with_value (without table number) number value ≡ with_value table number value
  with_value-without table number value = set-set table number None (Some value)

  pub without-with_value : (table : List (Option T)) (number : ℕ) (value : T) → without (with_value table number value) number ≡ without table number
  without-with_value table number value = set-set table number (Some value) None

  pub place-replicate : (places number : ℕ) → place {T = T} (replicate places None) number ≡ None
  place-replicate places number = by_place (cases_lt number places)
    where
      by_place : (number < places) ⊎ (places ≤ number) → place {T = T} (replicate places None) number ≡ None
      by_place (inl within) = get_or-replicate places number None None within
      by_place (inr past) = get_or_past (replicate places None) number None (omega (arith, length-replicate {A = Option T} places None))

  -- the least empty number is empty and one of the table's, and each below it has a value
  pub least_free-Some : (table : List (Option T)) (number : ℕ) → position is_none table ≡ Some number → (place table number ≡ None) × (number < length table)
  least_free-Some table number first =
      let found = position-Some is_none table number None first in
      (none_is (place table number) found.1, found.0)
    where
      none_is : (slot : Option T) → is_none slot ≡ true → slot ≡ None
      none_is None empty = refl
      none_is (Some value) empty = cc

  is_some_unless : (slot : Option T) → is_none slot ≡ false → IsSome slot
  is_some_unless None held = sym held
  is_some_unless (Some value) held = refl

  pub least_free_below : (table : List (Option T)) (number other : ℕ) → position is_none table ≡ Some number → other < number → IsSome (place table other)
  least_free_below table number other first below =
      is_some_unless (place table other) ((position-Some is_none table number None first).2 other below)

  -- with no empty number, each of the table's has a value
  pub least_free-None : (table : List (Option T)) (number : ℕ) → position is_none table ≡ None → number < length table → IsSome (place table number)
  least_free-None table number full within =
      elim (cases_lt (position_or_len is_none table) (length table)) [
        | inl there ↦
            let first : position is_none table ≡ Some (position_or_len is_none table) = rw (lt-ltb (position_or_len is_none table) (length table) there) refl in
            cc
        | inr past ↦ is_some_unless (place table number) (fails_before_first is_none table number None (omega arith))
      ]

  no_value : (slot : Option T) → slot ≡ None → IsSome slot → ⊥
  no_value None is some = cc
  no_value (Some value) is some = cc

  -- with an empty number, there is a least one
  pub least_free_found : (table : List (Option T)) (number : ℕ) → number < length table → place table number ≡ None → (least : ℕ) × (position is_none table ≡ Some least) × (least ≤ number)
  least_free_found table number within empty = by_first (position is_none table) refl
    where
      by_first : (first : Option ℕ) → position is_none table ≡ first → (least : ℕ) × (position is_none table ≡ Some least) × (least ≤ number)
      by_first None is = absurd (no_value (place table number) empty (least_free-None table number is within))
      by_first (Some least) is =
          elim (cases_lt number least) [
            | inl below ↦ absurd (no_value (place table number) empty (least_free_below table least number is below))
            | inr above ↦ (least, is, above)
          ]

module _ {T U : Type 0} where
  -- what stands at a number where each value is changed by one function
  pub place-map : (f : T → U) (table : List (Option T)) (number : ℕ) → place (map (option_map f) table) number ≡ option_map f (place table number)
  place-map f table number = get_or-map (option_map f) table number None

  pub map-with_value : (f : T → U) (table : List (Option T)) (number : ℕ) (value : T) → map (option_map f) (with_value table number value) ≡ with_value (map (option_map f) table) number (f value)
  map-with_value f table number value = map-set (option_map f) table number (Some value)

  pub map-without : (f : T → U) (table : List (Option T)) (number : ℕ) → map (option_map f) (without table number) ≡ without (map (option_map f) table) number
  map-without f table number = map-set (option_map f) table number None

-- for `grind`: what stands at each number, the writes that change nothing, and the least empty number
pub ruleset laws = (place_within, length-with_value, length-without, place-with_value, place-without, with_value_same, without_None, place-replicate, place-map, least_free-Some)
