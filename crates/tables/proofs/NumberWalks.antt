-- A loop over a table's numbers that changes each value by one function.
use Rattle.std.proofs.Common.{◌≡◌, ◌⊎◌, ℕ, ◌+◌, ◌-◌, ◌<◌, ◌≤◌, List, ◌++◌, length, map, set, take, drop, Option, Some, None, option_map, refl, sym, ap, ◌∙◌, inl, inr, arith, length-append}
use Rattle.std.proofs.lemmas.List.{append-nil, length-map, take-append-drop, take_all, drop_all, get_or_default, get_or_past, get_or-append_right, get_or-drop, length-take-le, set-get_or}
use Rattle.std.proofs.lemmas.Bool.{cases_lt}
use Rattle.std.proofs.lemmas.List.Edits.{map_over_more}
use Rattle.tables.specs.NumberTable.{place}
use Rattle.tables.proofs.NumberTables.{place_within}

module _ {T : Type 0} where
  -- the table that a walk over the numbers has come to: what stands below this number is changed by f
  unfoldable pub mapped_below : (T → T) → ℕ → List (Option T) → List (Option T)
  mapped_below f number table = map (option_map f) (take number table) ++ drop number table

  pub mapped_below-zero : (f : T → T) (table : List (Option T)) → mapped_below f 0 table ≡ table
  unfolding mapped_below
  mapped_below-zero f table = refl

  pub length-mapped_below : (f : T → T) (number : ℕ) (table : List (Option T)) → length (mapped_below f number table) ≡ length table
  unfolding mapped_below
  length-mapped_below f number table =
      length-append (map (option_map f) (take number table)) (drop number table)
      ∙ ap (λ n. n + length (drop number table)) (length-map (take number table) (option_map f))
      ∙ sym (length-append (take number table) (drop number table)) ∙ ap length (take-append-drop number table)

  -- past the end the walk has changed each value
  pub mapped_below-all : (f : T → T) (number : ℕ) (table : List (Option T)) → length table ≤ number → mapped_below f number table ≡ map (option_map f) table
  unfolding mapped_below
  mapped_below-all f number table past =
      rw (take_all number table past, drop_all number table past) (append-nil (map (option_map f) table))

  -- the walk finds at its number, and past it, what stood there at its start
  pub place-mapped_below : (f : T → T) (number : ℕ) (table : List (Option T)) (other : ℕ) → number ≤ other → place (mapped_below f number table) other ≡ place table other
  unfolding mapped_below
  place-mapped_below f number table other ahead = by_end (cases_lt (length table) number)
    where
      by_end : (length table < number) ⊎ (number ≤ length table) → place (mapped_below f number table) other ≡ place table other
      by_end (inl past) =
          get_or_past (mapped_below f number table) other None (omega (arith, length-mapped_below f number table))
          ∙ sym (get_or_past table other None (omega arith))
      by_end (inr within) =
          let long = length-map (take number table) (option_map f) ∙ length-take-le number table within in
          get_or-append_right (map (option_map f) (take number table)) (drop number table) number other None long ahead
          ∙ get_or-drop number table (other - number) None ∙ ap (place table) (omega arith)

  -- what a step of the walk leaves
  changed_there : (f : T → T) (number : ℕ) (table : List (Option T)) → number < length table → set (mapped_below f number table) number (option_map f (place (mapped_below f number table) number)) ≡ mapped_below f (number + 1) table
  unfolding mapped_below
  changed_there f number table within =
      let now = mapped_below f number table in
      map_over_more (option_map f) table now number (place now number) within refl
      (get_or_default now number None (place now number) (omega (arith, length-mapped_below f number table)))

  -- and goes on once it has changed the value there
  pub mapped_below-Some : (f : T → T) (number : ℕ) (table : List (Option T)) (value last : T) → place (mapped_below f number table) number ≡ Some value → last ≡ f value → set (mapped_below f number table) number (Some last) ≡ mapped_below f (number + 1) table
  mapped_below-Some f number table value last found changed =
      let now = mapped_below f number table in
      ap (λ slot. set now number slot) (ap Some changed ∙ ap (option_map f) (sym found))
      ∙ changed_there f number table (omega (arith, place_within now number value found, length-mapped_below f number table))

  -- or found none
  pub mapped_below-None : (f : T → T) (number : ℕ) (table : List (Option T)) → number < length table → place (mapped_below f number table) number ≡ None → mapped_below f number table ≡ mapped_below f (number + 1) table
  mapped_below-None f number table within found =
      let now = mapped_below f number table in
      sym (set-get_or now number None) ∙ ap (set now number) (found ∙ ap (option_map f) (sym found)) ∙ changed_there f number table within

  -- for `grind`: how a walk begins, goes on and ends
  pub ruleset walks = (mapped_below-zero, mapped_below-all, mapped_below-Some, mapped_below-None, length-mapped_below)
