-- How many transfers one connection has after a change of one tag.
use Rattle.std.proofs.Common.{◌≡◌, ℕ, ◌+◌, ◌<◌, Bool, cond, List, [], ◌∷◌, length, map, set, Option, Some, None, is_some, count_by, refl, sym, ap, ◌∙◌, inl, inr, arith, length-set}
use Rattle.std.specs.List.{range_with_len}
use Rattle.std.proofs.lemmas.Bool.{cases_lt}
use Rattle.std.proofs.lemmas.List.{ext_get_or}
use Rattle.std.proofs.lemmas.List.FromFn.{get_or-map-range_with_len, length-map-range_with_len}
use Rattle.std.proofs.lemmas.List.Sums.{sum_by-cons, sum_by-set}
use Rattle.tables.specs.NumberTable.{place}
use Rattle.tables.proofs.NumberTables.{place_past, place_within, same_tables}
use Rattle.data_transfer.specs.Part.{Part}
use Rattle.data_transfer.specs.Parts.{count_of}
use Rattle.data_transfer.specs.Queue.{IsQueue, no_tags, tags_in}
use Rattle.data_transfer.proofs.Tags.{length-no_tags, place-no_tags}

-- a count over what a function makes of numbers is one over the numbers
count_by-map : {X : Type 0} (p : X → Bool) (f : ℕ → X) (ns : List ℕ) → count_by p (map f ns) ≡ count_by (λ n. p (f n)) ns
count_by-map p f [] = refl
count_by-map p f (n ∷ ns) =
    sum_by-cons (λ x. cond {A = ℕ} (p x) 1 0) (f n) (map f ns)
    ∙ ap (λ rest. cond {A = ℕ} (p (f n)) 1 0 + rest) (count_by-map p f ns)
    ∙ sym (sum_by-cons (λ m. cond {A = ℕ} (p (f m)) 1 0) n ns)

module _ {C : Type 0} where
  -- a list is what stands at its places
  places_of : (table : List (Option (Part C))) (n : ℕ) → length table ≡ n → map (place table) (range_with_len 0 n) ≡ table
  places_of table n long =
      ext_get_or None (map (place table) (range_with_len 0 n)) table
      (length-map-range_with_len (place table) 0 n ∙ sym long)
      (λ i within. get_or-map-range_with_len (place table) 0 n i i None (omega (arith, length-map-range_with_len (place table) 0 n)) (omega arith))

  count_of-table : (table : List (Option (Part C))) → length table ≡ 63 → count_of (place table) ≡ count_by is_some table
  unfolding count_of
  count_of-table table long =
      sym (count_by-map is_some (place table) (range_with_len 0 63)) ∙ ap (count_by is_some) (places_of table 63 long)

  -- one or none
  one : Option (Part C) → ℕ
  one slot = cond {A = ℕ} (is_some slot) 1 0

  count_of-set : (table : List (Option (Part C))) (n : ℕ) (slot : Option (Part C)) → length table ≡ 63 → n < 63
      → count_of (place (set table n slot)) + one (place table n) ≡ count_of (place table) + one slot
  unfolding one
  count_of-set table n slot long within =
      let after = count_of-table (set table n slot) (length-set table n slot ∙ long) in
      let before = count_of-table table long in
      let counted = sum_by-set (λ o. cond {A = ℕ} (is_some o) 1 0) table n slot None (omega arith) in
      omega arith

  -- a transfer begins
  pub count_of-begun : (table new : List (Option (Part C))) (n : ℕ) (part : Part C) → length table ≡ 63 → n < 63 → place table n ≡ None
      → new ≡ set table n (Some part) → count_of (place new) ≡ count_of (place table) + 1
  unfolding one
  count_of-begun table new n part long within free put =
      let counted = count_of-set table n (Some part) long within in
      let none : one (place table n) ≡ 0 = ap one free in
      let same : count_of (place new) ≡ count_of (place (set table n (Some part))) = ap (λ t. count_of (place t)) put in
      omega arith

  -- one is handed out
  pub count_of-removed : (table new : List (Option (Part C))) (n : ℕ) (part : Part C) → length table ≡ 63 → place table n ≡ Some part
      → new ≡ set table n None → count_of (place new) + 1 ≡ count_of (place table)
  unfolding one
  count_of-removed table new n part long found removed =
      let inside = place_within table n part found in
      let counted = count_of-set table n None long (omega arith) in
      let some : one (place table n) ≡ 1 = ap one found in
      let same : count_of (place new) ≡ count_of (place (set table n None)) = ap (λ t. count_of (place t)) removed in
      omega arith

  -- one goes on
  pub count_of-changed : (table new : List (Option (Part C))) (n : ℕ) (part next : Part C) → length table ≡ 63 → place table n ≡ Some part
      → new ≡ set table n (Some next) → count_of (place new) ≡ count_of (place table)
  unfolding one
  count_of-changed table new n part next long found changed =
      let inside = place_within table n part found in
      let counted = count_of-set table n (Some next) long (omega arith) in
      let some : one (place table n) ≡ 1 = ap one found in
      let same : count_of (place new) ≡ count_of (place (set table n (Some next))) = ap (λ t. count_of (place t)) changed in
      omega arith

  -- where none is counted there is none
  none_by : (slot : Option (Part C)) → one slot ≡ 0 → slot ≡ None
  unfolding one
  none_by None zero = refl
  none_by (Some part) zero = absurd (omega arith)

  pub uncounted : (table : List (Option (Part C))) → length table ≡ 63 → count_of (place table) ≡ 0 → table ≡ no_tags
  unfolding one
  uncounted table long none = same_tables table no_tags (long ∙ sym (length-no_tags C)) by_number
    where
      by_number : (n : ℕ) → place table n ≡ place no_tags n
      by_number n =
          elim (cases_lt n 63) [
            | inl within ↦
                let counted = count_of-set table n None long within in
                let zero : one (place table n) ≡ 0 = omega arith in
                none_by (place table n) zero ∙ sym (place-no_tags C n)
            | inr past ↦ place_past table n (omega arith) ∙ sym (place-no_tags C n)
          ]

  -- .. and the table may be given back
  pub uncounted_in : (count : ℕ) (table : Option (List (Option (Part C)))) → IsQueue count table → count ≡ 0 → tags_in table ≡ no_tags
  uncounted_in count None queue none = refl
  uncounted_in count (Some table) queue none = uncounted table queue.tags (sym queue.counted ∙ none)

pub ruleset counts = (count_of-begun, count_of-removed, count_of-changed)
