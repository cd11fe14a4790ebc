-- How each change of the keys and the slab keeps the layout, and what the table is then.
use Rattle.std.proofs.Common.{◌≡◌, ◌≢◌, ◌⊎◌, ℕ, zero, suc, ◌+◌, ◌<◌, ◌≤◌, cond, List, [], ◌∷◌, length, replicate, set, count_by, Option, Some, None, is_some, is_none, IsSome, refl, sym, ap, subst, ◌∙◌, inl, inr, arith, length-set, true≢false, false, not}
use Rattle.std.proofs.lemmas.Bool.{cases_eq}
use Rattle.std.proofs.lemmas.List.{get_or-set_same, get_or-set_other, length-map}
use Rattle.std.proofs.lemmas.List.Folds.{sum_by-replicate}
use Rattle.std.proofs.lemmas.List.Sums.{sum_by-set, prefix_len-le-length, position_or_len_is, fails_before_first, passes_at_first}
use Rattle.std.proofs.lemmas.Option.{same_Some, none-some}
use Rattle.std.specs.List.{position, position_or_len}
use lib.ListN.{get_or-map}
use Rattle.slab.specs.Slab.{Slab, get, slab_len, HasRoomFor, Updates, with_value}
use Rattle.slab.proofs.SlabLemmas.{Updates-with_value}
use Rattle.tables.specs.NumberTable.{place}
use Rattle.tables.specs.Layout.{value_under, table_of, IsLaidOut}
use Rattle.tables.proofs.NumberTables.{same_tables, place_within, place-replicate}

-- what stands at a number after a write of it
place_after : (keys : List (Option ℕ)) (n : ℕ) (slot : Option ℕ) (m key : ℕ) → n < length keys → place (set keys n slot) m ≡ Some key → ((m ≡ n) × (slot ≡ Some key)) ⊎ ((m ≢ n) × (place keys m ≡ Some key))
place_after keys n slot m key within found =
    elim (cases_eq m n) [
      | inl same ↦ inl (same, sym (ap (place (set keys n slot)) same ∙ get_or-set_same keys n slot None within) ∙ found)
      | inr differs ↦ inr (differs, sym (get_or-set_other keys n m slot None differs) ∙ found)
    ]

-- how many numbers are empty after a write
count-filled : (keys : List (Option ℕ)) (n key : ℕ) → n < length keys → place keys n ≡ None → count_by is_none (set keys n (Some key)) + 1 ≡ count_by is_none keys
count-filled keys n key within empty =
    let counted = sum_by-set (λ o. cond {A = ℕ} (is_none o) 1 0) keys n (Some key) None within in
    let one : cond {A = ℕ} (is_none (place keys n)) 1 0 ≡ 1 = ap (λ o. cond {A = ℕ} (is_none o) 1 0) empty in
    omega arith

count-emptied : (keys : List (Option ℕ)) (n key : ℕ) → place keys n ≡ Some key → count_by is_none (set keys n None) ≡ count_by is_none keys + 1
count-emptied keys n key found =
    let within = place_within keys n key found in
    let counted = sum_by-set (λ o. cond {A = ℕ} (is_none o) 1 0) keys n None None within in
    let zero : cond {A = ℕ} (is_none (place keys n)) 1 0 ≡ 0 = ap (λ o. cond {A = ℕ} (is_none o) 1 0) found in
    omega arith

module _ {T : Type 0} where
  pub place-table_of : (keys : List (Option ℕ)) (values : Slab T) (n : ℕ) → place (table_of keys values) n ≡ value_under values (place keys n)
  place-table_of keys values n = get_or-map (value_under values) keys n None

  -- a change of what stands under one number is a change of that place
  table_of-set : (keys keys' : List (Option ℕ)) (values values' : Slab T) (n : ℕ) (slot : Option T)
      → length keys' ≡ length keys → n < length keys
      → value_under values' (place keys' n) ≡ slot
      → ((m : ℕ) → m ≢ n → value_under values' (place keys' m) ≡ value_under values (place keys m))
      → table_of keys' values' ≡ set (table_of keys values) n slot
  table_of-set keys keys' values values' n slot long within here others =
      same_tables _ _
      (length-map keys' (value_under values') ∙ long ∙ sym (length-map keys (value_under values)) ∙ sym (length-set (table_of keys values) n slot))
      by_number
    where
      by_number : (m : ℕ) → place (table_of keys' values') m ≡ place (set (table_of keys values) n slot) m
      by_number m =
          elim (cases_eq m n) [
            | inl same ↦
                rw same (place-table_of keys' values' n ∙ here
                ∙ sym (get_or-set_same (table_of keys values) n slot None (omega (arith, length-map keys (value_under values)))))
            | inr differs ↦
                place-table_of keys' values' m ∙ others m differs ∙ sym (place-table_of keys values m)
                ∙ sym (get_or-set_other (table_of keys values) n m slot None differs)
          ]

  -- what stands under another key stays
  value_under_other : (values values' : Slab T) (key : ℕ) (slot : Option T) (o : Option ℕ) → Updates values values' key slot → o ≢ Some key → value_under values' o ≡ value_under values o
  value_under_other values values' key slot None updates differs = refl
  value_under_other values values' key slot (Some other) updates differs = updates.others other (λ same. differs (ap Some same))

  -- each other key with a value still has one
  held_after : (values values' : Slab T) (key other : ℕ) (slot : Option T) → Updates values values' key slot → (other ≡ key → IsSome slot) → IsSome (get values other) → IsSome (get values' other)
  held_after values values' key other slot updates some held =
      elim (cases_eq other key) [
        | inl same ↦ subst IsSome (sym (ap (get values') same ∙ updates.changed)) (some same)
        | inr differs ↦ subst IsSome (sym (updates.others other differs)) held
      ]

  -- a write through the slab
  pub table_of-with_value : (keys : List (Option ℕ)) (values : Slab T) (n key : ℕ) (value : T) → IsLaidOut keys values → place keys n ≡ Some key → table_of keys (with_value values key value) ≡ set (table_of keys values) n (Some value)
  table_of-with_value keys values n key value laid found =
      let updates = Updates-with_value values key value (laid.held n key found) in
      table_of-set keys keys values (with_value values key value) n (Some value) refl (place_within keys n key found)
      (ap (value_under (with_value values key value)) found ∙ updates.changed)
      (λ m differs. value_under_other values (with_value values key value) key (Some value) (place keys m) updates (λ same. differs (laid.unshared m n key same found)))

  -- the table has the numbers of the keys
  number_within : (keys : List (Option ℕ)) (values : Slab T) (n : ℕ) → n < length (table_of keys values) → n < length keys
  number_within keys values n within = omega (arith, length-map keys (value_under values))

  -- an empty number has no key
  empty_has_no_key : (keys : List (Option ℕ)) (values : Slab T) (n : ℕ) → IsLaidOut keys values → place (table_of keys values) n ≡ None → place keys n ≡ None
  empty_has_no_key keys values n laid empty = by_key (place keys n) refl
    where
      by_key : (o : Option ℕ) → place keys n ≡ o → o ≡ None
      by_key None is = refl
      by_key (Some key) is =
          let held = laid.held n key is in
          let none : get values key ≡ None = sym (place-table_of keys values n ∙ ap (value_under values) is) ∙ empty in
          absurd (true≢false (sym held ∙ ap is_some none))

  -- where a number is empty, the slab has room
  pub has_room : (keys : List (Option ℕ)) (values : Slab T) (n : ℕ) → IsLaidOut keys values → n < length (table_of keys values) → place (table_of keys values) n ≡ None → HasRoomFor values 1
  has_room keys values n laid within empty =
      let counted = count-filled keys n 0 (number_within keys values n within) (empty_has_no_key keys values n laid empty) in
      let room = laid.room in
      omega arith

  -- a value goes under a new key
  pub table_of-filled : (keys : List (Option ℕ)) (values values' : Slab T) (n key : ℕ) (value : T) → IsLaidOut keys values → n < length (table_of keys values) → get values key ≡ None → Updates values values' key (Some value) → table_of (set keys n (Some key)) values' ≡ set (table_of keys values) n (Some value)
  table_of-filled keys values values' n key value laid inside vacant updates =
      let within = number_within keys values n inside in
      let keys' = set keys n (Some key) in
      table_of-set keys keys' values values' n (Some value) (length-set keys n (Some key)) within
      (ap (value_under values') (get_or-set_same keys n (Some key) None within) ∙ updates.changed)
      (λ m differs.
      ap (value_under values') (get_or-set_other keys n m (Some key) None differs)
      ∙ value_under_other values values' key (Some value) (place keys m) updates
      (λ same. true≢false (sym (laid.held m key same) ∙ ap is_some vacant)))

  pub IsLaidOut-filled : (keys : List (Option ℕ)) (values values' : Slab T) (n key : ℕ) (value : T) → IsLaidOut keys values → n < length (table_of keys values) → place (table_of keys values) n ≡ None → get values key ≡ None → Updates values values' key (Some value) → slab_len values' ≡ slab_len values + 1 → values'.capacity ≡ values.capacity → IsLaidOut (set keys n (Some key)) values'
  IsLaidOut-filled keys values values' n key value laid inside empty vacant updates more same_capacity =
      let within = number_within keys values n inside in
      record {
        held = λ m other at.
            elim (place_after keys n (Some key) m other within at) [
              | inl here ↦ let same : key ≡ other = same_Some key other here.1 in subst IsSome (sym (ap (get values') (sym same) ∙ updates.changed)) refl
              | inr there ↦ held_after values values' key other (Some value) updates (λ _. refl) (laid.held m other there.1)
            ];
        unshared = λ m k other at_m at_k.
            elim (place_after keys n (Some key) m other within at_m) [
              | inl here ↦ elim (place_after keys n (Some key) k other within at_k) [
                | inl too ↦ here.0 ∙ sym too.0
                | inr there ↦ absurd (new_key k other (same_Some key other here.1) there.1)
              ]
              | inr there ↦ elim (place_after keys n (Some key) k other within at_k) [
                | inl here ↦ absurd (new_key m other (same_Some key other here.1) there.1)
                | inr too ↦ laid.unshared m k other there.1 too.1
              ]
            ];
        room = let room = laid.room in let counted = count-filled keys n key within (empty_has_no_key keys values n laid empty) in omega arith;
      }
    where
      new_key : (m other : ℕ) → key ≡ other → place keys m ≡ Some other → ⊥
      new_key m other same at = true≢false (sym (laid.held m other at) ∙ ap is_some (ap (get values) (sym same) ∙ vacant))

  -- a number's key and its value go
  pub table_of-emptied : (keys : List (Option ℕ)) (values values' : Slab T) (n key : ℕ) → IsLaidOut keys values → place keys n ≡ Some key → Updates values values' key None → table_of (set keys n None) values' ≡ set (table_of keys values) n None
  table_of-emptied keys values values' n key laid found updates =
      let within = place_within keys n key found in
      table_of-set keys (set keys n None) values values' n None (length-set keys n None) within
      (ap (value_under values') (get_or-set_same keys n None None within))
      (λ m differs.
      ap (value_under values') (get_or-set_other keys n m None None differs)
      ∙ value_under_other values values' key None (place keys m) updates (λ same. differs (laid.unshared m n key same found)))

  pub IsLaidOut-emptied : (keys : List (Option ℕ)) (values values' : Slab T) (n key : ℕ) → IsLaidOut keys values → place keys n ≡ Some key → Updates values values' key None → slab_len values' + 1 ≡ slab_len values → values'.capacity ≡ values.capacity → IsLaidOut (set keys n None) values'
  IsLaidOut-emptied keys values values' n key laid found updates fewer same_capacity =
      record {
        held = λ m other at.
            let there = kept m other at in
            held_after values values' key other None updates (λ same. absurd (there.0 (laid.unshared m n key (there.1 ∙ ap Some same) found))) (laid.held m other there.1);
        unshared = λ m k other at_m at_k. laid.unshared m k other (kept m other at_m).1 (kept k other at_k).1;
        room = let room = laid.room in let counted = count-emptied keys n key found in omega arith;
      }
    where
      kept : (m other : ℕ) → place (set keys n None) m ≡ Some other → (m ≢ n) × (place keys m ≡ Some other)
      kept m other at =
          elim (place_after keys n None m other (place_within keys n key found) at) [
            | inl here ↦ absurd (none-some other here.1)
            | inr there ↦ there
          ]

  -- a number is empty in the table exactly where it has no key
  is_none_under : (keys : List (Option ℕ)) (values : Slab T) (n : ℕ) → IsLaidOut keys values → is_none (place (table_of keys values) n) ≡ is_none (place keys n)
  is_none_under keys values n laid = ap is_none (place-table_of keys values n) ∙ by_key (place keys n) refl
    where
      by_key : (o : Option ℕ) → place keys n ≡ o → is_none (value_under values o) ≡ is_none o
      by_key None is = refl
      by_key (Some key) is = by_value (get values key) (laid.held n key is)
        where
          by_value : (v : Option T) → IsSome v → is_none v ≡ false
          by_value None held = absurd (true≢false (sym held))
          by_value (Some x) held = refl

  -- the first empty number is the first without a key
  pub position-table_of : (keys : List (Option ℕ)) (values : Slab T) → IsLaidOut keys values → position is_none (table_of keys values) ≡ position is_none keys
  position-table_of keys values laid =
      let table = table_of keys values in
      let long : length table ≡ length keys = length-map keys (value_under values) in
      let first = position_or_len is_none keys in
      let same : position_or_len is_none table ≡ first =
      position_or_len_is is_none table first None (omega (arith, long, prefix_len-le-length (λ o. not (is_none o)) keys))
      (λ k below. is_none_under keys values k laid ∙ fails_before_first is_none keys k None below)
      (λ below. is_none_under keys values first laid ∙ passes_at_first is_none keys None (omega (arith, long))) in
      rw (same, long)

  -- with no key, the table has no value
  pub table_of-replicate : (places : ℕ) (values : Slab T) → table_of (replicate places None) values ≡ replicate places None
  table_of-replicate zero values = refl
  table_of-replicate (suc places) values = ap (λ rest. None ∷ rest) (table_of-replicate places values)

  -- an empty slab with so much room
  pub IsLaidOut-replicate : (places : ℕ) (values : Slab T) → values.slots ≡ [] → places ≤ values.capacity → IsLaidOut (replicate places None) values
  IsLaidOut-replicate places values empty room =
      let none : (number key : ℕ) → place {T = ℕ} (replicate places None) number ≡ Some key → ⊥ = λ number key at. none-some key (sym (place-replicate places number) ∙ at) in
      let no_key : Option ℕ = None in
      let counted = sum_by-replicate (λ o. cond {A = ℕ} (is_none o) 1 0) places no_key in
      let no_values = ap (count_by is_some) empty in
      record {
        held = λ number key at. absurd (none number key at);
        unshared = λ m n key at_m at_n. absurd (none m key at_m);
        room = omega arith;
      }
