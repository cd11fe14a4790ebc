-- Where a name has its value, and what becomes of it where a value is put.
use lib.Pointwise.{bytes_decides}
use Rattle.std.proofs.Common.{◌≡◌, ℕ, Bool, true, false, Some, None, List, [], ◌∷◌, ◌++◌, Vec, Global, map, bytes_eq, refl, ap, sym, subst, append_assoc, ◌∙◌, inl, inr, if◌then◌else◌}
use Rattle.std.proofs.lemmas.Bool.{cases_Bool, both_ways}
use Rattle.std.specs.Cmp.{IsEquivalence}
use Rattle.std.proofs.lemmas.Cmp.{nat_list_eq_equiv, on_equiv}
use Rattle.std.specs.List.{IsDistinct}
use Rattle.std.specs.Map.{lookup, keys_of, KeepsOthers}
use Rattle.indexmap.specs.IndexMap.{insert_entry}
use Rattle.indexmap.proofs.MapLemmas.{absent_before, absent_from_lookup, insert_entry-absent}
use Rattle.tables.specs.NameTable.{IsPut, IsRemoved, value_of}

pub same_name : (a b : List ℕ) → bytes_eq a b ≡ true → a ≡ b
same_name a b same = (bytes_decides a b).0 same

-- how a map compares its keys
abbrev pub same_key : Vec ℕ Global → Vec ℕ Global → Bool
same_key j k = bytes_eq j.items k.items

same_key_equiv : IsEquivalence same_key
same_key_equiv = on_equiv (λ (k : Vec ℕ Global). k.items) nat_list_eq_equiv

module _ {T : Type 0} where
  -- a table as a map has it
  abbrev pub table_of : List (Vec ℕ Global × T) → List (List ℕ × T)
  table_of es = map (λ e. (e.0.items, e.1)) es

  pub found : (es : List (Vec ℕ Global × T)) (name : List ℕ) → value_of (table_of es) name ≡ lookup (λ key. bytes_eq name key.items) es
  found [] name = refl
  found (e ∷ es) name = ap (λ r. if bytes_eq name e.0.items then Some e.1 else r) (found es name)

  abbrev put_in : List (Vec ℕ Global × T) → Vec ℕ Global → T → List (Vec ℕ Global × T)
  put_in es key value = insert_entry same_key es key value

  pub put : (es : List (Vec ℕ Global × T)) (key : Vec ℕ Global) (value : T) → IsPut (table_of es) (table_of (put_in es key value)) key.items value
  put [] key value other = refl
  put (e ∷ es) key value other =
      elim (cases_Bool (bytes_eq key.items e.0.items)) [
        | inl same ↦
            let is : key.items ≡ e.0.items = same_name key.items e.0.items same in
            rw same (rw is (elim (cases_Bool (bytes_eq other e.0.items)) [
              | inl here ↦ rw here refl
              | inr there ↦ rw there refl
            ]))
        | inr apart ↦
            rw apart (elim (cases_Bool (bytes_eq other e.0.items)) [
              | inl here ↦
                  let own : other ≡ e.0.items = same_name other e.0.items here in
                  elim (cases_Bool (bytes_eq other key.items)) [
                    | inl both ↦
                        let is : key.items ≡ e.0.items = sym (same_name other key.items both) ∙ own in
                        absurd (both_ways (bytes_eq key.items e.0.items) apart ((bytes_decides key.items e.0.items).1 is))
                    | inr not ↦ rw here (rw not refl)
                  ]
              | inr there ↦ rw there (put es key value other)
            ])
      ]

  pub removed : (es left : List (Vec ℕ Global × T)) (name : List ℕ) → lookup (λ key. bytes_eq name key.items) left ≡ None
      → ((other : List ℕ) → bytes_eq other name ≡ false → lookup (λ key. bytes_eq other key.items) left ≡ lookup (λ key. bytes_eq other key.items) es)
      → IsRemoved (table_of es) (table_of left) name
  removed es left name gone kept other =
      found left other ∙ elim (cases_Bool (bytes_eq other name)) [
        | inl same ↦
            let is : other ≡ name = same_name other name same in
            rw same (ap (λ (n : List ℕ). lookup (λ key. bytes_eq n key.items) left) is ∙ gone)
        | inr apart ↦ rw apart (kept other apart ∙ sym (found es other))
      ]

  -- the same, from what a map says of a removal
  pub taken : (es left : List (Vec ℕ Global × T)) (name : List ℕ) → lookup (λ key. bytes_eq name key.items) left ≡ None
      → KeepsOthers same_key (λ key. bytes_eq name key.items) es left
      → IsRemoved (table_of es) (table_of left) name
  unfolding KeepsOthers
  taken es left name gone kept =
      removed es left name gone (λ other apart.
      kept (λ key. bytes_eq other key.items)
      (λ x y is. ap (λ (n : List ℕ). bytes_eq n y.items) (same_name other x.items is))
      (λ k is. ap (bytes_eq other) (sym (same_name name k.items is)) ∙ apart))

  pub nothing : (es : List (Vec ℕ Global × T)) → table_of es ≡ [] → es ≡ []
  nothing [] none = refl
  nothing (e ∷ es) none = cc

  -- of entries with distinct keys the first ones were put in their order; so the next one goes last
  pub put_last : (es rest all new : List (Vec ℕ Global × T)) (e : Vec ℕ Global × T) → IsDistinct same_key (keys_of all) → es ++ e ∷ rest ≡ all → new ≡ put_in es e.0 e.1 → new ++ rest ≡ all
  put_last es rest all new e distinct are put =
      let apart : IsDistinct same_key (keys_of (es ++ e ∷ rest)) = subst (λ l. IsDistinct same_key (keys_of l)) (sym are) distinct in
      let absent = absent_from_lookup (same_key e.0) es (absent_before same_key_equiv es rest e apart) in
      ap (λ l. l ++ rest) (put ∙ insert_entry-absent same_key e.0 e.1 es absent) ∙ append_assoc es (e ∷ []) rest ∙ are
