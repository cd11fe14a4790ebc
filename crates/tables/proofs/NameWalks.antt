-- A table in which some names were put one after the other, each with a value that goes by the name.
use lib.Pointwise.{bytes_decides}
use Rattle.std.proofs.Common.{◌≡◌, ℕ, Some, None, List, [], ◌∷◌, ◌++◌, bytes_eq, refl, ap, sym, ◌∙◌, inl, inr, if◌then◌else◌}
use Rattle.std.proofs.lemmas.Bool.{cases_Bool}
use Rattle.std.proofs.lemmas.List.Folds.{list_any-append}
use Rattle.std.specs.List.{list_any}
use Rattle.tables.specs.NameTable.{IsPut, value_of}

module _ {T : Type 0} (value : List ℕ → T) where
  -- each of these names has its value, and no other name has one
  abbrev pub AreThere : List (List ℕ) → List (List ℕ × T) → Type 0
  AreThere names table =
      (name : List ℕ) → value_of table name ≡ (if list_any (bytes_eq name) names then Some (value name) else None)

  -- .. one name more
  pub put_next : (names : List (List ℕ)) (name : List ℕ) (old new : List (List ℕ × T)) → AreThere names old → IsPut old new name (value name) → AreThere (names ++ name ∷ []) new
  put_next names name old new there put other =
      put other ∙ rw (list_any-append (bytes_eq other) names (name ∷ [])) (
      elim (cases_Bool (bytes_eq other name)) [
        | inl same ↦
            let is : other ≡ name = (bytes_decides other name).0 same in
            rw same (elim (cases_Bool (list_any (bytes_eq other) names)) [
              | inl some ↦ rw some (ap (λ n. Some (value n)) (sym is))
              | inr none ↦ rw none (ap (λ n. Some (value n)) (sym is))
            ])
        | inr apart ↦
            rw apart (there other ∙ elim (cases_Bool (list_any (bytes_eq other) names)) [
              | inl some ↦ rw some refl
              | inr none ↦ rw none refl
            ])
      ])
