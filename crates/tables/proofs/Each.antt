-- A table with a word for each of its values in the place of the value.
use Rattle.std.proofs.Common.{◌≡◌, ℕ, List, [], ◌∷◌, map, bytes_eq, refl, ap, sym, ◌∙◌, inl, inr}
use Rattle.std.proofs.lemmas.Bool.{cases_Bool}
use Rattle.std.specs.Option.{option_map}
use Rattle.tables.specs.NameTable.{IsPut, IsRemoved, value_of}

module _ {T U : Type 0} (word : T → U) where
  abbrev pub each : List (List ℕ × T) → List (List ℕ × U)
  each table = map (λ e. (e.0, word e.1)) table

  pub value_of_each : (table : List (List ℕ × T)) (name : List ℕ) → value_of (each table) name ≡ option_map word (value_of table name)
  value_of_each [] name = refl
  value_of_each (e ∷ table) name =
      elim (cases_Bool (bytes_eq name e.0)) [
        | inl same ↦ rw same refl
        | inr apart ↦ rw apart (value_of_each table name)
      ]

  pub put_each : (old new : List (List ℕ × T)) (name : List ℕ) (value : T) → IsPut old new name value → IsPut (each old) (each new) name (word value)
  put_each old new name value put other =
      value_of_each new other ∙ ap (option_map word) (put other) ∙ elim (cases_Bool (bytes_eq other name)) [
        | inl same ↦ rw same refl
        | inr apart ↦ rw apart (sym (value_of_each old other))
      ]

  pub removed_each : (old new : List (List ℕ × T)) (name : List ℕ) → IsRemoved old new name → IsRemoved (each old) (each new) name
  removed_each old new name removed other =
      value_of_each new other ∙ ap (option_map word) (removed other) ∙ elim (cases_Bool (bytes_eq other name)) [
        | inl same ↦ rw same refl
        | inr apart ↦ rw apart (sym (value_of_each old other))
      ]
