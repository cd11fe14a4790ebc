-- Each row stands under its own identifier, whatever becomes of the table.
use Rattle.std.proofs.Common.{◌≡◌, ℕ, ◌<◌, ◌≤◌, ◌==◌, true, List, length, Option, Some, None, refl, sym, ap, subst, ◌∙◌, inl, inr, arith}
use Rattle.std.proofs.lemmas.Bool.{cases_eq}
use Rattle.std.proofs.lemmas.Bool.Decides.{nat_tests}
use Rattle.std.proofs.lemmas.List.{get_or-set_same, get_or-set_other}
use Rattle.tables.specs.NumberTable.{place, with_value, without}
use Rattle.tables.proofs.NumberTables.{length-with_value, length-without, place_within, place-replicate, place-without}
use Rattle.fabrics_connect.specs.declared.row.Row.{Row}
use Rattle.fabrics_connect.specs.Controllers.{AreControllers, CanBegin, ChangedAt, no_controllers}

abbrev pub StandUnderOwn : List (Option Row) → Type 0
StandUnderOwn rows = (cntlid : ℕ) (row : Row) → place rows cntlid ≡ Some row → row.cntlid ≡ cntlid

own_with : (rows : List (Option Row)) (cntlid : ℕ) (row : Row) → cntlid < length rows → row.cntlid ≡ cntlid → StandUnderOwn rows → StandUnderOwn (with_value rows cntlid row)
own_with rows cntlid row within is own c other found =
    elim (cases_eq c cntlid) [
      | inl same ↦
          let there : place (with_value rows cntlid row) c ≡ Some row = ap (place (with_value rows cntlid row)) same ∙ get_or-set_same rows cntlid (Some row) None within in
          let it : row ≡ other = cc in
          ap (λ (r : Row). r.cntlid) (sym it) ∙ is ∙ sym same
      | inr differs ↦ own c other (sym (get_or-set_other rows cntlid c (Some row) None differs) ∙ found)
    ]

own_without : (rows : List (Option Row)) (cntlid : ℕ) → StandUnderOwn rows → StandUnderOwn (without rows cntlid)
own_without rows cntlid own c other found =
    elim (cases_eq c cntlid) [
      | inl same ↦
          let test : (c == cntlid) ≡ true = grind (arith, nat_tests) in
          let none : place (without rows cntlid) c ≡ None = place-without rows cntlid c ∙ rw test refl in
          absurd (cc)
      | inr differs ↦ own c other (sym (get_or-set_other rows cntlid c None None differs) ∙ found)
    ]

-- none is under identifier 0
zero_with : (rows : List (Option Row)) (cntlid : ℕ) (row : Row) → 1 ≤ cntlid → place rows 0 ≡ None → place (with_value rows cntlid row) 0 ≡ None
zero_with rows cntlid row least unused =
    let differs : 0 ≡ cntlid → ⊥ = λ same. omega arith in
    get_or-set_other rows cntlid 0 (Some row) None differs ∙ unused

-- ---- no controller, one more, and one less

pub none_stand : AreControllers no_controllers
none_stand = record {
  places = refl;
  unused = refl;
  own = λ c row found. let none : place no_controllers c ≡ None = place-replicate 33 c in absurd (cc);
}

pub put_stand : (rows : List (Option Row)) (row : Row) → AreControllers rows → CanBegin rows row.cntlid → AreControllers (with_value rows row.cntlid row)
put_stand rows row are can = record {
  places = length-with_value rows row.cntlid row ∙ are.places;
  unused = zero_with rows row.cntlid row can.least are.unused;
  own = own_with rows row.cntlid row (omega (arith, are.places, can.most)) refl are.own;
}

pub removed_stand : (rows : List (Option Row)) (cntlid : ℕ) → AreControllers rows → AreControllers (without rows cntlid)
removed_stand rows cntlid are = record {
  places = length-without rows cntlid ∙ are.places;
  unused = zero_without rows cntlid are.unused;
  own = own_without rows cntlid are.own;
}
  where
    zero_without : (table : List (Option Row)) (c : ℕ) → place table 0 ≡ None → place (without table c) 0 ≡ None
    zero_without table c unused =
        elim (cases_eq 0 c) [
          | inl same ↦ let test : (0 == c) ≡ true = grind (arith, nat_tests) in place-without table c 0 ∙ rw test refl
          | inr differs ↦ get_or-set_other table c 0 None None differs ∙ unused
        ]

-- ---- a row that is changed, and keeps its identifier

-- identifier 0 has no row to change
least_of : (rows : List (Option Row)) (cntlid : ℕ) (row : Row) → place rows 0 ≡ None → place rows cntlid ≡ Some row → 1 ≤ cntlid
least_of rows cntlid row unused there =
    elim (cases_eq cntlid 0) [
      | inl same ↦ let none : place rows cntlid ≡ None = ap (place rows) same ∙ unused in absurd (cc)
      | inr differs ↦ omega arith
    ]

pub with_stand : (rows : List (Option Row)) (cntlid : ℕ) (old new : Row) → AreControllers rows → place rows cntlid ≡ Some old → new.cntlid ≡ old.cntlid → AreControllers (with_value rows cntlid new)
with_stand rows cntlid old new are there keeps = record {
  places = length-with_value rows cntlid new ∙ are.places;
  unused = zero_with rows cntlid new (least_of rows cntlid old are.unused there) are.unused;
  own = own_with rows cntlid new (place_within rows cntlid old there) (keeps ∙ are.own cntlid old there) are.own;
}

changed_by : (cntlid : ℕ) (f : Row → Row) (o : Option Row) (old new : List (Option Row)) → ((row : Row) → (f row).cntlid ≡ row.cntlid) → place old cntlid ≡ o → AreControllers old → ChangedAt cntlid f o old new → AreControllers new
changed_by cntlid f None old new keeps there are same = subst AreControllers (sym same) are
changed_by cntlid f (Some row) old new keeps there are changed =
    subst AreControllers (sym changed) (with_stand old cntlid row (f row) are there (keeps row))

pub changed_stand : (cntlid : ℕ) (f : Row → Row) (old new : List (Option Row)) → ((row : Row) → (f row).cntlid ≡ row.cntlid) → AreControllers old → ChangedAt cntlid f (place old cntlid) old new → AreControllers new
changed_stand cntlid f old new keeps are changed = changed_by cntlid f (place old cntlid) old new keeps refl are changed
