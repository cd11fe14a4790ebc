-- What stands under each identifier after a change of one row, for callers.
use Rattle.std.proofs.Common.{◌≡◌, ℕ, ◌==◌, true, false, if◌then◌else◌, List, length, Option, Some, None, option_map, refl, sym, ap, ◌∙◌, inl, inr, arith}
use Rattle.std.proofs.lemmas.Bool.{cases_eq}
use Rattle.std.proofs.lemmas.Bool.Decides.{nat_tests}
use Rattle.tables.specs.NumberTable.{place}
use Rattle.tables.proofs.NumberTables.{place-with_value_held, length-with_value}
use Rattle.fabrics_connect.specs.declared.row.Row.{Row}
use Rattle.fabrics_connect.specs.Controllers.{ChangedAt}

-- the row under the identifier, if one stood there, is changed, and the others stay
changed_there : (f : Row → Row) (cntlid c : ℕ) (here : Option Row) (o : Option Row) → (c ≡ cntlid → here ≡ o)
    → (if c == cntlid then option_map f o else here) ≡ (if c == cntlid then option_map f here else here)
changed_there f cntlid c here o same =
    elim (cases_eq c cntlid) [
      | inl equal ↦ ap (λ r. if c == cntlid then option_map f r else here) (sym (same equal))
      | inr differs ↦ let unequal : (c == cntlid) ≡ false = grind (arith, nat_tests) in rw unequal refl
    ]

by_row : (cntlid : ℕ) (f : Row → Row) (o : Option Row) (old new : List (Option Row)) → place old cntlid ≡ o → ChangedAt cntlid f o old new → (c : ℕ)
    → place new c ≡ (if c == cntlid then option_map f o else place old c)
by_row cntlid f None old new none same c =
    elim (cases_eq c cntlid) [
      | inl equal ↦ let test : (c == cntlid) ≡ true = grind (arith, nat_tests) in rw test (ap (λ t. place t c) same ∙ ap (place old) equal ∙ none)
      | inr differs ↦ let test : (c == cntlid) ≡ false = grind (arith, nat_tests) in rw test (ap (λ t. place t c) same)
    ]
by_row cntlid f (Some row) old new there changed c =
    ap (λ t. place t c) changed ∙ place-with_value_held old cntlid (f row) c row there

pub place-ChangedAt : (cntlid : ℕ) (f : Row → Row) (old new : List (Option Row)) → ChangedAt cntlid f (place old cntlid) old new → (c : ℕ)
    → place new c ≡ (if c == cntlid then option_map f (place old c) else place old c)
place-ChangedAt cntlid f old new changed c =
    by_row cntlid f (place old cntlid) old new refl changed c
    ∙ changed_there f cntlid c (place old c) (place old cntlid) (λ equal. ap (place old) equal)

-- as many identifiers as before
length_by_row : (cntlid : ℕ) (f : Row → Row) (o : Option Row) (old new : List (Option Row)) → ChangedAt cntlid f o old new → length new ≡ length old
length_by_row cntlid f None old new same = ap length same
length_by_row cntlid f (Some row) old new changed = ap length changed ∙ length-with_value old cntlid (f row)

pub length-ChangedAt : (cntlid : ℕ) (f : Row → Row) (old new : List (Option Row)) → ChangedAt cntlid f (place old cntlid) old new → length new ≡ length old
length-ChangedAt cntlid f old new changed = length_by_row cntlid f (place old cntlid) old new changed
