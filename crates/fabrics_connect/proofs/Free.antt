-- The least identifier that is free: it is one of those that there are, no controller has it, and one has each
-- below it.
use Rattle.std.proofs.Common.{◌≡◌, ◌⊎◌, ℕ, zero, suc, ◌+◌, ◌<◌, ◌≤◌, Option, Some, None, is_none, is_some, IsSome, refl, sym, ap, ◌∙◌, inl, inr, arith}
use Rattle.std.specs.Prelude.{find, if◌then◌else◌}
use Rattle.std.specs.List.{range_with_len}
use Rattle.std.proofs.lemmas.Bool.{cases_eq}
use Rattle.fabrics_connect.specs.declared.row.Row.{Row}
use Rattle.fabrics_connect.specs.Controllers.{free_cntlid}

-- of so many identifiers from this one on, the first that is free
pub record IsFirstFree (row : ℕ → Option Row) (from len cntlid : ℕ) : Type 0 where
  pub least : from ≤ cntlid
  pub most : cntlid < from + len
  pub free : row cntlid ≡ None
  pub below : (other : ℕ) → from ≤ other → other < cntlid → IsSome (row other)

-- .. where the one that it begins with has this row, by what is so of the rest
with_row : (row : ℕ → Option Row) (from len cntlid : ℕ) (here : Option Row) → row from ≡ here
    → (find (λ c. is_none (row c)) (range_with_len (from + 1) len) ≡ Some cntlid → IsFirstFree row (from + 1) len cntlid)
    → (if is_none here then Some from else find (λ c. is_none (row c)) (range_with_len (from + 1) len)) ≡ Some cntlid
    → IsFirstFree row from (suc len) cntlid
with_row row from len cntlid None is rest found =
    let same : from ≡ cntlid = cc in
    record {
      least = omega arith;
      most = omega arith;
      free = ap row (sym same) ∙ is;
      below = λ other h k. absurd (omega arith);
    }
with_row row from len cntlid (Some r) is rest found =
    let later = rest found in
    record {
      least = omega arith;
      most = omega arith;
      free = later.free;
      below = λ other h k. elim (cases_eq other from) [
        | inl same ↦ ap is_some (ap row same ∙ is)
        | inr differs ↦ later.below other (omega arith) k
      ];
    }

first_free : (row : ℕ → Option Row) (from len cntlid : ℕ) → find (λ c. is_none (row c)) (range_with_len from len) ≡ Some cntlid → IsFirstFree row from len cntlid
first_free row from zero cntlid found = cc
first_free row from (suc len) cntlid found = with_row row from len cntlid (row from) refl (first_free row (from + 1) len cntlid) found

pub is_first_free : (row : ℕ → Option Row) (cntlid : ℕ) → free_cntlid row ≡ Some cntlid → IsFirstFree row 1 32 cntlid
unfolding free_cntlid
is_first_free row cntlid found = first_free row 1 32 cntlid found

-- ---- one is found where one is free

found_or : (here : Option Row) (from : ℕ) (rest : Option ℕ) → (here ≡ None) ⊎ IsSome rest → IsSome (if is_none here then Some from else rest)
found_or None from rest there = refl
found_or (Some r) from rest (inl none) = cc
found_or (Some r) from rest (inr later) = later

found : (row : ℕ → Option Row) (from len cntlid : ℕ) → from ≤ cntlid → cntlid < from + len → row cntlid ≡ None → IsSome (find (λ c. is_none (row c)) (range_with_len from len))
found row from zero cntlid least most free = absurd (omega arith)
found row from (suc len) cntlid least most free =
    found_or (row from) from (find (λ c. is_none (row c)) (range_with_len (from + 1) len)) (elim (cases_eq cntlid from) [
      | inl same ↦ inl (ap row (sym same) ∙ free)
      | inr differs ↦ inr (found row (from + 1) len cntlid (omega arith) (omega arith) free)
    ])

pub has_free : (row : ℕ → Option Row) (cntlid : ℕ) → 1 ≤ cntlid → cntlid ≤ 32 → row cntlid ≡ None → IsSome (free_cntlid row)
unfolding free_cntlid
has_free row cntlid least most free = found row 1 32 cntlid least (omega arith) free
