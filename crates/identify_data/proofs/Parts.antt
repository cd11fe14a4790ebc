-- A table, written field by field over zeros.
use Rattle.std.proofs.Common.{◌≡◌, ℕ, List, [], replicate, refl, ap, ◌∙◌}
use Rattle.identify_data.specs.Fields.{Field, table, with_fields}

pub table_of : (fields : List Field) → table fields ≡ with_fields fields (table [])
unfolding table
table_of fields = refl

-- as many zeros as the structure has bytes
pub table_of_none : (n : ℕ) (structure : List ℕ) → n ≡ 4096 → structure ≡ replicate n 0 → structure ≡ table []
unfolding table
table_of_none n structure whole zeros = zeros ∙ ap (λ (m : ℕ). replicate m 0) whole
