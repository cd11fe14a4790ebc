-- Fields that lie apart are found where they were written, and all else stays as it was.
use Rattle.std.proofs.Common.{◌≡◌, ℕ, ◌+◌, ◌-◌, ◌<◌, ◌≤◌, inl, inr, List, [], ◌∷◌, ◌++◌, length, get_or, take, drop, replicate, slice_range, refl, ap, ◌∙◌, arith, length-append, length-take, length-drop}
use Rattle.std.proofs.lemmas.Bool.{cases_lt}
use Rattle.std.proofs.lemmas.List.{ext_get_or, get_or-append_right, get_or-drop, get_or-replicate, get_or-take, get_or_append_left, get_or_past, length-replicate}
use Rattle.std.specs.List.{AllByRecursion}
use Rattle.identify_data.specs.Fields.{Field, table, with_bytes, with_fields}
use Rattle.identify_data.specs.Laws.{IsFound, IsOutside, Shows}

-- The fields lie in a structure of so many bytes from a place on: none begins before the one before it ends, and
-- the last ends within the structure.
abbrev pub AreApart : ℕ → ℕ → List Field → Type 0
AreApart len from [] = from ≤ len
AreApart len from (f ∷ fields) = (from ≤ f.offset) × AreApart len (f.offset + length f.bytes) fields

ends_within : (len from : ℕ) (fields : List Field) → AreApart len from fields → from ≤ len
ends_within len from [] apart = apart
ends_within len from (f ∷ fields) apart =
    let rest : f.offset + length f.bytes ≤ len = ends_within len (f.offset + length f.bytes) fields apart.1 in
    omega (arith, apart.0)

length-with_bytes : (offset : ℕ) (bytes structure : List ℕ) → offset + length bytes ≤ length structure → length (with_bytes offset bytes structure) ≡ length structure
unfolding with_bytes
length-with_bytes offset bytes structure fits =
    omega (arith, length-append (take offset structure) (bytes ++ drop (offset + length bytes) structure), length-append bytes (drop (offset + length bytes) structure), length-take offset structure, length-drop (offset + length bytes) structure)

-- a byte before the field, one of the field, and one behind it
get_or-before : (offset : ℕ) (bytes structure : List ℕ) (k : ℕ) → offset ≤ length structure → k < offset → get_or (with_bytes offset bytes structure) k 0 ≡ get_or structure k 0
unfolding with_bytes
get_or-before offset bytes structure k within before =
    get_or_append_left (take offset structure) (bytes ++ drop (offset + length bytes) structure) 0 k (omega (arith, length-take offset structure))
    ∙ get_or-take offset structure k 0 before

get_or-of : (offset : ℕ) (bytes structure : List ℕ) (j : ℕ) → offset ≤ length structure → j < length bytes → get_or (with_bytes offset bytes structure) (offset + j) 0 ≡ get_or bytes j 0
unfolding with_bytes
get_or-of offset bytes structure j within inside =
    get_or-append_right (take offset structure) (bytes ++ drop (offset + length bytes) structure) offset (offset + j) 0 (omega (arith, length-take offset structure)) (omega arith)
    ∙ ap (λ i. get_or (bytes ++ drop (offset + length bytes) structure) i 0) (omega arith)
    ∙ get_or_append_left bytes (drop (offset + length bytes) structure) 0 j inside

get_or-behind : (offset : ℕ) (bytes structure : List ℕ) (k : ℕ) → offset ≤ length structure → offset + length bytes ≤ k → get_or (with_bytes offset bytes structure) k 0 ≡ get_or structure k 0
unfolding with_bytes
get_or-behind offset bytes structure k within behind =
    get_or-append_right (take offset structure) (bytes ++ drop (offset + length bytes) structure) offset k 0 (omega (arith, length-take offset structure)) (omega arith)
    ∙ get_or-append_right bytes (drop (offset + length bytes) structure) (length bytes) (k - offset) 0 refl (omega arith)
    ∙ get_or-drop (offset + length bytes) structure (k - offset - length bytes) 0
    ∙ ap (λ i. get_or structure i 0) (omega arith)

length-with_fields : (fields : List Field) (from : ℕ) (structure : List ℕ) → AreApart (length structure) from fields → length (with_fields fields structure) ≡ length structure
length-with_fields [] from structure apart = refl
length-with_fields (f ∷ fields) from structure apart =
    let end = f.offset + length f.bytes in
    let fits : end ≤ length structure = ends_within (length structure) end fields apart.1 in
    let same : length (with_bytes f.offset f.bytes structure) ≡ length structure = length-with_bytes f.offset f.bytes structure fits in
    let on : AreApart (length (with_bytes f.offset f.bytes structure)) end fields = rw same apart.1 in
    length-with_fields fields end (with_bytes f.offset f.bytes structure) on ∙ same

-- a byte before all of the fields
before_all : (fields : List Field) (from : ℕ) (structure : List ℕ) (k : ℕ) → AreApart (length structure) from fields → k < from → get_or (with_fields fields structure) k 0 ≡ get_or structure k 0
before_all [] from structure k apart before = refl
before_all (f ∷ fields) from structure k apart before =
    let end = f.offset + length f.bytes in
    let fits : end ≤ length structure = ends_within (length structure) end fields apart.1 in
    let same : length (with_bytes f.offset f.bytes structure) ≡ length structure = length-with_bytes f.offset f.bytes structure fits in
    let on : AreApart (length (with_bytes f.offset f.bytes structure)) end fields = rw same apart.1 in
    before_all fields end (with_bytes f.offset f.bytes structure) k on (omega (arith, apart.0))
    ∙ get_or-before f.offset f.bytes structure k (omega arith) (omega (arith, apart.0))

-- a byte outside all of them
outside_all : (fields : List Field) (from : ℕ) (structure : List ℕ) (k : ℕ) → AreApart (length structure) from fields → AllByRecursion (IsOutside k) fields → get_or (with_fields fields structure) k 0 ≡ get_or structure k 0
outside_all [] from structure k apart outside = refl
outside_all (f ∷ fields) from structure k apart outside =
    let end = f.offset + length f.bytes in
    let fits : end ≤ length structure = ends_within (length structure) end fields apart.1 in
    let same : length (with_bytes f.offset f.bytes structure) ≡ length structure = length-with_bytes f.offset f.bytes structure fits in
    let on : AreApart (length (with_bytes f.offset f.bytes structure)) end fields = rw same apart.1 in
    let within : f.offset ≤ length structure = omega arith in
    outside_all fields end (with_bytes f.offset f.bytes structure) k on outside.1
    ∙ elim outside.0 [
      | inl before ↦ get_or-before f.offset f.bytes structure k within before
      | inr behind ↦ get_or-behind f.offset f.bytes structure k within behind
    ]

-- bytes that stand at a place
stands : (structure bytes : List ℕ) (offset : ℕ) → offset + length bytes ≤ length structure → ((j : ℕ) → j < length bytes → get_or structure (offset + j) 0 ≡ get_or bytes j 0) → slice_range structure offset (offset + length bytes) ≡ bytes
stands structure bytes offset fits each =
    let len : length (slice_range structure offset (offset + length bytes)) ≡ length bytes = omega (arith, length-take (offset + length bytes - offset) (drop offset structure), length-drop offset structure) in
    ext_get_or 0 (slice_range structure offset (offset + length bytes)) bytes len (λ j inside.
    get_or-take (offset + length bytes - offset) (drop offset structure) j 0 (omega arith)
    ∙ get_or-drop offset structure j 0
    ∙ each j (omega arith))

all_found : (fields : List Field) (from : ℕ) (structure : List ℕ) → AreApart (length structure) from fields → AllByRecursion (IsFound (with_fields fields structure)) fields
all_found [] from structure apart = tt
all_found (f ∷ fields) from structure apart =
    let end = f.offset + length f.bytes in
    let fits : end ≤ length structure = ends_within (length structure) end fields apart.1 in
    let next = with_bytes f.offset f.bytes structure in
    let same : length next ≡ length structure = length-with_bytes f.offset f.bytes structure fits in
    let on : AreApart (length next) end fields = rw same apart.1 in
    let whole : length (with_fields fields next) ≡ length structure = length-with_fields fields end next on ∙ same in
    let here : IsFound (with_fields fields next) f =
    stands (with_fields fields next) f.bytes f.offset (omega arith) (λ j inside.
    before_all fields end next (f.offset + j) on (omega arith)
    ∙ get_or-of f.offset f.bytes structure j (omega arith) inside) in
    (here, all_found fields end next on)

zero_at : (n k : ℕ) → ◌≡◌ {A = ℕ} (get_or (replicate n 0) k 0) 0
zero_at n k =
    elim (cases_lt k n) [
      | inl within ↦ get_or-replicate {A = ℕ} n k 0 0 within
      | inr past ↦ get_or_past {X = ℕ} (replicate n 0) k 0 (omega (arith, length-replicate {A = ℕ} n 0))
    ]

-- fields that lie apart over zeros
shown_over : (fields : List Field) (n : ℕ) → n ≡ 4096 → AreApart n 0 fields → Shows fields (with_fields fields (replicate n 0))
shown_over fields n len apart =
    let zeros = replicate {A = ℕ} n 0 in
    let all : length zeros ≡ n = length-replicate {A = ℕ} n 0 in
    let on : AreApart (length zeros) 0 fields = rw all apart in
    record {
      size = length-with_fields fields 0 zeros on ∙ all ∙ len;
      found = all_found fields 0 zeros on;
      zeros = λ place outside. outside_all fields 0 zeros place on outside ∙ zero_at n place;
    }

pub shown : (fields : List Field) → AreApart 4096 0 fields → Shows fields (table fields)
unfolding table
shown fields apart = shown_over fields 4096 refl apart
