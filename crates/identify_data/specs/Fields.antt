-- A data structure as a table: fields at their offsets, and zeros everywhere else.
use Rattle.std.specs.Prelude.{ℕ, ◌+◌, List, [], ◌∷◌, ◌++◌, length, take, drop, replicate}
use Rattle.std.specs.Int.{w16, w32, w64, to_le_bytes}

pub record Field : Type 0 where
  pub offset : ℕ
  pub bytes : List ℕ

abbrev pub at : ℕ → List ℕ → Field
at offset bytes = record { offset = offset; bytes = bytes }

-- numbers of 1, 2, 4 and 8 bytes (Base 2.0, section 1.4)
abbrev pub byte : ℕ → List ℕ
byte n = n ∷ []

abbrev pub word : ℕ → List ℕ
word n = to_le_bytes w16 n

abbrev pub dword : ℕ → List ℕ
dword n = to_le_bytes w32 n

abbrev pub qword : ℕ → List ℕ
qword n = to_le_bytes w64 n

-- the structure with these bytes at this offset
unfoldable pub with_bytes : ℕ → List ℕ → List ℕ → List ℕ
with_bytes offset bytes structure = take offset structure ++ (bytes ++ drop (offset + length bytes) structure)

-- the structure with each of these fields at its offset
abbrev pub with_fields : List Field → List ℕ → List ℕ
with_fields [] structure = structure
with_fields (f ∷ fields) structure = with_fields fields (with_bytes f.offset f.bytes structure)

-- these fields over 4,096 zeros
unfoldable pub table : List Field → List ℕ
table fields = with_fields fields (replicate 4096 0)
