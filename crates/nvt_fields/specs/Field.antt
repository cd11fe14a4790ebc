-- Numbers and texts at their places in a field.
use Rattle.std.specs.Prelude.{ℕ, ◌-◌, List, ◌++◌, length, drop, replicate}
use Rattle.byteorder.specs.Endian.{little_number}

-- the number in n bytes from place at, the lowest byte first (Base 2.0, section 1.4)
unfoldable pub field_at : ℕ → ℕ → List ℕ → ℕ
field_at n at bytes = little_number n (drop at bytes)

-- the text, and as many bytes after it as the field's length wants
abbrev pub padded : ℕ → ℕ → List ℕ → List ℕ
padded len padding text = text ++ replicate (len - length text) padding
