-- Numbers as lines spell them.
use Rattle.std.specs.Prelude.{◌≡◌, ℕ, ◌^◌, ◌<◌, ◌==◌, ◌&&◌, not, nat_lt, Bool, List, length, slice_index}
use Rattle.std.specs.Fmt.{decimal}
use Rattle.std.specs.Str.{all_ascii_digits}
use Rattle.std.specs.Str.Parse.{digits_value}

-- the word spells the number: decimal, without leading zeros
abbrev pub IsNumber : List ℕ → ℕ → Type 0
IsNumber word n = (word ≡ decimal n) × (n < 2 ^ 64)

-- each number has one spelling: 0 is spelled by its one digit, and no longer word begins with it
abbrev pub has_leading_zero : List ℕ → Bool
has_leading_zero word = nat_lt 1 (length word) && (slice_index word 0 == 48)

-- whether the word spells any number
abbrev pub is_number : List ℕ → Bool
is_number word =
    nat_lt 0 (length word) && (not (has_leading_zero word)
    && (all_ascii_digits word && nat_lt (digits_value 10 word) (2 ^ 64)))
