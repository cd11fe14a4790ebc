-- Lists of namespace identifiers (Base 2.0, sections 5.16.1.5 and 5.17.2.2).
use Rattle.std.specs.Prelude.{ℕ, ◌/◌, ◌==◌, ◌&&◌, nat_le, Bool, List, [], length, if◌then◌else◌}
use Rattle.std.specs.List.{before_first}
use Rattle.host_pages.specs.Numbers.{number_at, numbers_from}

abbrev pub is_zero : ℕ → Bool
is_zero n = n == 0

-- FFFFFFFFh, which stands for all namespaces and is the identifier of none
abbrev pub all_namespaces : ℕ
all_namespaces = 4294967295

-- more namespaces changed than a list has room for: its first whole entry is FFFFFFFFh
abbrev pub is_overflowed : List ℕ → Bool
is_overflowed list = nat_le 4 (length list) && (number_at list 0 == all_namespaces)

-- of so many entries of 4 bytes from a place on, those before the first that is 0
unfoldable pub listed_from : List ℕ → ℕ → ℕ → List ℕ
listed_from list first count = before_first is_zero (numbers_from list first count)

-- of all whole entries; a list that overflowed names none
abbrev pub nsids_listed : List ℕ → List ℕ
nsids_listed list = if is_overflowed list then [] else listed_from list 0 (length list / 4)
