-- Sets of namespaces' identifiers. A set is the list of its identifiers, rising.
use Rattle.std.specs.Prelude.{◌≡◌, ℕ, ◌-◌, ◌/◌, ◌%◌, Bool, ◌==◌, ◌||◌, List, nat_eq, slice_index}
use Rattle.std.specs.Int.{bit_at}
use Rattle.std.specs.List.{list_any}
use Rattle.config_lists.specs.Numbered.{nsids_where}

-- the set with one identifier more, where a namespace may have that and it is not there yet
abbrev pub with_nsid : ℕ → List ℕ → List ℕ
with_nsid nsid set = nsids_where (λ n. (n == nsid) || list_any (nat_eq n) set)

-- whether the bit of an identifier is set, in words of 64 bits: that of 1 is the lowest of the first word
abbrev pub is_marked : List ℕ → ℕ → Bool
is_marked words nsid = bit_at (slice_index words ((nsid - 1) / 64)) ((nsid - 1) % 64) == 1

-- a list is the set of its identifiers: each is one that a namespace may have, and they rise
abbrev pub IsNsidSet : List ℕ → Type 0
IsNsidSet set = nsids_where (λ n. list_any (nat_eq n) set) ≡ set
