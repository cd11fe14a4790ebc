-- Groups that stand one after the other.
use Rattle.std.specs.Prelude.{ℕ, zero, suc, ◌+◌, Bool, nat_le, List, length, map, take, drop}
use Rattle.std.specs.List.{range_with_len}
use Rattle.host_pages.specs.Group.{group_len}

-- where the group of that number stands, from 0 on: each begins where the one before it ends
abbrev pub group_place : List ℕ → ℕ → ℕ
group_place bytes zero = 0
group_place bytes (suc n) = group_place bytes n + group_len (drop (group_place bytes n) bytes)

-- the group in front, and that of a number
abbrev pub front_group : List ℕ → List ℕ
front_group bytes = take (group_len bytes) bytes

abbrev pub group_at : List ℕ → ℕ → List ℕ
group_at bytes n = front_group (drop (group_place bytes n) bytes)

-- the first so many
unfoldable pub groups_in : ℕ → List ℕ → List (List ℕ)
groups_in count bytes = map (group_at bytes) (range_with_len 0 count)

-- whether the bytes are as long as so many groups: the place where one more would begin is not past their end
unfoldable pub holds_groups : ℕ → List ℕ → Bool
holds_groups count bytes = nat_le (group_place bytes count) (length bytes)
