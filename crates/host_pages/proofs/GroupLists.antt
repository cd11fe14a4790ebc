-- Groups one after the other: the one in front, and those behind it.
use Rattle.std.proofs.Common.{◌≡◌, ℕ, zero, suc, ◌+◌, ◌-◌, ◌*◌, ◌<◌, ◌≤◌, true, false, List, [], ◌∷◌, length, map, take, drop, refl, sym, ap, ◌∙◌, arith, length-drop}
use Rattle.std.proofs.lemmas.Bool.Decides.{nat_tests}
use Rattle.std.proofs.lemmas.List.{drop-drop, drop-take, length-take-le}
use Rattle.std.specs.List.{range_with_len}
use Rattle.byteorder.specs.Endian.{little_number}
use Rattle.byteorder.specs.Numbers.{little_from-take}
use Rattle.nvt_fields.specs.Field.{field_at}
use Rattle.host_pages.specs.Group.{IsGroup, group_len, nsid_count}
use Rattle.host_pages.specs.Groups.{front_group, group_at, group_place, groups_in, holds_groups}

-- ---- places

-- a place past the first group is one among the groups behind it
pub group_place-behind : (bytes : List ℕ) (n : ℕ) → group_place bytes (suc n) ≡ group_len bytes + group_place (drop (group_len bytes) bytes) n
group_place-behind bytes zero = omega arith
group_place-behind bytes (suc n) =
    let len = group_len bytes in
    let behind = drop len bytes in
    let before = group_place-behind bytes n in
    let there : drop (group_place bytes (suc n)) bytes ≡ drop (group_place behind n) behind =
    ap (λ k. drop k bytes) before ∙ sym (drop-drop (group_place behind n) len bytes) in
    let same = ap group_len there in
    omega (arith, before, same)

group_at-behind : (bytes : List ℕ) (n : ℕ) → group_at bytes (suc n) ≡ group_at (drop (group_len bytes) bytes) n
group_at-behind bytes n =
    let len = group_len bytes in
    ap front_group (ap (λ k. drop k bytes) (group_place-behind bytes n) ∙ sym (drop-drop (group_place (drop len bytes) n) len bytes))

pub map-behind : {X : Type 0} (f g : ℕ → X) → ((n : ℕ) → f (suc n) ≡ g n) → (a n : ℕ) → map f (range_with_len (a + 1) n) ≡ map g (range_with_len a n)
map-behind f g same a zero = refl
map-behind f g same a (suc n) =
    let one : a + 1 ≡ suc a = omega arith in
    ap (λ x. x ∷ map f (range_with_len (a + 1 + 1) n)) (ap f one ∙ same a) ∙ ap (λ xs. g a ∷ xs) (map-behind f g same (a + 1) n)

-- ---- the group in front

pub groups_in-none : (bytes : List ℕ) → groups_in 0 bytes ≡ []
unfolding groups_in
groups_in-none bytes = refl

groups_in-suc : (n : ℕ) (bytes : List ℕ) → groups_in (suc n) bytes ≡ front_group bytes ∷ groups_in n (drop (group_len bytes) bytes)
unfolding groups_in
groups_in-suc n bytes =
    ap (λ gs. front_group bytes ∷ gs) (map-behind (group_at bytes) (group_at (drop (group_len bytes) bytes)) (group_at-behind bytes) 0 n)

pub groups_in-more : (count : ℕ) (bytes : List ℕ) → 0 < count
    → groups_in count bytes ≡ front_group bytes ∷ groups_in (count - 1) (drop (group_len bytes) bytes)
groups_in-more zero bytes some = absurd (omega (arith, some))
groups_in-more (suc n) bytes some = let same : suc n - 1 ≡ n = omega arith in rw same (groups_in-suc n bytes)

-- how many identifiers a group counts is seen in its first 8 bytes
pub nsid_count-take : (m : ℕ) (bytes : List ℕ) → 8 ≤ m → nsid_count (take m bytes) ≡ nsid_count bytes
unfolding field_at
nsid_count-take m bytes enough =
    let split : m ≡ 4 + (m - 4) = omega arith in
    ap (λ k. nsid_count (take k bytes)) split
    ∙ ap (little_number 4) (drop-take 4 (m - 4) bytes)
    ∙ little_from-take 0 4 (m - 4) (drop 4 bytes) (omega arith)

pub front_is_group : (bytes : List ℕ) → group_len bytes ≤ length bytes → IsGroup (front_group bytes)
front_is_group bytes room =
    let same = nsid_count-take (group_len bytes) bytes (omega arith) in
    length-take-le (group_len bytes) bytes room ∙ ap (λ k. 32 + 4 * k) (sym same)

-- ---- bytes that hold groups

pub holds_groups-none : (bytes : List ℕ) → holds_groups 0 bytes ≡ true
unfolding holds_groups
holds_groups-none bytes = grind (arith, nat_tests)

-- they hold the one in front ..
pub holds_groups-room : (count : ℕ) (bytes : List ℕ) → 0 < count → holds_groups count bytes ≡ true → group_len bytes ≤ length bytes
unfolding holds_groups
holds_groups-room zero bytes some holds = absurd (omega (arith, some))
holds_groups-room (suc n) bytes some holds =
    let place = group_place-behind bytes n in
    let within : group_place bytes (suc n) ≤ length bytes = grind (arith, nat_tests) in
    omega (arith, place, within)

-- .. and behind it the others
pub holds_groups-more : (count : ℕ) (bytes : List ℕ) → 0 < count → group_len bytes ≤ length bytes
    → holds_groups count bytes ≡ holds_groups (count - 1) (drop (group_len bytes) bytes)
unfolding holds_groups
holds_groups-more zero bytes some room = absurd (omega (arith, some))
holds_groups-more (suc n) bytes some room =
    let same : suc n - 1 ≡ n = omega arith in
    let place = group_place-behind bytes n in
    let len = length-drop (group_len bytes) bytes in
    rw same (grind (arith, nat_tests, place, len))

pub holds_groups-short : (count : ℕ) (bytes : List ℕ) → 0 < count → length bytes < group_len bytes → holds_groups count bytes ≡ false
unfolding holds_groups
holds_groups-short zero bytes some short = absurd (omega (arith, some))
holds_groups-short (suc n) bytes some short =
    let place = group_place-behind bytes n in grind (arith, nat_tests, place)

pub ruleset groups = (front_is_group, groups_in-none, groups_in-more, holds_groups-room, holds_groups-more)
