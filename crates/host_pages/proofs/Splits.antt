-- The groups at the front of bytes, one after another, and that no others stand there.
use Rattle.std.proofs.Common.{◌≡◌, ℕ, zero, suc, ◌+◌, ◌-◌, ◌*◌, ◌≤◌, All, true, List, [], ◌∷◌, ◌++◌, length, take, drop, refl, sym, ap, ◌∙◌, arith, append_assoc, length-append}
use Rattle.std.proofs.lemmas.List.{take-append-drop}
use Rattle.std.proofs.lemmas.List.Concat.{flat_map-cons}
use Rattle.std.proofs.lemmas.List.Elements.{All-cons, All-head, All-nil, All-same, All-tail}
use Rattle.std.proofs.Math.Seq.{drop-append_seam, take-append_seam}
use Rattle.host_pages.specs.Group.{IsGroup, group_len, nsid_count}
use Rattle.host_pages.specs.Groups.{front_group, groups_in, holds_groups}
use Rattle.host_pages.specs.Laws.{BeginsWith, GroupsAreTheSplit, joined}
use Rattle.host_pages.proofs.GroupLists.{front_is_group, groups_in-more, groups_in-none, holds_groups-more, holds_groups-none, holds_groups-room, nsid_count-take}

-- what stands behind a group in front of it
len_of_front : (group behind : List ℕ) → IsGroup group → group_len (group ++ behind) ≡ length group
len_of_front group behind is =
    let same : nsid_count group ≡ nsid_count (group ++ behind) =
    ap nsid_count (sym (take-append_seam group behind)) ∙ nsid_count-take (length group) (group ++ behind) (omega (arith, is)) in
    sym (is ∙ ap (λ k. 32 + 4 * k) same)

groups_in-split : (n : ℕ) (bytes : List ℕ) → groups_in (suc n) bytes ≡ front_group bytes ∷ groups_in n (drop (group_len bytes) bytes)
groups_in-split n bytes =
    let same : suc n - 1 ≡ n = omega arith in
    groups_in-more (suc n) bytes (omega arith) ∙ ap (λ k. front_group bytes ∷ groups_in k (drop (group_len bytes) bytes)) same

holds_groups-split : (n : ℕ) (bytes : List ℕ) → group_len bytes ≤ length bytes → holds_groups (suc n) bytes ≡ holds_groups n (drop (group_len bytes) bytes)
holds_groups-split n bytes room =
    let same : suc n - 1 ≡ n = omega arith in
    holds_groups-more (suc n) bytes (omega arith) room ∙ ap (λ k. holds_groups k (drop (group_len bytes) bytes)) same

held : (count : ℕ) (bytes : List ℕ) → holds_groups count bytes ≡ true → (length (groups_in count bytes) ≡ count) × BeginsWith bytes (groups_in count bytes)
held zero bytes holds = (
  ap length (groups_in-none bytes),
  record {
    each = All-same IsGroup (groups_in 0 bytes) [] (groups_in-none bytes) (All-nil IsGroup);
    whole = (bytes, ap (λ groups. joined groups ++ bytes) (sym (groups_in-none bytes)));
  },
)
held (suc n) bytes holds =
    let room = holds_groups-room (suc n) bytes (omega arith) holds in
    let behind = drop (group_len bytes) bytes in
    let later = held n behind (sym (holds_groups-split n bytes room) ∙ holds) in
    let split = groups_in-split n bytes in
    let rest = later.1.whole.0 in (
      ap length split ∙ ap suc later.0,
      record {
        each = All-same IsGroup (groups_in (suc n) bytes) (front_group bytes ∷ groups_in n behind) split (All-cons IsGroup (front_group bytes) (groups_in n behind) (front_is_group bytes room) later.1.each);
        whole = (
          rest,
          sym (take-append-drop (group_len bytes) bytes)
              ∙ ap (λ more. front_group bytes ++ more) later.1.whole.1
              ∙ sym (append_assoc (front_group bytes) (joined (groups_in n behind)) rest)
              ∙ ap (λ all. all ++ rest) (sym (flat_map-cons (λ part. part) (front_group bytes) (groups_in n behind)))
              ∙ ap (λ groups. joined groups ++ rest) (sym split),
        );
      },
    )

only_these : (groups : List (List ℕ)) (bytes rest : List ℕ) → All IsGroup groups → bytes ≡ joined groups ++ rest
    → (holds_groups (length groups) bytes ≡ true) × (groups_in (length groups) bytes ≡ groups)
only_these [] bytes rest each whole = (holds_groups-none bytes, groups_in-none bytes)
only_these (group ∷ later) bytes rest each whole =
    let behind = joined later ++ rest in
    let is : IsGroup group = All-head IsGroup group later each in
    let split : bytes ≡ group ++ behind =
    whole ∙ ap (λ all. all ++ rest) (flat_map-cons (λ part. part) group later) ∙ append_assoc group (joined later) rest in
    let len : group_len bytes ≡ length group = ap group_len split ∙ len_of_front group behind is in
    let total = ap length split ∙ length-append group behind in
    let room : group_len bytes ≤ length bytes = omega (arith, len, total) in
    let front : front_group bytes ≡ group =
    ap (λ k. take k bytes) len ∙ ap (take (length group)) split ∙ take-append_seam group behind in
    let back : drop (group_len bytes) bytes ≡ behind =
    ap (λ k. drop k bytes) len ∙ ap (drop (length group)) split ∙ drop-append_seam group behind in
    let others = only_these later behind rest (All-tail IsGroup group later each) refl in (
      holds_groups-split (length later) bytes room ∙ ap (holds_groups (length later)) back ∙ others.0,
      groups_in-split (length later) bytes
          ∙ ap (λ g. g ∷ groups_in (length later) (drop (group_len bytes) bytes)) front
          ∙ ap (λ more. group ∷ groups_in (length later) more) back
          ∙ ap (λ gs. group ∷ gs) others.1,
    )

pub groups_are_the_split : GroupsAreTheSplit
groups_are_the_split = record {
  held = held;
  only = λ bytes groups begins. only_these groups bytes begins.whole.0 begins.each begins.whole.1;
}
