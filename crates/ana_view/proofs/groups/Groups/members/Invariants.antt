use Rattle.std.proofs.Common.{◌≡◌, ◌<◌, ◌++◌, ℕ, [], filter, length, slice_index_or}
use Rattle.ana_view.specs.Tables.{each_of, is_member, nsids_of}
use Rattle.ana_view.proofs.groups.Groups.members.Given as goal

-- those so far, and those that are left and in the group, are all of each group
abbrev pub invariant-loop-nsid : goal.invariant-loop-nsid
invariant-loop-nsid l = record {
  next : goal.iterator-loop-nsid.can_next l.nsid-iterator;
  finite : goal.iterator-loop-nsid.is_finite l.nsid-iterator;
  len : length l.members.items ≡ 33;
  all : (group : ℕ) → group < 33 → slice_index_or (each_of l.members) group [] ++ filter (λ nsid. is_member l.fn.self.namespaces.now nsid group) l.nsid-iterator ≡ nsids_of l.fn.self group;
}
