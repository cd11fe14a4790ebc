use Rattle.std.proofs.Common.{◌≡◌, ◌+◌, ◌*◌, ◌≤◌, length, take}
use Rattle.std.specs.List.{flat_map}
use Rattle.config_lists.specs.Namespace.{nsid_max}
use Rattle.ana_view.specs.Counts.{Counts}
use Rattle.ana_view.specs.Page.{descriptor_bytes}
use Rattle.ana_view.proofs.page.page_len.Given as goal

-- the length of the page of the groups so far
abbrev pub invariant-loop-group : goal.invariant-loop-group
invariant-loop-group l = record {
  len : (counts : Counts) → l.len ≡ 16 + length (flat_map (descriptor_bytes l.groups_only counts) (take l.group-index l.groups));
  bound : l.len ≤ 16 + (32 + 4 * nsid_max) * l.group-index;
}
