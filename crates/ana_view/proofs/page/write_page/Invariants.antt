use Rattle.std.proofs.Common.{◌≡◌, ◌+◌, ◌*◌, ◌≤◌, ◌++◌, length, take}
use Rattle.std.specs.List.{flat_map}
use Rattle.nvt_fields.specs.Window.{window}
use Rattle.config_lists.specs.Namespace.{nsid_max}
use Rattle.ana_view.specs.Page.{descriptor_bytes}
use Rattle.ana_view.proofs.Pages.{header_of}
use Rattle.ana_view.proofs.page.write_page.Given as goal

-- the window shows the header and the descriptors so far
abbrev pub invariant-loop-group : goal.invariant-loop-group
invariant-loop-group l = record {
  at : length (header_of l.fn.counts.changes (length l.groups) ++ flat_map (descriptor_bytes l.groups_only l.fn.counts) (take l.group-index l.groups)) ≡ l.at;
  bound : l.at ≤ 16 + (32 + 4 * nsid_max) * l.group-index;
  shown : l.out ≡ window (header_of l.fn.counts.changes (length l.groups) ++ flat_map (descriptor_bytes l.groups_only l.fn.counts) (take l.group-index l.groups)) l.offset (length l.fn.out);
}
