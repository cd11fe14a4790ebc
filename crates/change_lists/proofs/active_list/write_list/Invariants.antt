use Rattle.std.proofs.Common.{◌≡◌, length, take}
use Rattle.nvt_fields.specs.Window.{window}
use Rattle.change_lists.specs.ActiveList.{list_page, nsids_above}
use Rattle.change_lists.proofs.active_list.write_list.Given as goal

-- the window shows those so far that are above the identifier
abbrev pub invariant-loop-nsid : goal.invariant-loop-nsid
invariant-loop-nsid l =
    record {
      len : length (list_page (nsids_above l.above (take l.nsid-index l.nsids))) ≡ l.at;
      shown : l.out ≡ window (list_page (nsids_above l.above (take l.nsid-index l.nsids))) 0 (length l.fn.out);
    }
