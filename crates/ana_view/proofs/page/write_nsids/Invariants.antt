use Rattle.std.proofs.Common.{◌≡◌, ◌+◌, ◌++◌, List, ℕ, length, take}
use Rattle.nvt_fields.specs.Window.{window}
use Rattle.ana_view.specs.Page.{nsid_bytes}
use Rattle.ana_view.proofs.page.write_nsids.Given as goal

-- the window shows the page and the identifiers so far
abbrev pub invariant-loop-nsid : goal.invariant-loop-nsid
invariant-loop-nsid l =
    record {
      next : l.next ≡ l.fn.at + length (nsid_bytes (take l.nsid-index l.nsids));
      shown : (page : List ℕ) → length page ≡ l.fn.at → l.fn.out ≡ window page l.offset (length l.fn.out)
          → l.out ≡ window (page ++ nsid_bytes (take l.nsid-index l.nsids)) l.offset (length l.fn.out);
    }
