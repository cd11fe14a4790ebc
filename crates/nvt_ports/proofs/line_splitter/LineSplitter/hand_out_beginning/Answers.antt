use Rattle.std.proofs.Common.{◌∙◌, drop, arith}
use Rattle.std.proofs.lemmas.List.{length-take-le}
use Rattle.nvt_ports.proofs.Splits.{handed_out_beginning}
use Rattle.nvt_ports.proofs.line_splitter.LineSplitter.hand_out_beginning.Goals as goal

pub copy_from_slice-requires : goal.copy_from_slice-requires
copy_from_slice-requires c = rw (length-take-le 1025 c.args.out.now c.requires) (omega arith)

pub returns-clause-line : goal.returns-clause-line
returns-clause-line c =
    rw (← c.self.view_is)
    (handed_out_beginning c.self.inside.bytes.items c.self.inside.skips c.copy_from_slice.new.self (drop 1025 c.args.out.now) c.clear.new.self.items
    (omega arith) (c.copy_from_slice.ensures.after ∙ c.deref.ensures.value) c.clear.ensures.items)
