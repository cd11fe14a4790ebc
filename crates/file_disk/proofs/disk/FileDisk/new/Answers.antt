use Rattle.std.proofs.Common.{sym, ap, subst}
use Rattle.block_store.specs.Pieces.{AreUnits}
use Rattle.file_disk.specs.Replay.{Replayed}
use Rattle.file_disk.proofs.Kept.{held_are}
use Rattle.file_disk.proofs.disk.FileDisk.new.Goals as goal

pub invariant_of-result-clause-are : goal.invariant_of-result-clause-are
invariant_of-result-clause-are g c =
    let held = ap (λ (file : Replayed). file.contents) c.new.ensures in
    subst (AreUnits c.args.units) (sym held) (held_are (g.S.Start.held c.args.number) c.args.units)
