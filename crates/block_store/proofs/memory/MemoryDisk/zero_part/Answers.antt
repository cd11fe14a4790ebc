use Rattle.std.proofs.Common.{arith, length, replicate}
use Rattle.std.proofs.lemmas.List.{length-replicate}
use Rattle.block_store.specs.Unit.{zero_unit}
use Rattle.block_store.proofs.Shown.{shown_after}
use Rattle.block_store.proofs.memory.MemoryDisk.zero_part.Goals as goal

pub returns-clause-zeroed : goal.returns-clause-zeroed
returns-clause-zeroed c =
    let disk = c.args.self.now in
    let zeros = length-replicate c.args.count zero_unit in
    shown_after disk.tables.items (length disk.tables.items) disk.units disk.whole disk.room c.args.first c.index_mut.result.now
    c.requires.place c.index_mut.ensures.value c.zero.new.self (replicate c.args.count zero_unit)
    (omega (arith, zeros, c.requires)) (omega (arith, zeros, c.requires)) c.zero.ensures
