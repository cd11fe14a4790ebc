use Rattle.std.proofs.Common.{sym, length}
use Rattle.block_store.proofs.Shown.{shown_long}
use Rattle.block_store.proofs.memory.MemoryDiskDisk.blocks.Goals as goal

pub returns : goal.returns
returns c =
    let disk = c.args.self.now in
    sym (shown_long disk.tables.items (length disk.tables.items) disk.units disk.whole disk.room)
