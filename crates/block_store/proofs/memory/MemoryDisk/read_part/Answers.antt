use Rattle.std.proofs.Common.{◌∙◌, ap, length, ◌/◌}
use Rattle.block_store.specs.Range.{bytes_of}
use Rattle.block_store.proofs.Shown.{shown_read}
use Rattle.block_store.proofs.memory.MemoryDisk.read_part.Goals as goal

pub returns : goal.returns
returns c =
    let disk = c.args.self.now in
    c.read.ensures
    ∙ ap bytes_of (shown_read disk.tables.items (length disk.tables.items) disk.units disk.whole disk.room c.args.first c.index.result.now
    c.requires.place c.index.ensures (length c.args.out.now / 512) c.requires.part c.requires.within)
