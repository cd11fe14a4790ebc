use Rattle.std.proofs.Common.{arith, [], length, ◌/◌}
use Rattle.std.proofs.lemmas.List.{length-set}
use Rattle.std.proofs.lemmas.List.Elements.{All-from_get_or}
use Rattle.block_store.specs.Unit.{IsUnit}
use Rattle.block_store.proofs.Shown.{shown_after, tables_after}
use Rattle.block_store.proofs.memory.MemoryDisk.write_part.Goals as goal

pub invariant_of-self : goal.invariant_of-self
invariant_of-self c =
    let disk = c.args.self.now in
    record {
      whole =
          tables_after disk.tables.items (length disk.tables.items) disk.units disk.whole disk.room c.args.first c.index_mut.result.now
          c.requires.place c.index_mut.ensures.value c.write.new.self c.args.units.now
          (All-from_get_or IsUnit c.args.units.now [] c.told-units) c.requires.part c.in-Ok.ensures.written;
      room = omega (arith, disk.room, length-set disk.tables.items (c.args.first / 131072) c.write.new.self);
    }

pub returns-in-Ok-clause-written : goal.returns-in-Ok-clause-written
returns-in-Ok-clause-written c =
    let disk = c.args.self.now in
    shown_after disk.tables.items (length disk.tables.items) disk.units disk.whole disk.room c.args.first c.index_mut.result.now
    c.requires.place c.index_mut.ensures.value c.write.new.self c.args.units.now c.requires.part c.requires.within c.in-Ok.ensures.written
