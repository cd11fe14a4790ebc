use Rattle.std.proofs.Common.{arith, rules}
use Rattle.block_store.specs.Memory.{memory_contents}
use Rattle.block_store.proofs.Shown.{part_zeroed}
use Rattle.block_store.proofs.memory.MemoryDiskDisk.zero_range.Goals as goal

pub loop-done-preserved : goal.loop-done-preserved
loop-done-preserved c =
    let before = c.loop-done.invariant in
    record {
      within = omega (arith, c.part_of-part.ensures.most);
      fits = search rules;
      contents =
          part_zeroed (memory_contents c.args.self.now) (memory_contents c.loop-done.self) (memory_contents c.zero_part.new.self)
          c.args.first c.args.count c.loop-done.done c.part_of-part.result
          c.requires.within (omega (arith, c.part_of-part.ensures.most)) before.contents c.zero_part.ensures.zeroed;
      faults = search rules;
    }
