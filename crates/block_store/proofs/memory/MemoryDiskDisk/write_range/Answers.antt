use Rattle.std.proofs.Common.{arith, rules, ◌≡◌, ◌+◌, ◌-◌, ◌∙◌, ap, drop, take}
use Rattle.block_store.specs.Memory.{memory_contents}
use Rattle.block_store.specs.Range.{overwritten}
use Rattle.block_store.proofs.Shown.{part_written}
use Rattle.block_store.proofs.memory.MemoryDiskDisk.write_range.Goals as goal

pub loop-done-preserved : goal.loop-done-preserved
loop-done-preserved c =
    let done = c.loop-done.done in
    let part = c.part_of-part.result in
    let units = c.args.units.now in
    let before = c.loop-done.invariant in
    let old = memory_contents c.loop-done.self in
    let count : done + part - done ≡ part = omega arith in
    record {
      within = omega (arith, c.part_of-part.ensures.most);
      fits = search rules;
      contents =
          part_written (memory_contents c.args.self.now) old (memory_contents c.write_part.new.self) units c.args.first done part
          c.requires.within (omega (arith, c.part_of-part.ensures.most)) before.contents
          (c.in_ok-write_part.ensures.written ∙ ap (λ n. overwritten old (c.args.first + done) (take n (drop done units))) count);
      faults = search rules;
    }
