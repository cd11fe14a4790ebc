use Rattle.std.proofs.Common.{rules, arith, replicate}
use Rattle.std.proofs.lemmas.List.{length-replicate}
use Rattle.block_store.specs.Unit.{zero_unit}
use Rattle.block_store.proofs.Blanks.{zeros_each}
use Rattle.block_store.proofs.Fronts.{told_of_err}
use Rattle.file_disk.proofs.Kept.{front_of_none, written_are}
use Rattle.file_disk.proofs.disk.FileDiskDisk.zero_range.Goals as goal

pub returns-then-is_dead-clause-torn : goal.returns-then-is_dead-clause-torn
returns-then-is_dead-clause-torn g c =
    told_of_err c.counted.result (front_of_none c.args.self.now.file.contents (replicate c.args.count zero_unit) c.counted.new.self.file.contents c.args.first (search rules))

pub invariant_of-self-clause-are : goal.invariant_of-self-clause-are
invariant_of-self-clause-are g c =
    let disk = c.args.self.now in
    let long = length-replicate c.args.count zero_unit in
    written_are c.zero_units-answer.result disk.units c.args.first disk.file.contents (replicate c.args.count zero_unit) c.zero_units-answer.new.file.contents disk.are
    (zeros_each c.args.count) (omega (arith, c.requires.within, disk.are.count, long))
    c.zero_units-answer.ensures.written c.zero_units-answer.ensures.torn
