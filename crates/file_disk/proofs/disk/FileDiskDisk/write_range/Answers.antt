use Rattle.std.proofs.Common.{rules, arith, []}
use Rattle.std.proofs.lemmas.List.Elements.{All-from_get_or}
use Rattle.block_store.specs.Unit.{IsUnit}
use Rattle.block_store.proofs.Fronts.{told_of_err}
use Rattle.file_disk.proofs.Kept.{front_of_none, written_are}
use Rattle.file_disk.proofs.disk.FileDiskDisk.write_range.Goals as goal

pub returns-then-is_dead-clause-torn : goal.returns-then-is_dead-clause-torn
returns-then-is_dead-clause-torn g c =
    told_of_err c.counted.result (front_of_none c.args.self.now.file.contents c.args.units.now c.counted.new.self.file.contents c.args.first (search rules))

pub invariant_of-self-clause-are : goal.invariant_of-self-clause-are
invariant_of-self-clause-are g c =
    let disk = c.args.self.now in
    written_are c.write_units-answer.result disk.units c.args.first disk.file.contents c.args.units.now c.write_units-answer.new.file.contents disk.are
    (All-from_get_or IsUnit c.args.units.now [] c.told-units) (omega (arith, c.requires.within, disk.are.count))
    c.write_units-answer.ensures.written c.write_units-answer.ensures.torn
