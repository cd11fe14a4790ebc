use Rattle.std.proofs.Common.{rules, arith}
use Rattle.block_store.specs.Unit.{zero_unit}
use Rattle.block_store.proofs.Fronts.{next_filled, next_fill_torn, told_of_err}
use Rattle.block_store.proofs.disk.Disk.zero_range.Goals as goal

pub loop-unit-preserved : goal.loop-unit-preserved
loop-unit-preserved g c = record {
  contents =
      next_filled _ zero_unit c.args.first c.args.count c.loop-unit.unit (omega arith) (omega arith)
      c.requires.within _ c.loop-unit.invariant.contents _ c.in_ok-write.ensures.written;
  strays = search rules;
  faults = search rules;
}

pub returns-in_err-write-clause-torn : goal.returns-in_err-write-clause-torn
returns-in_err-write-clause-torn g c =
    told_of_err c.from_residual.result
    (next_fill_torn _ zero_unit c.args.first c.args.count c.loop-unit.unit (omega arith) (omega arith)
    c.requires.within _ c.loop-unit.invariant.contents _ c.in_err-write.ensures.torn)
