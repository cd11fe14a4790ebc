use Rattle.std.proofs.Common.{rules, arith, refl}
use Rattle.block_store.proofs.Fronts.{next_written, next_torn, told_of_err}
use Rattle.block_store.proofs.disk.Disk.write_range.Goals as goal

pub loop-bytes-preserved : goal.loop-bytes-preserved
loop-bytes-preserved g c = record {
  unit = omega (arith, c.loop-bytes.invariant.unit);
  contents =
      rw (c.in_ok-write.ensures.written, c.loop-bytes.invariant.contents, c.loop-bytes.invariant.unit)
      (next_written _ c.args.units.now _ c.args.first c.loop-bytes.bytes-index (omega arith) (omega arith) refl);
  strays = search rules;
  faults = search rules;
}

pub returns-in_err-write-clause-torn : goal.returns-in_err-write-clause-torn
returns-in_err-write-clause-torn g c =
    told_of_err c.from_residual.result
    (next_torn (g.Self.Disk.contents c.args.self.now) c.args.units.now _ c.args.first c.loop-bytes.bytes-index _ _
    (omega arith) (omega arith) refl c.loop-bytes.invariant.contents
    (rw c.loop-bytes.invariant.unit at c.in_err-write.ensures.torn))
