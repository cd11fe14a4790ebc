use Rattle.std.proofs.Common.{rules, arith, ◌≡◌, ◌+◌, ◌-◌, ◌*◌}
use Rattle.block_store.proofs.Strays.{next_compared}
use Rattle.block_store.proofs.compare.compare_units.Goals as goal

pub loop-i-preserved : goal.loop-i-preserved
loop-i-preserved g c =
    let before = c.loop-i.invariant in
    let piece : c.loop-i.i * 512 + 512 - c.loop-i.i * 512 ≡ 512 = omega arith in
    record {
      compared =
          next_compared (g.D.Disk.contents c.args.disk.now) c.args.bytes.now c.read.new.out c.args.first c.loop-i.i
          c.loop-i.same c.eq-same.result _ _ _ (g.met.D.Disk.whole c.args.disk.now) (omega arith) (omega arith)
          (search rules) (rw piece at c.eq-same.ensures) before.compared
          (rw before.contents at c.in_ok-read.ensures.found);
      contents = search rules;
      synced = search rules;
      faults = search rules;
    }
