use Rattle.std.proofs.Common.{rules, arith, ◌∙◌, ◌+◌, ◌-◌, ◌*◌, drop}
use Rattle.std.proofs.lemmas.List.{length-take-le, length-drop}
use Rattle.block_store.proofs.Strays.{next_found}
use Rattle.block_store.proofs.disk.Disk.read_range.Goals as goal

pub loop-i-preserved : goal.loop-i-preserved
loop-i-preserved g c =
    let i = c.loop-i.i in
    let out = c.loop-i.out in
    let first = c.args.first in
    let before = c.loop-i.invariant in
    let copied = c.copy_from_slice.ensures.after in
    let behind = length-drop (i * 512) out in
    let long = length-take-le (i * 512 + 512 - i * 512) (drop (i * 512) out) (omega (arith, behind)) in
    record {
      found =
          next_found (g.Self.Disk.contents c.args.self.now) out c.copy_from_slice.new.self first i _ _ _ _
          (g.met.Self.Disk.whole c.args.self.now) (omega arith) (omega arith)
          (c.copy_from_slice.ensures.len ∙ long ∙ omega arith)
          before.found
          (rw copied (rw before.contents at c.in_ok-read.ensures.found));
      contents = search rules;
      synced = search rules;
      faults = search rules;
    }
