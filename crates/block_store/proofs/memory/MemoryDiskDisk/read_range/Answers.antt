use Rattle.std.proofs.Common.{arith, ◌≡◌, ◌+◌, ◌-◌, ◌*◌, ◌/◌, ◌∙◌, ap, drop}
use Rattle.std.proofs.lemmas.List.{length-take-le, length-drop}
use Rattle.block_store.specs.Memory.{memory_contents}
use Rattle.block_store.specs.Range.{bytes_of, units_at}
use Rattle.block_store.proofs.Shown.{part_read}
use Rattle.block_store.proofs.memory.MemoryDiskDisk.read_range.Goals as goal

pub loop-done-preserved : goal.loop-done-preserved
loop-done-preserved c =
    let done = c.loop-done.done in
    let part = c.part_of-part.result in
    let out = c.loop-done.out in
    let piece = (done + part) * 512 - done * 512 in
    let contents = memory_contents c.args.self.now in
    let before = c.loop-done.invariant in
    let lengths = length-take-le piece (drop (done * 512) out) (omega (arith, length-drop (done * 512) out, c.part_of-part.ensures.most)) in
    let count : piece / 512 ≡ part = omega arith in
    record {
      within = omega (arith, c.part_of-part.ensures.most);
      fits = before.fits;
      found =
          part_read contents out c.read_part.new.out c.args.first done part piece (omega (arith, before.within))
          (omega (arith, c.read_part.auto.out, lengths))
          (c.read_part.ensures ∙ ap (λ n. bytes_of (units_at contents (c.args.first + done) (n / 512))) lengths ∙ ap (λ n. bytes_of (units_at contents (c.args.first + done) n)) count)
          before.found;
    }
