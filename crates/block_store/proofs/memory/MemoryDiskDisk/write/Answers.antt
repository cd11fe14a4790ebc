use Rattle.std.proofs.Common.{◌≡◌, ◌∙◌, [], ◌∷◌, ap, sym}
use Rattle.std.proofs.lemmas.Slice.Eq.{bytes_eq-Decides}
use Rattle.block_store.specs.Memory.{memory_contents}
use Rattle.block_store.specs.Range.{overwritten}
use Rattle.block_store.specs.Unit.{zero_unit}
use Rattle.block_store.proofs.Blanks.{on_ok}
use Rattle.block_store.proofs.Shown.{unit_written}
use Rattle.block_store.proofs.memory.MemoryDiskDisk.write.Goals as goal

pub returns-clause-written : goal.returns-clause-written
returns-clause-written c =
    let contents = memory_contents c.args.self.now in
    on_ok c.write_part.result
    (λ written. written ∙ ap (λ units. overwritten contents c.args.unit units) c.from_ref.ensures.value ∙ unit_written contents c.args.bytes.now c.args.unit c.requires)
    c.write_part.ensures.written

pub returns-then-eq-clause-written : goal.returns-then-eq-clause-written
returns-then-eq-clause-written c =
    let contents = memory_contents c.args.self.now in
    let zeros : c.args.bytes.now ≡ zero_unit = (bytes_eq-Decides c.args.bytes.now zero_unit).0 (sym c.if-eq.ensures) in
    c.zero_part.ensures.zeroed ∙ ap (λ unit. overwritten contents c.args.unit (unit ∷ [])) (sym zeros)
    ∙ unit_written contents c.args.bytes.now c.args.unit c.requires
