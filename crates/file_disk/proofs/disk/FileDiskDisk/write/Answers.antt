use Rattle.std.proofs.Common.{◌∙◌, ap, subst}
use Rattle.block_store.specs.Range.{overwritten, FrontWritten}
use Rattle.block_store.proofs.Blanks.{on_ok}
use Rattle.block_store.proofs.Shown.{unit_written}
use Rattle.file_disk.proofs.Kept.{one_torn, on_err}
use Rattle.file_disk.proofs.disk.FileDiskDisk.write.Goals as goal

pub returns-clause-written : goal.returns-clause-written
returns-clause-written g c =
    let contents = c.args.self.now.file.contents in
    on_ok c.write_range.result
    (λ written. written ∙ ap (overwritten contents c.args.unit) c.from_ref.ensures.value ∙ unit_written contents c.args.bytes.now c.args.unit c.requires)
    c.write_range.ensures.written

pub returns-clause-torn : goal.returns-clause-torn
returns-clause-torn g c =
    let contents = c.args.self.now.file.contents in
    let new = c.write_range.new.self.file.contents in
    on_err c.write_range.result
    (λ torn. one_torn contents new c.args.bytes.now c.args.unit c.requires
    (subst (λ units. FrontWritten contents c.args.unit units new) c.from_ref.ensures.value torn))
    c.write_range.ensures.torn
