use Rattle.std.proofs.Common.{◌≡◌, map, sym}
use Rattle.std.proofs.lemmas.Result.{err_from_is_err_and}
use Rattle.config_text.specs.Lines.{lines_of}
use Rattle.edit_lines.specs.Configured.{RefusesLines, sizes_of}
use Rattle.edit_lines.proofs.Taking.{lines_refused}
use Rattle.edit_lines.proofs.configured.configure_over.Goals as goal

pub returns-in_err-take_edits-clause-fault : goal.returns-in_err-take_edits-clause-fault
returns-in_err-take_edits-clause-fault g c =
    let p = err_from_is_err_and c.from_residual-in_err-take_edits.result c.from_residual-in_err-take_edits.ensures.1 in
    let fault : RefusesLines c.in_err-take_edits.field-0.0 (lines_of c.args.edits.now) c.in_ok-target.target.config =
    rw c.in_err-take_edits.was at c.take_edits.ensures.fault in
    let same : p.0 ≡ c.in_err-take_edits.field-0.0 = p.2 in
    rw p.1 (lines_refused p.0 c.args.edits.now _ c.in_ok-target.target.config
    c.in_ok-target.ensures.ok.over.config c.in_ok-target.ensures.disks (rw (sym same) at fault))
