use Rattle.std.proofs.Common.{◌≡◌, sym}
use Rattle.std.proofs.lemmas.Result.{err_from_is_err_and}
use Rattle.config_text.specs.Lines.{lines_of}
use Rattle.edit_lines.specs.Configured.{RefusesLines}
use Rattle.edit_lines.proofs.Taking.{lines_refused}
use Rattle.edit_lines.proofs.checked.configuration.Goals as goal

pub returns-clause-ok : goal.returns-clause-ok
returns-clause-ok c =
    rw c.in_ok-config.ensures.ok at c.in_ok-apply_lines.ensures.ok

pub returns-in_err-apply_lines-clause-fault : goal.returns-in_err-apply_lines-clause-fault
returns-in_err-apply_lines-clause-fault c =
    let p = err_from_is_err_and c.from_residual-in_err-apply_lines.result c.from_residual-in_err-apply_lines.ensures.1 in
    let fault : RefusesLines c.in_err-apply_lines.field-0.0 (lines_of c.args.edits.now) c.in_ok-config.config =
    rw c.in_err-apply_lines.was at c.apply_lines.ensures.fault in
    let same : p.0 ≡ c.in_err-apply_lines.field-0.0 = p.2 in
    rw p.1 (lines_refused p.0 c.args.edits.now c.args.units.now c.in_ok-config.config
    c.in_ok-config.ensures.ok c.in_ok-config.ensures.disks (rw (sym same) at fault))
