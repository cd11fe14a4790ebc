use Rattle.std.proofs.Common.{refl}
use Rattle.std.proofs.lemmas.Result.{err_from_is_err_and}
use Rattle.host_link.specs.declared.fault.SessionFault.TheVariants.{Memory}
use Rattle.host_program.specs.Lines.{hex_line}
use Rattle.host_program.proofs.Printing.{is_starved, prints_line}
use Rattle.host_program.proofs.reading.print_block.Goals as goal

pub returns-in_err-push_hex : goal.returns-in_err-push_hex
returns-in_err-push_hex g c =
    let r = c.from_residual in
    let p = err_from_is_err_and r.result r.ensures.1 in
    rw (p.1, p.2) (is_starved _ Memory _ refl)

pub returns : goal.returns
returns g c =
    prints_line c.push_hex.new.line.items _ (hex_line c.args.block.now) _ _ _ c.in_ok-push_hex.ensures c.new-line.ensures.items c.print.ensures.prints
