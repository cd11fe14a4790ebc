use Rattle.std.proofs.lemmas.Result.{err_from_is_err_and}
use Rattle.host_program.proofs.Printing.{prints_behind, prints_part}
use Rattle.host_program.proofs.discovery.print_page.Goals as goal

pub returns-in_err-print_genctr : goal.returns-in_err-print_genctr
returns-in_err-print_genctr g c =
    let r = c.from_residual in
    let p = err_from_is_err_and r.result r.ensures.1 in
    rw (p.1, p.2) (prints_part _ _ _ _ _ (rw (c.genctr.ensures, c.record_count.ensures) at c.in_err-print_genctr.ensures))

pub returns : goal.returns
returns g c = prints_behind _ _ _ _ (g.W.Write.contents c.print_genctr.new.out) _ (rw (c.genctr.ensures, c.record_count.ensures) at c.in_ok-print_genctr.ensures) (rw c.records.ensures at c.print_records.ensures)
