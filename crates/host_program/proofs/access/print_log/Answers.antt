use Rattle.std.proofs.lemmas.Result.{err_from_is_err_and}
use Rattle.host_program.proofs.Printing.{prints_behind, prints_part}
use Rattle.host_program.proofs.access.print_log.Goals as goal

pub returns-in_err-print_change : goal.returns-in_err-print_change
returns-in_err-print_change g c =
    let r = c.from_residual in
    let p = err_from_is_err_and r.result r.ensures.1 in
    rw (p.1, p.2) (prints_part _ _ _ _ _ (rw (c.change.ensures, c.group_count.ensures) at c.in_err-print_change.ensures))

pub returns : goal.returns
returns g c = prints_behind _ _ _ _ (g.W.Write.contents c.print_change.new.out) _ (rw (c.change.ensures, c.group_count.ensures) at c.in_ok-print_change.ensures) (rw c.groups.ensures at c.print_groups.ensures)
