use Rattle.std.proofs.Common.{Ok, Err, refl}
use Rattle.std.proofs.lemmas.Result.{err_from_is_err_and}
use Rattle.host_program.proofs.access.tell_groups.Goals as goal

pub returns-in_err-page : goal.returns-in_err-page
returns-in_err-page g c =
    let r = c.from_residual in
    let p = err_from_is_err_and r.result r.ensures.1 in
    rw (p.1, p.2) (record { page = Err _; stands = c.ask.new.session; asks = rw c.get_log_page-command.ensures at c.in_err-page.ensures; prints = (refl, refl) })

pub returns : goal.returns
returns g c = record { page = Ok _; stands = c.ask.new.session; asks = rw c.get_log_page-command.ensures at c.in_ok-page.ensures; prints = rw c.deref.ensures.value at c.print_page.ensures }
