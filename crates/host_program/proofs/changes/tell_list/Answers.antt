use Rattle.std.proofs.Common.{Ok, Err, refl}
use Rattle.std.proofs.lemmas.Result.{err_from_is_err_and}
use Rattle.host_program.proofs.changes.tell_list.Goals as goal

pub returns-in_err-list : goal.returns-in_err-list
returns-in_err-list g c =
    let r = c.from_residual in
    let p = err_from_is_err_and r.result r.ensures.1 in
    rw (p.1, p.2) (record { page = Err _; stands = c.«ask-2».new.session; asks = rw c.get_log_page.ensures at c.in_err-list.ensures; prints = (refl, refl) })

pub returns : goal.returns
returns g c = record { page = Ok _; stands = c.«ask-2».new.session; asks = rw c.get_log_page.ensures at c.in_ok-list.ensures; prints = rw c.deref.ensures.value at c.print_changed.ensures }
