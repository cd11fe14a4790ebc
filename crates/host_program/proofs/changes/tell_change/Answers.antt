use Rattle.std.proofs.Common.{Ok, Err, refl}
use Rattle.std.proofs.lemmas.Result.{err_from_is_err_and}
use Rattle.host_program.proofs.changes.tell_change.Goals as goal

pub returns-in_err-ask_result : goal.returns-in_err-ask_result
returns-in_err-ask_result g c =
    let r = c.from_residual in
    let p = err_from_is_err_and r.result r.ensures.1 in
    rw (p.1, p.2) (record { set = Err _; stands = c.ask_result.new.session; asks = rw c.set_features-enable.ensures at c.in_err-ask_result.ensures; awaits = (refl, refl) })

pub returns : goal.returns
returns g c = record { set = Ok _; stands = c.ask_result.new.session; asks = rw c.set_features-enable.ensures at c.in_ok-ask_result.ensures; awaits = c.await_change.ensures }
