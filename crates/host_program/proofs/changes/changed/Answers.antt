use Rattle.std.proofs.Common.{Ok, Err, refl}
use Rattle.std.proofs.lemmas.Result.{err_from_is_err_and}
use Rattle.host_program.proofs.changes.changed.Goals as goal

pub returns-in_err-session : goal.returns-in_err-session
returns-in_err-session g c =
    let r = c.from_residual in
    let p = err_from_is_err_and r.result r.ensures.1 in
    rw (p.1, p.2) (record { opened = Err _; opens = c.in_err-session.ensures; tells = (refl, refl) })

pub returns : goal.returns
returns g c = record { opened = Ok _; opens = c.in_ok-session.ensures; tells = c.tell_change.ensures }
