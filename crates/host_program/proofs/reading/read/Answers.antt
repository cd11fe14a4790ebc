use Rattle.std.proofs.Common.{Ok, Err, refl}
use Rattle.std.proofs.lemmas.Result.{err_from_is_err_and}
use Rattle.host_program.proofs.reading.read.Goals as goal

pub returns-in_err-admin : goal.returns-in_err-admin
returns-in_err-admin g c =
    let r = c.from_residual in
    let p = err_from_is_err_and r.result r.ensures.1 in
    rw (p.1, p.2) (record { opened = Err _; opens = c.in_err-admin.ensures; reads = (refl, refl) })

pub returns : goal.returns
returns g c = record { opened = Ok _; opens = c.in_ok-admin.ensures; reads = c.read_beside.ensures }
