use Rattle.std.proofs.Common.{Ok, Err, refl, inl, inr}
use Rattle.std.proofs.lemmas.Result.{err_from_is_err_and}
use Rattle.host_program.proofs.writing.hold_over.Goals as goal

pub returns-in_err-command : goal.returns-in_err-command
returns-in_err-command g c =
    let r = c.from_residual in
    let p = err_from_is_err_and r.result r.ensures.1 in
    rw (p.1, p.2) (inl (record { memory = refl; nothing = refl }))

pub returns-in_err-submit : goal.returns-in_err-submit
returns-in_err-submit g c =
    let r = c.from_residual-in_err-submit in
    let p = err_from_is_err_and r.result r.ensures.1 in
    rw (p.1, p.2) (inr (record { submitted = Err _; stands = c.submit.new.self; submits = rw c.in_ok-command.ensures at c.in_err-submit.ensures; holds = (refl, refl) }))

pub returns : goal.returns
returns g c = inr (record { submitted = Ok _; stands = c.submit.new.self; submits = rw c.in_ok-command.ensures at c.in_ok-submit.ensures; holds = c.hold.ensures })
