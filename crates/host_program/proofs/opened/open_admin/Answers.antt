use Rattle.std.proofs.Common.{Ok, Err, refl, inl}
use Rattle.std.proofs.lemmas.Result.{err_from_is_err_and}
use Rattle.host_link.specs.declared.fault.SessionFault.TheVariants.{Memory}
use Rattle.host_program.proofs.opened.open_admin.Goals as goal

pub returns-in_err-params : goal.returns-in_err-params
returns-in_err-params g c =
    let r = c.from_residual in
    let p = err_from_is_err_and r.result r.ensures.1 in
    rw (p.1, p.2) (record { connected = Err Memory; connects = inl refl; enables = refl })

pub returns-in_err-session : goal.returns-in_err-session
returns-in_err-session g c =
    let r = c.from_residual-in_err-session in
    let p = err_from_is_err_and r.result r.ensures.1 in
    rw (p.1, p.2) (record { connected = Err _; connects = rw c.in_ok-params.ensures at c.in_err-session.ensures; enables = refl })

pub returns-in_err-enable : goal.returns-in_err-enable
returns-in_err-enable g c =
    let r = c.from_residual-in_err-enable in
    let p = err_from_is_err_and r.result r.ensures.1 in
    rw (p.1, p.2) (record { connected = Ok _; connects = rw c.in_ok-params.ensures at c.in_ok-session.ensures; enables = (Err _, c.enable.new.self, c.in_err-enable.ensures, refl) })

pub returns : goal.returns
returns g c = record { connected = Ok _; connects = rw c.in_ok-params.ensures at c.in_ok-session.ensures; enables = (Ok _, c.enable.new.self, c.in_ok-enable.ensures, refl) }
