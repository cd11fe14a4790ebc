use Rattle.std.proofs.Common.{Ok, Err, refl}
use Rattle.std.specs.Prelude.{Some, None}
use Rattle.std.proofs.lemmas.Result.{err_from_is_err_and}
use Rattle.host_link.proofs.Turning.{moves, moves_faulty}
use Rattle.host_link.proofs.session.LinkSession.exchange.Goals as goal

pub returns-in_err-sent-in-Ok-None : goal.returns-in_err-sent-in-Ok-None
returns-in_err-sent-in-Ok-None g c =
    let p = err_from_is_err_and c.from_residual.result c.from_residual.ensures.1 in
    rw (p.1, p.2) (moves _ (Err _) c.receive-received.result None _ c.send-sent.new.self c.receive-received.new.self _ c.in_err-sent-in-Ok-None.ensures
    c.receive-received.ensures (rw c.in-Ok-None.field-0-is at c.in-Ok-None.ensures) refl)

pub returns-in_err-received-in-Ok-None : goal.returns-in_err-received-in-Ok-None
returns-in_err-received-in-Ok-None g c =
    let r = c.from_residual-in_err-received-in-Ok-None in
    let p = err_from_is_err_and r.result r.ensures.1 in
    rw (p.1, p.2) (moves _ (Ok _) (Err _) None _ c.send-sent.new.self c.receive-received.new.self _ c.in_ok-sent-in-Ok-None.ensures
    c.in_err-received-in-Ok-None.ensures (rw c.in-Ok-None.field-0-is at c.in-Ok-None.ensures) refl)

pub returns-in_ok-received-in-Ok-None : goal.returns-in_ok-received-in-Ok-None
returns-in_ok-received-in-Ok-None g c =
    moves _ (Ok _) (Ok _) None _ c.send-sent.new.self c.receive-received.new.self _ c.in_ok-sent-in-Ok-None.ensures
    c.in_ok-received-in-Ok-None.ensures (rw c.in-Ok-None.field-0-is at c.in-Ok-None.ensures) refl

pub returns-in-Ok-Some : goal.returns-in-Ok-Some
returns-in-Ok-Some g c =
    moves _ c.send-sent.result c.receive-received.result (Some _) _ c.send-sent.new.self c.receive-received.new.self _ c.send-sent.ensures
    c.receive-received.ensures (rw c.in-Ok-Some.field-0-is at c.in-Ok-Some.ensures) refl

pub returns-in-Err : goal.returns-in-Err
returns-in-Err g c =
    rw c.from.ensures (moves_faulty c.in-Err.fault c.send-sent.result c.receive-received.result c.send.result _ c.send-sent.new.self
    c.receive-received.new.self c.steps.new.self c.send.new.self c.send-sent.ensures c.receive-received.ensures c.in-Err.ensures c.send.ensures)
