use Rattle.std.proofs.Common.{◌≡◌, Ok, Err, Bool, true, refl, sym, subst}
use Rattle.std.proofs.lemmas.Result.{err_from_is_err_and}
use Rattle.host_program.specs.Pages.{TellsWhere, is_change}
use Rattle.host_program.proofs.changes.await_change.Goals as goal

pub returns-in_err-event : goal.returns-in_err-event
returns-in_err-event g c =
    let r = c.from_residual in
    let p = err_from_is_err_and r.result r.ensures.1 in
    rw (p.1, p.2) (record {
      event = Err _;
      stands = c.«ask_result-2».new.session;
      asks = rw c.event_request.ensures at c.in_err-event.ensures;
      tells = (refl, refl);
    })

pub returns : goal.returns
returns g c =
    let is : is_change c.in_ok-event.event ≡ true = rw c.if-event-ne-NAMESPACE_CHANGED.false refl in
    record {
      event = Ok c.in_ok-event.event;
      stands = c.«ask_result-2».new.session;
      asks = rw c.event_request.ensures at c.in_ok-event.ensures;
      tells = subst (λ (b : Bool). TellsWhere b c.«ask_result-2».new.session c.tell_list.result (g.W.Write.contents c.args.out.now) (g.W.Write.contents c.tell_list.new.out))
          (sym is) c.tell_list.ensures;
    }
