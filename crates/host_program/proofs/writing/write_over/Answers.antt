use Rattle.std.proofs.Common.{Ok, Err, refl, inl, inr}
use Rattle.std.proofs.lemmas.Result.{err_from_is_err_and}
use Rattle.host_program.proofs.writing.write_over.Goals as goal

pub returns-in_err-command : goal.returns-in_err-command
returns-in_err-command g c =
    let r = c.from_residual in
    let p = err_from_is_err_and r.result r.ensures.1 in
    rw (p.1, p.2) (inl (record { memory = refl; nothing = refl }))

pub returns-in_err-ask_result : goal.returns-in_err-ask_result
returns-in_err-ask_result g c =
    let r = c.from_residual-in_err-ask_result in
    let p = err_from_is_err_and r.result r.ensures.1 in
    rw (p.1, p.2) (inr (record { done = Err _; stands = c.ask_result.new.session; asks = rw c.in_ok-command.ensures at c.in_err-ask_result.ensures; prints = (refl, refl) }))

pub returns : goal.returns
returns g c = inr (record { done = Ok _; stands = c.ask_result.new.session; asks = rw c.in_ok-command.ensures at c.in_ok-ask_result.ensures; prints = c.print_text.ensures })
