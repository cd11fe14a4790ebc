use Rattle.std.proofs.Common.{Ok, Err, refl, ap, sym, ◌∙◌}
use Rattle.std.proofs.lemmas.Result.{err_from_is_err_and}
use Rattle.host_program.specs.Asking.{or_bad}
use Rattle.host_program.proofs.identified.ask_block_len.Goals as goal

pub returns-in_err-namespace-clause-asks : goal.returns-in_err-namespace-clause-asks
returns-in_err-namespace-clause-asks g c =
    let r = c.from_residual in
    let p = err_from_is_err_and r.result r.ensures.1 in
    rw (p.1, p.2) (record { namespace = Err _; asks = rw c.identify.ensures at c.in_err-namespace.ensures; is = refl })

pub returns-in-Some-clause-asks : goal.returns-in-Some-clause-asks
returns-in-Some-clause-asks g c = record { namespace = Ok _; asks = rw c.identify.ensures at c.in_ok-namespace.ensures; is = ap or_bad (sym c.in-Some.is ∙ rw c.deref.ensures.value at c.block_len.ensures.value) }

pub returns-clause-asks : goal.returns-clause-asks
returns-clause-asks g c = record { namespace = Ok _; asks = rw c.identify.ensures at c.in_ok-namespace.ensures; is = ap or_bad (sym c.in-None.is ∙ rw c.deref.ensures.value at c.block_len.ensures.value) }
