use Rattle.std.proofs.Common.{refl, inl, inr}
use Rattle.std.proofs.lemmas.Result.{err_from_is_err_and}
use Rattle.host_program.proofs.discovery.discover.Goals as goal

pub returns-in_err-peers : goal.returns-in_err-peers
returns-in_err-peers g c =
    let r = c.from_residual in
    let p = err_from_is_err_and r.result r.ensures.1 in
    rw (p.1, p.2) (inl (refl, refl))

pub returns : goal.returns
returns g c = inr (record { peers = _; subsystem = c.in_ok-peers.ensures.0; named = c.in_ok-peers.ensures.1; shows = c.discover_as.ensures })
