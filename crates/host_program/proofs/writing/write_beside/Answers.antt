use Rattle.std.proofs.Common.{Ok, Err, refl}
use Rattle.std.proofs.lemmas.Result.{err_from_is_err_and}
use Rattle.host_program.proofs.writing.write_beside.Goals as goal

pub returns-in_err-block_len : goal.returns-in_err-block_len
returns-in_err-block_len g c =
    let r = c.from_residual in
    let p = err_from_is_err_and r.result r.ensures.1 in
    rw (p.1, p.2) (record { len = Err _; stands = c.ask_block_len.new.session; asks = c.in_err-block_len.ensures.asks; writes = (refl, refl) })

pub returns-in_err-io : goal.returns-in_err-io
returns-in_err-io g c =
    let r = c.from_residual-in_err-io in
    let p = err_from_is_err_and r.result r.ensures.1 in
    rw (p.1, p.2) (record { len = Ok _; stands = c.ask_block_len.new.session; asks = c.in_ok-block_len.ensures.asks; writes = record { queue = Err _; connects = c.in_err-io.ensures; writes = (refl, refl) } })

pub returns : goal.returns
returns g c = record { len = Ok _; stands = c.ask_block_len.new.session; asks = c.in_ok-block_len.ensures.asks; writes = record { queue = Ok _; connects = c.in_ok-io.ensures; writes = c.write_over.ensures } }
