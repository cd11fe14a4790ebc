use Rattle.std.proofs.Common.{Ok, Err, refl}
use Rattle.std.proofs.lemmas.Result.{err_from_is_err_and}
use Rattle.host_program.proofs.reading.tell_blocks.Goals as goal

pub returns-in_err-bytes : goal.returns-in_err-bytes
returns-in_err-bytes g c =
    let r = c.from_residual in
    let p = err_from_is_err_and r.result r.ensures.1 in
    rw (p.1, p.2) (record { bytes = Err _; stands = c.«ask-2».new.session; asks = rw c.read.ensures at c.in_err-bytes.ensures; prints = (refl, refl) })

pub returns : goal.returns
returns g c = record { bytes = Ok _; stands = c.«ask-2».new.session; asks = rw c.read.ensures at c.in_ok-bytes.ensures; prints = rw c.deref.ensures.value at c.print_blocks.ensures }
