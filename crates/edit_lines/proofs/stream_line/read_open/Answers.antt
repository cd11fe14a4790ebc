use Rattle.std.proofs.Common.{◌≡◌, arith}
use Rattle.config_text.proofs.NumberLemmas.{one_number}
use Rattle.edit_lines.proofs.stream_line.read_open.Goals as goal

pub returns-then-port-gt65535-clause-none : goal.returns-then-port-gt65535-clause-none
returns-then-port-gt65535-clause-none c = λ port spelled below.
    let same : c.in_ok-port.port ≡ port = one_number c.args.word.now c.in_ok-port.port port c.in_ok-port.ensures.some spelled in
    omega arith
