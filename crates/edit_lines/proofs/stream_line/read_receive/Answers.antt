use Rattle.std.proofs.Common.{subst, sym, arith}
use Rattle.config_text.specs.Number.{IsNumber}
use Rattle.edit_lines.specs.StreamLine.{IsHex}
use Rattle.std.proofs.lemmas.Grind.{common_steps}
use Rattle.config_text.proofs.NumberLemmas.{no_space}
use Rattle.edit_lines.proofs.Splits.{one_split}
use Rattle.edit_lines.proofs.stream_line.read_receive.Goals as goal

pub returns-in_err-connection-clause-none : goal.returns-in_err-connection-clause-none
returns-in_err-connection-clause-none c = rw c.from_residual-in_err-connection.ensures (λ word hex k e spelled is_hex.
    let same = one_split c.args.rest.now c.in_ok-word.word.now c.in_ok-word.hex.now word hex c.in_ok-word.ensures.0 c.in_ok-word.ensures.1 e (λ i lt. no_space word k i spelled lt) in
    c.in_err-connection.ensures.none k (subst (λ w. IsNumber w k) (sym same.0) spelled))

pub returns-then-not-is_hex-clause-none : goal.returns-then-not-is_hex-clause-none
returns-then-not-is_hex-clause-none c = λ word hex k e spelled is_hex.
    let same = one_split c.args.rest.now c.in_ok-word.word.now c.in_ok-word.hex.now word hex c.in_ok-word.ensures.0 c.in_ok-word.ensures.1 e (λ i lt. no_space word k i spelled lt) in
    let here : IsHex c.in_ok-word.hex.now = subst IsHex (sym same.1) is_hex in
    absurd (grind (arith, common_steps))
