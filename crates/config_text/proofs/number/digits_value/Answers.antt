use Rattle.std.proofs.Common.{◌∙◌, sym, get_or, arith}
use Rattle.std.specs.Int.{IsInRange}
use Rattle.std.proofs.lemmas.Grind.{common_steps}
use Rattle.std.proofs.lemmas.Str.Parse.{digit_at}
use Rattle.config_text.proofs.NumberLemmas.{one_more, too_large}
use Rattle.config_text.proofs.number.digits_value.Goals as goal

pub returns-then-not-is_ascii_digit-clause-none : goal.returns-then-not-is_ascii_digit-clause-none
returns-then-not-is_ascii_digit-clause-none c = λ all.
    let range : IsInRange 48 57 (get_or c.args.word.now c.loop-b.b-index 0) = digit_at c.args.word.now c.loop-b.b-index all c.loop-b-test.true in
    absurd (grind (arith, common_steps))

pub returns-in_err-checked_mul-clause-none : goal.returns-in_err-checked_mul-clause-none
returns-in_err-checked_mul-clause-none c = rw c.from_residual.ensures (λ all.
    too_large c.args.word.now c.loop-b.b-index c.loop-b.n c.loop-b-test.true all c.loop-b.invariant.value (omega (arith, c.in_err-checked_mul.ensures)))

pub returns-in_err-n-clause-none : goal.returns-in_err-n-clause-none
returns-in_err-n-clause-none c = rw c.from_residual-in_err-n.ensures (λ all.
    too_large c.args.word.now c.loop-b.b-index c.loop-b.n c.loop-b-test.true all c.loop-b.invariant.value (omega (arith, c.in_err-n.ensures, c.in_ok-checked_mul.ensures)))

pub loop-b-preserved : goal.loop-b-preserved
loop-b-preserved c =
    let more = one_more c.args.word.now c.loop-b.b-index c.loop-b.n c.in_ok-n.n c.loop-b-test.true (sym c.is_ascii_digit.ensures.value ∙ c.if-not-is_ascii_digit.false)
    c.loop-b.invariant.digits c.loop-b.invariant.value (omega (arith, c.in_ok-n.ensures, c.in_ok-checked_mul.ensures)) in
    record { digits = more.0; value = more.1; fits = omega (arith, c.in_ok-n.ensures) }
