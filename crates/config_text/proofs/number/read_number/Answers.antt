use Rattle.std.proofs.Common.{◌≡◌, false, arith}
use Rattle.std.proofs.lemmas.Grind.{common_steps}
use Rattle.config_text.specs.Number.{is_number}
use Rattle.config_text.proofs.NumberLemmas.{no_number, none_of, some_of, variant_of}
use Rattle.config_text.proofs.number.read_number.Goals as goal
use Rattle.config_text.proofs.number.read_number.Goals.{then-is_empty-via-then-is_empty, then-is_empty-via-else-is_empty+then-has_leading_zero}

pub returns-then-is_empty-clause-none : goal.returns-then-is_empty-clause-none
returns-then-is_empty-clause-none c = λ n h.
    let fails : is_number c.args.word.now ≡ false = elim c.then-is_empty.branch [
      | then-is_empty-via-then-is_empty w ↦ grind (arith, common_steps)
      | then-is_empty-via-else-is_empty+then-has_leading_zero w ↦ grind (arith, common_steps)
    ] in
    no_number c.args.word.now n fails h

pub returns-clause-variant : goal.returns-clause-variant
returns-clause-variant c =
    variant_of c.args.word.now c.digits_value.result (grind (arith, common_steps)) (grind (arith, common_steps)) c.digits_value.ensures.some c.digits_value.ensures.fits c.digits_value.ensures.none

pub returns-clause-some : goal.returns-clause-some
returns-clause-some c =
    some_of c.args.word.now c.digits_value.result (grind (arith, common_steps)) (grind (arith, common_steps)) c.digits_value.ensures.some c.digits_value.ensures.fits

pub returns-clause-none : goal.returns-clause-none
returns-clause-none c = none_of c.args.word.now c.digits_value.result (returns-clause-variant c)
