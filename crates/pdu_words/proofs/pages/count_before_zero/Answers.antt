use Rattle.std.proofs.Common.{arith, ap, ◌∙◌}
use Rattle.std.specs.List.{position_or_len}
use Rattle.pdu_words.specs.Pages.{dwords, is_zero}
use Rattle.pdu_words.proofs.Numbers.{not_zero, zero_later}
use Rattle.pdu_words.proofs.pages.count_before_zero.Goals as goal

pub numbers-preserved : goal.numbers-preserved
numbers-preserved c =
    let more = zero_later c.numbers.rest.now c.numbers-test.true (not_zero _ (λ e. c.if-u32_at-eq0.false (c.u32_at.ensures ∙ e))) in
    let behind = ap (λ xs. position_or_len is_zero (dwords xs)) c.split_at.ensures.back in
    let len = c.split_at.ensures.back_len in
    let inv = c.numbers.invariant in
    record {
      count = omega (arith, inv.count, more, behind);
      within = omega (arith, inv.within, c.numbers-test.true, len);
    }
