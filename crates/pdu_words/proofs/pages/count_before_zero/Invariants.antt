use Rattle.std.proofs.Common.{◌≡◌, ◌+◌, ◌*◌, ◌≤◌, length}
use Rattle.std.specs.List.{position_or_len}
use Rattle.pdu_words.specs.Pages.{dwords, is_zero}
use Rattle.pdu_words.proofs.pages.count_before_zero.Given as goal

abbrev pub invariant-numbers : goal.invariant-numbers
invariant-numbers l = record {
  count : l.count + position_or_len is_zero (dwords l.rest) ≡ position_or_len is_zero (dwords l.fn.bytes);
  within : 4 * l.count + length l.rest ≤ length l.fn.bytes;
}

abbrev pub decreases-numbers : goal.decreases-numbers
decreases-numbers l = length l.rest
