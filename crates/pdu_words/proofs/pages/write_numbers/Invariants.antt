use Rattle.std.proofs.Common.{◌≡◌, List, ℕ, ◌++◌, flat_map, length}
use Rattle.std.specs.Fmt.{HasWritten, IsPlainFormatter}
use Rattle.pdu_words.specs.Pages.{dwords, spaced_words}
use Rattle.pdu_words.proofs.pages.write_numbers.Given as goal

abbrev pub invariant-numbers : goal.invariant-numbers
invariant-numbers g l =
    IsPlainFormatter l.fn.f
    → (done : List ℕ) × HasWritten g.W.Write.write_str_gives l.fn.f done l.f
    × (done ++ flat_map spaced_words (dwords l.rest) ≡ flat_map spaced_words (dwords l.fn.bytes))

abbrev pub decreases-numbers : goal.decreases-numbers
decreases-numbers g l = length l.rest
