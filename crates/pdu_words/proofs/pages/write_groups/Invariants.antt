use Rattle.std.proofs.Common.{◌≡◌, ◌≤◌, ◌+◌, List, ℕ, ◌++◌, flat_map, length, min}
use Rattle.std.specs.Fmt.{HasWritten, IsPlainFormatter}
use Rattle.pdu_words.specs.Pages.{group_words, groups_in}
use Rattle.pdu_words.proofs.pages.write_groups.Given as goal

abbrev pub invariant-groups : goal.invariant-groups
invariant-groups g l = record {
  written : IsPlainFormatter l.fn.f
      → (done : List ℕ) × HasWritten g.W.Write.write_str_gives l.fn.f done l.f
      × (done ++ flat_map group_words (groups_in l.most l.rest) ≡ flat_map group_words (groups_in (min l.fn.count 8) l.fn.bytes));
  left : l.left + length (groups_in (min l.fn.count 8) l.fn.bytes) ≡ l.fn.count + length (groups_in l.most l.rest);
  most : l.most ≤ l.left;
}

abbrev pub decreases-groups : goal.decreases-groups
decreases-groups g l = l.most
