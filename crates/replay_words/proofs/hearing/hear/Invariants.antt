use Rattle.std.proofs.Common.{◌≡◌, ◌++◌, [], length}
use Rattle.pdu_cut.specs.declared.side.Side.TheVariants as sides
use Rattle.pdu_cut.specs.Front.{front, incomplete}
use Rattle.replay_words.proofs.Hearings.{SoFar}
use Rattle.replay_words.proofs.hearing.hear.Given as goal

abbrev pub invariant-loop-rest : goal.invariant-loop-rest
invariant-loop-rest l = record {
  side : l.buffer.side ≡ sides.Target;
  incomplete : front sides.Target l.buffer.held ≡ incomplete;
  so_far : SoFar l.number (l.fn.buffer.held ++ l.bytes) (l.buffer.held ++ l.rest) l.fn.commands l.commands [] l.text.items;
}

abbrev pub decreases-loop-rest : goal.decreases-loop-rest
decreases-loop-rest l = length l.rest
