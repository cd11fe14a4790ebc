use Rattle.std.proofs.Common.{◌≡◌, length}
use Rattle.pdu_cut.specs.declared.side.Side.TheVariants as side
use Rattle.replay_words.proofs.Hearings.{SoFar}
use Rattle.replay_words.proofs.hearing.take_pdus.Given as goal

abbrev pub invariant-loop-pdu : goal.invariant-loop-pdu
invariant-loop-pdu l = record {
  side : l.buffer.side ≡ side.Target;
  so_far : SoFar l.number l.fn.buffer.held l.buffer.held l.fn.commands l.commands l.fn.text.items l.text.items;
}

abbrev pub decreases-loop-pdu : goal.decreases-loop-pdu
decreases-loop-pdu l = length l.buffer.held
