use Rattle.std.proofs.Common.{◌≡◌, drop, vec_capacity}
use Rattle.replay_words.proofs.outstanding.forget_first.Given as goal

abbrev pub invariant-loop-done : goal.invariant-loop-done
invariant-loop-done l = record {
  items : l.sent.items ≡ drop l._done l.fn.sent.items;
  capacity : vec_capacity l.sent ≡ vec_capacity l.fn.sent;
}
