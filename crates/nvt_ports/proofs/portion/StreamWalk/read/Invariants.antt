use Rattle.std.proofs.Common.{◌≡◌, ◌≤◌, ◌+◌, ◌-◌, length, drop}
use Rattle.nvt_ports.specs.Portion.{begun_in, walked}
use Rattle.nvt_ports.proofs.portion.StreamWalk.read.Given as goal

-- what was counted, and what is still to be, are all; and the way left leads to where the whole way does
abbrev pub invariant-loop-at : goal.invariant-loop-at
invariant-loop-at l = record {
  within : l.at ≤ length l.bytes;
  few : l.begun ≤ l.at;
  begun : l.begun + begun_in l.self (drop l.at l.bytes) ≡ begun_in l.fn.self l.bytes;
  walked : walked l.self (drop l.at l.bytes) ≡ walked l.fn.self l.bytes;
}

abbrev pub decreases-loop-at : goal.decreases-loop-at
decreases-loop-at l = length l.bytes - l.at
