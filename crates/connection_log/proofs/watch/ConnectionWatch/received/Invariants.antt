use Rattle.std.proofs.Common.{◌≡◌, ◌≤◌, ◌-◌, ℕ, List, ◌++◌, length, take, drop}
use Rattle.connection_log.specs.Reading.{HasRead}
use Rattle.connection_log.specs.Watching.{heard}
use Rattle.connection_log.proofs.watch.ConnectionWatch.received.Given as goal

-- what is heard of the rest is what is heard of all, and the host's PDUs were read so far
abbrev pub invariant-loop-at : goal.invariant-loop-at
invariant-loop-at l = record {
  within : l.at ≤ length l.bytes;
  heard : heard l.self (drop l.at l.bytes) ≡ heard l.fn.self l.bytes;
  stream : (before : List ℕ) → HasRead l.fn.self.requests before → HasRead l.self.requests (before ++ take l.at l.bytes);
}

abbrev pub decreases-loop-at : goal.decreases-loop-at
decreases-loop-at l = length l.bytes - l.at
