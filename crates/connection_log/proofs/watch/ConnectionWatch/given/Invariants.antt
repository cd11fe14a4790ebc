use Rattle.std.proofs.Common.{◌≡◌, ◌≤◌, ◌-◌, ℕ, List, ◌++◌, length, take, drop}
use Rattle.std.specs.Option.{option_or}
use Rattle.connection_log.specs.Reading.{HasRead}
use Rattle.connection_log.specs.Watching.{answered, told}
use Rattle.connection_log.proofs.watch.ConnectionWatch.given.Given as goal

-- what was told, or else what the rest tells, is what all tells, and the target's PDUs were read so far
abbrev pub invariant-loop-at : goal.invariant-loop-at
invariant-loop-at l = record {
  within : l.at ≤ length l.bytes;
  told : option_or l.told (told l.self (drop l.at l.bytes)) ≡ told l.fn.self l.bytes;
  answered : answered l.self (drop l.at l.bytes) ≡ answered l.fn.self l.bytes;
  stream : (before : List ℕ) → HasRead l.fn.self.replies before → HasRead l.self.replies (before ++ take l.at l.bytes);
}

abbrev pub decreases-loop-at : goal.decreases-loop-at
decreases-loop-at l = length l.bytes - l.at
