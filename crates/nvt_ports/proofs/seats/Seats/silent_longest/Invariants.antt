use Rattle.std.proofs.Common.{ℕ, ◌<◌, ◌≤◌, get_or}
use Rattle.nvt_ports.proofs.seats.Seats.silent_longest.Given as goal

abbrev pub invariant-loop-place : goal.invariant-loop-place
invariant-loop-place l = record {
  within : l.least < 16;
  least : (k : ℕ) → k < l.place → get_or l.self.heard l.least 0 ≤ get_or l.self.heard k 0;
}
