use Rattle.std.proofs.Common.{◌≡◌, ℕ, true, List, ◌++◌, take}
use Rattle.nvt_ports.specs.Watching.{HasSeen}
use Rattle.nvt_ports.proofs.connect_watch.ConnectWatch.given.Given as goal

abbrev pub invariant-loop-b : goal.invariant-loop-b
invariant-loop-b l = record {
  seen : (before : List ℕ) → HasSeen l.fn.self before → HasSeen l.self (before ++ take l.b-index l.bytes);
  stays : l.fn.self.is_connected ≡ true → l.self ≡ l.fn.self;
}
