use Rattle.std.proofs.Common.{◌≡◌}
use Rattle.fabrics_connect.specs.Controllers.{live_from}
use Rattle.fabrics_connect.proofs.controllers.Controllers.first_from.Given as goal

-- those from here on are the first
abbrev pub invariant-loop-next : goal.invariant-loop-next
invariant-loop-next l = live_from l.self l.from ≡ live_from l.self l.next
