use Rattle.std.proofs.Common.{◌≡◌, ℕ}
use Rattle.nvt_config.specs.Configuration.{Configuration}
use Rattle.admin_queue.specs.Planned.{Plans}
use Rattle.tables.specs.NumberTable.{place}
use Rattle.tables.proofs.NumberWalks.{mapped_below}
use Rattle.target_core.specs.Connection.{told_known}
use Rattle.target_core.proofs.settle.tell.Given as goal

-- the hosts of the connections below k are told
abbrev pub invariant-loop-k : goal.invariant-loop-k
invariant-loop-k l =
    (old new : Configuration) → Plans old new l.plan → l.connections ≡ mapped_below (told_known old new (λ (c : ℕ). place l.tables.rows c)) l.k l.fn.connections
