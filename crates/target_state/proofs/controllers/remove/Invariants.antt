use Rattle.std.proofs.Common.{◌≡◌, ℕ, length}
use Rattle.tables.specs.NumberTable.{place}
use Rattle.target_state.proofs.Removing.{removed_below}
use Rattle.target_state.proofs.controllers.remove.Given as goal

-- of those below, the ones that are gone are removed
abbrev pub invariant-loop-cntlid : goal.invariant-loop-cntlid
invariant-loop-cntlid l = (length l.own ≡ length l.fn.own) × ((d : ℕ) → place l.own d ≡ removed_below l.gone l.cntlid d (place l.fn.own d))
