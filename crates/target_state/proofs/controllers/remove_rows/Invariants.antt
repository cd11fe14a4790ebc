use Rattle.std.proofs.Common.{◌≡◌, ℕ}
use Rattle.tables.specs.NumberTable.{place}
use Rattle.target_state.proofs.Removing.{removed_below}
use Rattle.target_state.proofs.controllers.remove_rows.Given as goal

-- of those below, the ones that are gone are removed
abbrev pub invariant-loop-cntlid : goal.invariant-loop-cntlid
invariant-loop-cntlid l = (d : ℕ) → place l.rows d ≡ removed_below l.gone l.cntlid d (place l.fn.rows d)
