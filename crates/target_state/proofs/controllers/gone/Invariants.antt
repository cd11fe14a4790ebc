use Rattle.std.proofs.Common.{◌≡◌, ℕ, length}
use Rattle.target_state.specs.Controllers.{TablesState, is_gone}
use Rattle.target_state.proofs.Removing.{found_below}
use Rattle.target_state.proofs.controllers.gone.Given as goal

-- those below are found
abbrev pub invariant-loop-cntlid : goal.invariant-loop-cntlid
invariant-loop-cntlid l =
    let t : TablesState = record { rows = l.rows; own = l.own } in
    (length l.gone ≡ 33) × ((d : ℕ) → is_gone l.gone d ≡ found_below l.cause l.config t l.cntlid d)
