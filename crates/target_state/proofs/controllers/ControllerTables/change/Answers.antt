use Rattle.target_state.proofs.Changing.{updated_rows, updated_tables}
use Rattle.target_state.proofs.controllers.ControllerTables.change.Goals as goal

pub invariant_of-self-in-Update-1 : goal.invariant_of-self-in-Update-1
invariant_of-self-in-Update-1 c =
    updated_tables _ c.in-Update-default.cntlid c.in-Update-default.update _ _ _ _ c.self.invariant c.updated-ready.ensures.each c.updated-ready.ensures.places c.set_ready.ensures

pub returns-in-Update-default-clause-rows : goal.returns-in-Update-default-clause-rows
returns-in-Update-default-clause-rows c =
    rw (← c.self.view_is)
    (updated_rows (record { rows = c.self.inside.rows; own = c.self.inside.own }) c.in-Update-default.cntlid c.in-Update-default.update c.args.consequence.now c.args.row
    c.set_ready.new.self c.in-Update-default.is-0 (rw c.updated-ready.ensures.ready at c.set_ready.ensures))
