-- What follows from a reply. Each definition names the consequences that it is about; of every other nothing follows for
-- it.
use Rattle.std.specs.Prelude.{ℕ, ◌==◌, Option, Some, None, if◌then◌else◌}
use Rattle.target_decision.specs.declared.consequence.Consequence.{Consequence}
use Rattle.target_decision.specs.declared.consequence.Consequence.TheVariants as consequence
use Rattle.target_decision.specs.declared.consequence.Update.{Update}
use Rattle.target_decision.specs.declared.session.Role.{Role}
use Rattle.target_decision.specs.declared.session.Role.TheVariants.{Admin, Io}

-- the queue that it makes of the connection
abbrev pub role_by : Consequence → Option Role
role_by (consequence.Begin b) = Some (Admin b.controller.cntlid)
role_by (consequence.Join j) = Some (Io j.cntlid j.qid)
role_by _ = None

-- what it changes of the controller of this identifier
abbrev pub update_by : Consequence → ℕ → Option Update
update_by (consequence.Update d update) c = if c == d then Some update else None
update_by _ c = None
