-- The controllers that live, as the calls of a target see them.
use Rattle.std.specs.Prelude.{◌≡◌, ℕ, Bool, false, List, length, replicate, slice_index_or, Option, None, IsSomeAnd, is_none}
use Rattle.admin_queue.specs.Pages.{Pages}
use Rattle.nvt_config.specs.Configuration.{Configuration}
use Rattle.fabrics_connect.specs.declared.row.Row.{Row}
use Rattle.fabrics_connect.specs.Controllers.{CanBegin, no_controllers}
use Rattle.tables.specs.NumberTable.{place}
use Rattle.target_decision.specs.declared.controller.Controller.{Controller}
use Rattle.target_decision.specs.declared.consequence.Consequence.{Consequence}
use Rattle.target_decision.specs.declared.consequence.Consequence.TheVariants as consequence
use Rattle.target_decision.specs.World.{World}
use Rattle.target_history.specs.declared.end_cause.EndCause.{EndCause}
use Rattle.target_history.specs.EndCause.{ends_controller}

-- the places of the tables: one for each identifier from 1 on, and for 0, which is never given
abbrev pub controller_places : ℕ
controller_places = 33

-- under its identifier, of each controller that lives what all connections may see of it, and what its own admin
-- queue alone uses
pub record TablesState : Type 0 where
  pub rows : List (Option Row)
  pub own : List (Option Controller)

-- both have the same controllers
pub record AreTables (t : TablesState) : Type 0 where
  pub places : length t.own ≡ controller_places
  pub alike : (c : ℕ) → is_none (place t.rows c) ≡ is_none (place t.own c)

pub record IsNewTables (t : TablesState) : Type 0 where
  pub rows : t.rows ≡ no_controllers
  pub own : t.own ≡ replicate controller_places None

-- what a decision may look at, with these pages and this configuration
abbrev pub world_with : Pages → Configuration → TablesState → World
world_with pages config t = record {
  pages = pages;
  config = config;
  row = λ c. place t.rows c;
  controller = λ c. place t.own c;
}

-- ---- the controllers that an event ends

-- whether it ends the controller of this identifier, where the configuration has become this
abbrev pub gone_by : EndCause → Configuration → TablesState → ℕ → Bool
gone_by cause config t cntlid = ends_controller cause config cntlid (place t.rows cntlid) (place t.own cntlid)

-- .. as it was found
abbrev pub is_gone : List Bool → ℕ → Bool
is_gone gone cntlid = slice_index_or gone cntlid false

-- ---- what a reply asks of them

-- a controller that begins has a row of its identifier, which is free
pub record CanStart (cntlid : ℕ) (begun : Option Row) (t : TablesState) : Type 0 where
  pub row : IsSomeAnd begun (λ row. row.cntlid ≡ cntlid)
  pub begins : CanBegin t.rows cntlid

abbrev pub CanFollow : Consequence → Option Row → TablesState → Type 0
CanFollow (consequence.Begin b) row t = CanStart b.controller.cntlid row t
CanFollow _ row t = Unit {0}
