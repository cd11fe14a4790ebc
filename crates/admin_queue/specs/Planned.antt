-- An edit that the views have planned.
use Rattle.nvt_config.specs.Configuration.{Configuration}
use Rattle.ana_view.specs.View.{Planned as AnaPlanned, PlansEdit as PlansAna}
use Rattle.change_lists.specs.ActiveView.{Planned as ActivePlanned, PlansEdit as PlansActive}
use Rattle.discovery_view.specs.Plan.{LeadsTo, Planned}
use Rattle.discovery_view.specs.Ready.{AreOf, ViewState}

-- the discovery view, and what each view planned
pub record PlanState : Type 0 where
  pub view : ViewState
  pub discovery : Planned
  pub active : ActivePlanned
  pub ana : AnaPlanned

-- It is an edit from one configuration to another: the discovery view is of the first and its plan leads to the second,
-- and the other views planned what lies between the two.
pub record Plans (old new : Configuration) (p : PlanState) : Type 0 where
  pub of : AreOf old p.view.slots p.view.rows
  pub leads : LeadsTo new p.view.shown p.view.slots p.view.rows p.discovery
  pub active : PlansActive old new p.active
  pub ana : PlansAna old new p.ana
