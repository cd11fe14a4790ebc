use Rattle.std.proofs.Common.{ap, ◌∙◌}
use Rattle.std.specs.List.{each_same}
use Rattle.nvt_config.proofs.config.Config.clone_storage.Goals as goal

pub returns-clause-units : goal.returns-clause-units
returns-clause-units c = each_same _ _ c.in_ok-clone.ensures.cases.0 ∙ ap (λ v. v.units) c.self.view_is

pub returns-clause-subsystems : goal.returns-clause-subsystems
returns-clause-subsystems c = each_same _ _ c.in_ok-clone-2.ensures.cases.0 ∙ ap (λ v. v.subsystems) c.self.view_is
