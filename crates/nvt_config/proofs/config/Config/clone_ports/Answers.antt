use Rattle.std.proofs.Common.{ap, ◌∙◌}
use Rattle.std.specs.List.{each_same}
use Rattle.nvt_config.proofs.config.Config.clone_ports.Goals as goal

pub returns : goal.returns
returns c = record {
  ports = each_same _ _ c.in_ok-clone.ensures.cases.0 ∙ ap (λ v. v.ports) c.self.view_is;
  links = each_same _ _ c.in_ok-clone-2.ensures.cases.0 ∙ ap (λ v. v.links) c.self.view_is;
  states = each_same _ _ c.in_ok-clone-3.ensures.cases.0 ∙ ap (λ v. v.states) c.self.view_is;
  referrals = each_same _ _ c.in_ok-clone-4.ensures.cases.0 ∙ ap (λ v. v.referrals) c.self.view_is;
}
