use Rattle.std.proofs.Common.{ap, ◌∙◌}
use Rattle.std.specs.List.{each_same}
use Rattle.nvt_config.proofs.config.Config.clone_hosts.Goals as goal

pub returns : goal.returns
returns c = record {
  hosts = each_same _ _ c.in_ok-clone.ensures.cases.0 ∙ ap (λ v. v.hosts) c.self.view_is;
  allows = each_same _ _ c.in_ok-clone-2.ensures.cases.0 ∙ ap (λ v. v.allows) c.self.view_is;
  shows = each_same _ _ c.in_ok-clone-3.ensures.cases.0 ∙ ap (λ v. v.shows) c.self.view_is;
}
