use Rattle.std.proofs.Common.{rules, ◌&&◌, not}
use Rattle.std.proofs.lemmas.Fn.{filter_same}
use Rattle.std.specs.Str.{bytes_eq}
use Rattle.config_lists.proofs.allow.remove_allow.Goals as goal

pub returns : goal.returns
returns c = filter_same _ (λ a. not (bytes_eq a.subsystem c.args.subsystem.now && bytes_eq a.host c.args.host.now)) _ (λ x b f k. search rules) _ _ c.retain.ensures.filtered
