use Rattle.std.proofs.Common.{rules, ◌==◌, ◌&&◌, not}
use Rattle.std.proofs.lemmas.Fn.{filter_same}
use Rattle.std.specs.Str.{bytes_eq}
use Rattle.config_lists.proofs.link.remove_link.Goals as goal

pub returns : goal.returns
returns c = filter_same _ (λ link. not (link.port == c.args.port && bytes_eq link.subsystem c.args.subsystem.now)) _ (λ x b f k. search rules) _ _ c.retain.ensures.filtered
