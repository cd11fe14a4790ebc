use Rattle.std.proofs.Common.{rules, not}
use Rattle.std.proofs.lemmas.Fn.{filter_same}
use Rattle.std.specs.Str.{bytes_eq}
use Rattle.config_lists.proofs.subsystem.remove_subsystem.Goals as goal

pub returns : goal.returns
returns c = filter_same _ (λ subsystem. not (bytes_eq subsystem.nqn c.args.nqn.now)) _ (λ x b f k. search rules) _ _ c.retain.ensures.filtered
