use Rattle.std.proofs.Common.{rules, ◌==◌, not}
use Rattle.std.proofs.lemmas.Fn.{filter_same}
use Rattle.config_lists.proofs.port.remove_port.Goals as goal

pub returns : goal.returns
returns c = filter_same _ (λ port. not (port.id == c.args.id)) _ (λ x b f k. search rules) _ _ c.retain.ensures.filtered
