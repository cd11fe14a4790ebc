use Rattle.std.proofs.Common.{rules, not}
use Rattle.std.proofs.lemmas.Fn.{filter_same}
use Rattle.config_lists.specs.Namespace.{is_named}
use Rattle.config_lists.proofs.namespace.remove_namespace.Goals as goal

pub returns : goal.returns
returns c = filter_same _ (λ n. not (is_named c.args.subsystem.now c.args.nsid n)) _ (λ x b f k. search rules) _ _ c.retain.ensures.filtered
