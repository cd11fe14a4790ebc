use Rattle.std.proofs.Common.{rules, not}
use Rattle.std.proofs.lemmas.Fn.{filter_same}
use Rattle.config_lists.specs.GroupState.{is_state_for}
use Rattle.config_lists.proofs.group_state.remove_state.Goals as goal

pub returns : goal.returns
returns c = filter_same _ (λ s. not (is_state_for c.args.port c.args.subsystem.now c.args.group s)) _ (λ x b f k. search rules) _ _ c.retain.ensures.filtered
