use Rattle.std.proofs.Common.{refl, sym, ◌∙◌}
use Rattle.target_state.proofs.Removing.{none_found, none_gone}
use Rattle.target_state.proofs.controllers.gone.Goals as goal

pub loop-cntlid-init : goal.loop-cntlid-init
loop-cntlid-init c = (refl, λ d. none_gone 33 d ∙ sym (none_found c.args.cause.now c.args.config.now _ d))
