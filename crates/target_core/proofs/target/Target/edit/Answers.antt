use Rattle.target_core.proofs.Agreements.{transition_agrees}
use Rattle.target_core.proofs.target.Target.edit.Goals as goal

pub returns-clause-reach : goal.returns-clause-reach
returns-clause-reach g c = c.in_ok-commit_edit.ensures.transition.formed

pub returns-clause-agrees : goal.returns-clause-agrees
returns-clause-agrees g c = transition_agrees _ _ _ c.in_ok-commit_edit.ensures.transition
