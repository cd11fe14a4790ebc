use Rattle.target_core.proofs.Places.{new_is_target}
use Rattle.target_core.proofs.target.Target.over.Goals as goal

pub invariant_of-result : goal.invariant_of-result
invariant_of-result g c = record {
  tables = new_is_target _ _ c.in-Ok.ensures.streams c.in-Ok.ensures.connections;
  units = c.requires;
  shows = c.in-Ok.ensures.of;
}
