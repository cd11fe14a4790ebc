use Rattle.std.proofs.Common.{refl}
use Rattle.config_text.proofs.ValueLists.{list_3}
use Rattle.config_text.proofs.build.subsystem_add.Goals as goal

pub returns : goal.returns
returns c = record { command_is = refl; values_are = list_3 _ _ _ _ _ _ _ c.requires c.in_ok-nqn.ensures c.in_ok-read_text.ensures c.access_at.ensures }
