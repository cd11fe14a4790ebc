use Rattle.std.proofs.Common.{refl}
use Rattle.config_text.proofs.ValueLists.{list_1}
use Rattle.config_text.proofs.build.subsystem_del.Goals as goal

pub returns : goal.returns
returns c = record { command_is = refl; values_are = list_1 _ _ _ c.requires c.in_ok-read_name.ensures }
