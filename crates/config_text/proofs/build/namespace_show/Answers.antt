use Rattle.std.proofs.Common.{refl}
use Rattle.config_text.proofs.ValueLists.{list_3}
use Rattle.config_text.proofs.build.namespace_show.Goals as goal

pub returns : goal.returns
returns c = record { command_is = refl; values_are = list_3 _ _ _ _ _ _ _ c.requires c.in_ok-subsystem.ensures c.number_at.ensures c.in_ok-read_name.ensures }
