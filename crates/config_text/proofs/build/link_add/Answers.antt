use Rattle.std.proofs.Common.{refl}
use Rattle.config_text.proofs.ValueLists.{list_2}
use Rattle.config_text.proofs.build.link_add.Goals as goal

pub returns : goal.returns
returns c = record { command_is = refl; values_are = list_2 _ _ _ _ _ c.requires c.number_at.ensures c.in_ok-read_name.ensures }
