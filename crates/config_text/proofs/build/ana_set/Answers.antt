use Rattle.std.proofs.Common.{refl}
use Rattle.config_text.proofs.ValueLists.{list_4}
use Rattle.config_text.proofs.build.ana_set.Goals as goal

pub returns : goal.returns
returns c = record { command_is = refl; values_are = list_4 _ _ _ _ _ _ _ _ _ c.requires c.number_at.ensures c.in_ok-read_name.ensures c.number_at-2.ensures c.state_at.ensures }
