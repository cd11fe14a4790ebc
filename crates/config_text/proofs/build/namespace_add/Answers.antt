use Rattle.std.proofs.Common.{refl}
use Rattle.config_text.proofs.ValueLists.{list_7}
use Rattle.config_text.proofs.build.namespace_add.Goals as goal

pub returns : goal.returns
returns c = record { command_is = refl; values_are = list_7 _ _ _ _ _ _ _ _ _ _ _ _ _ _ _ c.requires c.in_ok-read_name.ensures c.number_at.ensures c.number_at-2.ensures c.number_at-3.ensures c.number_at-4.ensures c.uuid_at.ensures c.number_at-5.ensures }
