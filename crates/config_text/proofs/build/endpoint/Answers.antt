use Rattle.config_text.proofs.ValueLists.{list_4}
use Rattle.config_text.proofs.build.endpoint.Goals as goal

pub returns : goal.returns
returns c = list_4 _ _ _ _ _ _ _ _ _ c.requires c.number_at-id.ensures c.family_at.ensures c.in_ok-read_text.ensures c.number_at-service.ensures
