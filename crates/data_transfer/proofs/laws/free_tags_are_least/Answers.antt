use Rattle.data_transfer.proofs.Tags.{IsLeastFree-free_tag, free_within}
use Rattle.data_transfer.proofs.laws.free_tags_are_least.Goals as goal

pub returns-clause-least : goal.returns-clause-least
returns-clause-least g c = IsLeastFree-free_tag

pub returns-clause-within : goal.returns-clause-within
returns-clause-within g c = free_within
