use Rattle.block_store.proofs.Overwrites.{two_in_a_row}
use Rattle.block_store.proofs.laws.later_write_stands.Goals as goal

pub returns-clause-behind : goal.returns-clause-behind
returns-clause-behind c = two_in_a_row
