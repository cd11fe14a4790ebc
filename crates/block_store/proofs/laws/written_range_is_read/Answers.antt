use Rattle.block_store.proofs.Overwrites.{range_outside}
use Rattle.block_store.proofs.laws.written_range_is_read.Goals as goal

pub returns-clause-other : goal.returns-clause-other
returns-clause-other c = λ contents units first other count within apart. range_outside contents units first within other count apart
