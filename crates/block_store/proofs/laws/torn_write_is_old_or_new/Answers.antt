use Rattle.block_store.proofs.Overwrites.{torn_count, torn_unit}
use Rattle.block_store.proofs.laws.torn_write_is_old_or_new.Goals as goal

pub returns-clause-unit : goal.returns-clause-unit
returns-clause-unit c = λ contents units new first unit within torn. torn_unit contents units new first within torn unit

pub returns-clause-count : goal.returns-clause-count
returns-clause-count c = torn_count
