use Rattle.std.proofs.lemmas.List.Elements.{recursion_from_All}
use Rattle.block_store.proofs.Overwrites.{count_after, latest_stands}
use Rattle.block_store.proofs.laws.latest_write_stands.Goals as goal

pub returns-clause-unit : goal.returns-clause-unit
returns-clause-unit c = λ writes contents unit within. latest_stands writes contents unit (recursion_from_All _ writes within)

pub returns-clause-count : goal.returns-clause-count
returns-clause-count c = λ writes contents within. count_after writes contents (recursion_from_All _ writes within)
