use Rattle.nvt_config.proofs.Count.{namespaces_are_few}
use Rattle.nvt_config.proofs.Valid.{IsValid-accept}
use Rattle.nvt_config.proofs.laws.accepted_stays_valid.Goals as goal

pub returns-clause-stays : goal.returns-clause-stays
returns-clause-stays c = IsValid-accept

pub returns-clause-few : goal.returns-clause-few
returns-clause-few c = namespaces_are_few
