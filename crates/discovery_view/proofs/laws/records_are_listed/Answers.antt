use Rattle.discovery_view.proofs.Listings.{records_listed}
use Rattle.discovery_view.proofs.laws.records_are_listed.Goals as goal

pub returns : goal.returns
returns c = records_listed
