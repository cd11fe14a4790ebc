use Rattle.ana_view.proofs.Listings.{groups_are_listed}
use Rattle.ana_view.proofs.laws.groups_are_listed.Goals as goal

pub returns : goal.returns
returns c = groups_are_listed
