use Rattle.std.proofs.Common.{length, ap, arith}
use Rattle.config_lists.specs.NsidSet.{is_marked}
use Rattle.config_lists.proofs.Sets.{all_from_first, nsids_are_few}
use Rattle.config_lists.proofs.nsid_set.NsidSet.iter.Goals as goal

pub returns-clause-all : goal.returns-clause-all
returns-clause-all c = rw (← c.self.view_is) (all_from_first (is_marked c.self.inside.words))

pub returns-clause-few : goal.returns-clause-few
returns-clause-few c =
    omega (arith, ap length (all_from_first (is_marked c.self.inside.words)), nsids_are_few (is_marked c.self.inside.words))
