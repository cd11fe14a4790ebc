use Rattle.config_lists.proofs.Marks.{none_marked}
use Rattle.config_lists.proofs.nsid_set.NsidSet.new.Goals as goal

pub returns : goal.returns
returns c = none_marked 64
