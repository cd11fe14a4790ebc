use Rattle.std.proofs.Common.{refl}
use Rattle.ana_view.specs.Counts.{for_each_group}
use Rattle.ana_view.proofs.counts.AnaCounts.new.Goals as goal

pub returns : goal.returns
unfolding for_each_group
returns c = refl
