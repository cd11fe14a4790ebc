use Rattle.std.proofs.Common.{arith}
use Rattle.config_lists.proofs.Marks.{left_is_short}
use Rattle.config_lists.proofs.nsid_set.bits_from.Goals as goal

pub returns-clause-few : goal.returns-clause-few
returns-clause-few c = left_is_short c.args.word c.args.bit c.ranges.word.fits (omega arith)
