use Rattle.pdu_cut.proofs.Streams.{cut_of, no_other_cut}
use Rattle.pdu_cut.proofs.cut.one_cut.Goals as goal

pub returns-clause-there_is : goal.returns-clause-there_is
returns-clause-there_is c = cut_of

pub returns-clause-no_other : goal.returns-clause-no_other
returns-clause-no_other c = no_other_cut
