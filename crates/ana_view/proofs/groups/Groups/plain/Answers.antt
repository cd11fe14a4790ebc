use Rattle.ana_view.proofs.Members.{plain_descriptor}
use Rattle.ana_view.proofs.groups.Groups.plain.Goals as goal

pub returns : goal.returns
returns c = λ config subsystem own group few.
    plain_descriptor config subsystem _ group own (c.of.ensures.found group few)
