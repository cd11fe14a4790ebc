use Rattle.pdu_cut.specs.Cut.{front_shown}
use Rattle.target_decision.specs.Transfer.{tags_in}
use Rattle.target_decision.specs.World.{world_in}
use Rattle.target_decision.proofs.Begins.{decided_founds}
use Rattle.target_decision.proofs.Carrying.{decided_carries}
use Rattle.target_decision.proofs.Within.{decided_within}
use Rattle.target_decision.proofs.decision.decide.Goals as goal

pub returns-clause-begins : goal.returns-clause-begins
returns-clause-begins c =
    rw c.decide_front.ensures (decided_founds (world_in c.args.world.now) c.args.v.now (tags_in c.args.own.now) (front_shown c.args.front.now)).0

pub returns-clause-named : goal.returns-clause-named
returns-clause-named c =
    rw c.decide_front.ensures (decided_founds (world_in c.args.world.now) c.args.v.now (tags_in c.args.own.now) (front_shown c.args.front.now)).1

pub returns-clause-within : goal.returns-clause-within
returns-clause-within c =
    rw c.decide_front.ensures (decided_within (world_in c.args.world.now) c.args.v.now (tags_in c.args.own.now) (front_shown c.args.front.now) c.namespaces.ensures.valid)

pub returns-clause-carries : goal.returns-clause-carries
returns-clause-carries c =
    rw c.decide_front.ensures (decided_carries (world_in c.args.world.now) c.args.v.now (tags_in c.args.own.now) (front_shown c.args.front.now))
