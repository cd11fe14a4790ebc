use Rattle.target_decision.proofs.Carrying.{last_bytes, last_stands}
use Rattle.target_decision.proofs.carry.end.Goals as goal

pub returns-clause-bytes : goal.returns-clause-bytes
returns-clause-bytes c =
    last_bytes c.args.transfers.now c.receive.new.transfers c.args.connection c.args.ttag c.args.pdu.now c.finish.result c.requires.last c.receive.ensures
    c.finish.ensures.whole

pub returns-clause-ended : goal.returns-clause-ended
returns-clause-ended c =
    last_stands c.args.transfers.now c.receive.new.transfers c.finish.new.self c.args.connection c.args.ttag c.args.pdu.now c.requires.last
    c.receive.ensures c.finish.ensures.left
