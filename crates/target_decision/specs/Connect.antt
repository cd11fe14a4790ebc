-- What a Connect comes to (Base 2.0, section 6.3), by what the controllers answer.
use Rattle.std.specs.Prelude.{ℕ, List, Err}
use Rattle.fabrics_connect.specs.Connect.{connect}
use Rattle.fabrics_connect.specs.declared.decision.AdmitAs.{AdmitAs}
use Rattle.fabrics_connect.specs.declared.decision.AdmitAs.TheVariants as admit
use Rattle.fabrics_connect.specs.declared.decision.Decision.{Decision}
use Rattle.fabrics_connect.specs.declared.decision.Decision.TheVariants.{Admit, Deny}
use Rattle.pdu_codec.specs.Sqe.{connect_of}
use Rattle.target_decision.specs.declared.consequence.Consequence.TheVariants as consequence
use Rattle.target_decision.specs.Outcome.{Outcome, done}
use Rattle.target_decision.specs.World.{World}

-- the controller or the queue that is admitted for this entry; its result is the controller's identifier
abbrev pub admitted : AdmitAs → List ℕ → Outcome
admitted (admit.Controller new) entry =
    done new.cntlid (consequence.Begin (record { controller = new; sqsize = (connect_of entry).sqsize; kato = (connect_of entry).kato }))
admitted (admit.Queue cntlid qid) entry =
    done cntlid (consequence.Join (record { cntlid = cntlid; qid = qid; sqsize = (connect_of entry).sqsize }))

abbrev pub answered : Decision → List ℕ → Outcome
answered (Admit admission) entry = admitted admission entry
answered (Deny status result) entry = Err (record { status = status; result = result })

-- what a Connect on this port comes to, by its entry and the data in its capsule
abbrev pub connect_on : World → ℕ → List ℕ → List ℕ → Outcome
connect_on w port entry bytes = answered (connect w.config w.row port entry bytes) entry
