-- A controller is begun under an identifier that is free, by a capsule that names its subsystem and its host well.
use Rattle.std.proofs.Common.{◌≡◌, ℕ, ◌+◌, List, Option, Some, None, Result, Ok, Err}
use Rattle.fabrics_connect.specs.declared.decision.AdmitAs.{AdmitAs}
use Rattle.fabrics_connect.specs.declared.decision.AdmitAs.TheVariants as admit
use Rattle.fabrics_connect.specs.declared.decision.Decision.TheVariants.{Admit}
use Rattle.fabrics_connect.specs.declared.decision.NewController.{NewController}
use Rattle.fabrics_connect.specs.declared.decision.Refusal.{Refusal}
use Rattle.fabrics_connect.specs.Command.{HasNames}
use Rattle.fabrics_connect.specs.Connect.{answer_to, connect, decision_of}
use Rattle.fabrics_connect.specs.Laws.{IsLeastFree}
use Rattle.fabrics_connect.proofs.Consequences.{controller_named, identifiers_are_least}
use Rattle.nvt_fields.specs.declared.pdu_type.PduType.TheVariants.{CapsuleCmd}
use Rattle.pdu_cut.specs.Front.{Front, whole}
use Rattle.pdu_cut.specs.Pdu.{Pdu, data_part}
use Rattle.pdu_codec.specs.Sqe.{cid_of}
use Rattle.target_decision.specs.declared.capsule.Served.TheVariants.{Answered, Asked, Waits}
use Rattle.target_decision.specs.declared.consequence.Consequence.{Consequence}
use Rattle.target_decision.specs.declared.consequence.Consequence.TheVariants as consequence
use Rattle.target_decision.specs.declared.decision.Decision.{Decision}
use Rattle.target_decision.specs.declared.decision.Decision.TheVariants as decision
use Rattle.target_decision.specs.declared.session.ConnectionState.{ConnectionState}
use Rattle.target_decision.specs.declared.session.Session.{Session}
use Rattle.target_decision.specs.Begin.{BeginsFree, NamesWell}
use Rattle.target_decision.specs.Capsule.{answered_with, command, finished, owed}
use Rattle.target_decision.specs.Connect.{admitted}
use Rattle.target_decision.specs.Decision.{decide, entry_of}
use Rattle.target_decision.specs.Outcome.{Outcome}
use Rattle.target_decision.specs.Transfer.{Tags, head_in}
use Rattle.target_decision.specs.World.{World}
use Rattle.target_decision.proofs.Deciding.{command_is, decision_is, finished_is}

-- what a command with this entry and this data comes to begins nothing, or soundly
abbrev IsSoundBy : World → Consequence → List ℕ → List ℕ → Type 0
IsSoundBy w (consequence.Begin b) entry bytes = IsLeastFree w.row b.controller.cntlid × HasNames entry bytes
IsSoundBy w _ entry bytes = Unit {0}

abbrev IsSound : World → List ℕ → List ℕ → Outcome → Type 0
IsSound w entry bytes (Ok (Answered success)) = IsSoundBy w success.consequence entry bytes
IsSound w entry bytes (Ok (Asked len)) = Unit {0}
IsSound w entry bytes (Ok Waits) = Unit {0}
IsSound w entry bytes (Err refusal) = Unit {0}

answer_is : (answer : Result AdmitAs Refusal) (a : AdmitAs) → decision_of answer ≡ Admit a → answer ≡ Ok a
answer_is (Ok admission) a h = cc
answer_is (Err refusal) a h = cc

names : (w : World) (port : ℕ) (entry bytes : List ℕ) (new : NewController) → connect w.config w.row port entry bytes ≡ Admit (admit.Controller new)
    → HasNames entry bytes
unfolding connect
names w port entry bytes new h =
    controller_named w.config w.row port entry bytes (admit.Controller new)
    (answer_is (answer_to w.config w.row port entry bytes) (admit.Controller new) h)

admitted_sound : (w : World) (port : ℕ) (entry bytes : List ℕ) (a : AdmitAs) → connect w.config w.row port entry bytes ≡ Admit a
    → IsSound w entry bytes (admitted a entry)
admitted_sound w port entry bytes (admit.Queue cntlid qid) h = tt
admitted_sound w port entry bytes (admit.Controller new) h =
    (identifiers_are_least.is_least w.config w.row port entry bytes new.cntlid new.kind h, names w port entry bytes new h)

command_sound : (w : World) (v : ConnectionState) (tags : Tags) (entry bytes : List ℕ) → IsSound w entry bytes (command w v tags entry bytes)
command_sound w v tags entry bytes = command_is w v entry bytes (IsSound w entry bytes) (record {
  refuses = λ r. tt;
  admits = λ none a is. admitted_sound w v.port entry bytes a is;
  tells = λ value. tt;
  configures = λ cntlid role s. tt;
  administers = λ cntlid role c own s is. tt;
  waits = λ cntlid role c own is. tt;
  performs = λ cntlid qid role host port subsystem op is. tt;
  asks = λ cntlid qid role host port subsystem len is. tt;
}) tags

-- ---- a PDU

abbrev Founds : World → Front → Decision → Type 0
Founds w front d = BeginsFree w.row d × NamesWell d front

begins_founds : (w : World) (ch : Consequence) (pdu : Pdu) → pdu.kind ≡ CapsuleCmd → IsSoundBy w ch (entry_of pdu) (data_part pdu)
    → (r : _) → Founds w (whole pdu) (decision.Reply (record r { consequence = ch }))
begins_founds w (consequence.Begin b) pdu is h r = (h.0, (is, h.1))
begins_founds w _ pdu is h r = (tt, tt)

owed_founds : (w : World) (s : Session) (cid : ℕ) (transfer : Option ℕ) (o : Outcome) (pdu : Pdu) → pdu.kind ≡ CapsuleCmd
    → IsSound w (entry_of pdu) (data_part pdu) o → Founds w (whole pdu) (owed s cid transfer o)
owed_founds w s cid transfer (Ok (Answered success)) pdu is h = begins_founds w success.consequence pdu is h (answered_with s cid transfer success)
owed_founds w s cid transfer (Ok (Asked len)) pdu is h = (tt, tt)
owed_founds w s cid transfer (Ok Waits) pdu is h = (tt, tt)
owed_founds w s cid transfer (Err refusal) pdu is h = (tt, tt)

capsule_founds : (w : World) (v : ConnectionState) (tags : Tags) (front : Front) (pdu : Pdu) → front ≡ whole pdu → pdu.kind ≡ CapsuleCmd
    → Founds w front (owed v.session (cid_of (entry_of pdu)) None (command w v tags (entry_of pdu) (data_part pdu)))
capsule_founds w v tags front pdu is kind =
    rw is (owed_founds w v.session (cid_of (entry_of pdu)) None (command w v tags (entry_of pdu) (data_part pdu)) pdu kind
    (command_sound w v tags (entry_of pdu) (data_part pdu)))

-- nothing begins once data have come
finished_founds : (w : World) (s t : Session) (cid : ℕ) (transfer : Option ℕ) (front : Front) (entry : List ℕ) (came : ℕ)
    → Founds w front (owed t cid transfer (finished w s entry came))
finished_founds w s t cid transfer front entry came = finished_is w entry came (λ o. Founds w front (owed t cid transfer o)) s (record {
  refuses = λ status. (tt, tt);
  performs = λ cntlid qid role host port subsystem op is. (tt, tt);
})

pub decided_founds : (w : World) (v : ConnectionState) (tags : Tags) (front : Front)
    → BeginsFree w.row (decide w v tags front) × NamesWell (decide w v tags front) front
decided_founds w v tags front = decision_is w v tags front (Founds w front) (record {
  closes = (tt, tt);
  terminates = λ t. (tt, tt);
  initializes = λ opened alignment. (tt, tt);
  answers = λ pdu is kind room. capsule_founds w v tags front pdu is kind;
  receives = λ pdu part brings. (tt, tt);
  completes = λ pdu part brings.
      finished_founds w v.session v.session (head_in pdu).cccid (Some (head_in pdu).ttag) front part.command.entry
      ((head_in pdu).datao + (head_in pdu).datal);
})
