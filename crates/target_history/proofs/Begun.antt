-- A controller begins by a Connect that admits it.
use Rattle.std.proofs.Common.{◌≡◌, ℕ, ◌+◌, Bool, true, false, List, Option, Some, None}
use Rattle.std.specs.Prelude.{if◌then◌else◌}
use Rattle.fabrics_connect.specs.declared.decision.AdmitAs.{AdmitAs}
use Rattle.fabrics_connect.specs.declared.decision.AdmitAs.TheVariants as admit
use Rattle.fabrics_connect.specs.declared.decision.Decision.TheVariants.{Admit}
use Rattle.fabrics_connect.specs.Connect.{connect}
use Rattle.pdu_codec.specs.Sqe.{cid_of}
use Rattle.pdu_cut.specs.Front.{Front, whole}
use Rattle.pdu_cut.specs.Pdu.{Pdu, data_part}
use Rattle.target_decision.specs.declared.consequence.Consequence.{Consequence}
use Rattle.target_decision.specs.declared.consequence.Consequence.TheVariants as consequence
use Rattle.target_decision.specs.declared.decision.Decision.{Decision}
use Rattle.target_decision.specs.declared.decision.Decision.TheVariants as decision
use Rattle.target_decision.specs.declared.session.ConnectionState.{ConnectionState}
use Rattle.target_decision.specs.declared.session.Session.{Session}
use Rattle.target_decision.specs.Begin.{bytes_at, entry_at}
use Rattle.target_decision.specs.Capsule.{command, owed}
use Rattle.target_decision.specs.Connect.{admitted}
use Rattle.target_decision.specs.Decision.{decide, entry_of}
use Rattle.target_decision.specs.Session.{is_ended}
use Rattle.target_decision.specs.Transfer.{Tags, head_in}
use Rattle.target_decision.specs.World.{World}
use Rattle.target_decision.proofs.Deciding.{command_is, decision_is, finished_is}
use Rattle.target_history.specs.Event.{front_in}
use Rattle.target_history.specs.Occurrence.{Occurrence, consequence_decided, consequence_of, decided_on, port_at, port_met, stepping, stepping_tags}

-- the Connect of this entry and this data, through this port, admits the controller that a reply begins
abbrev pub BegunBy : World → ℕ → List ℕ → List ℕ → Consequence → Type 0
BegunBy w port entry bytes (consequence.Begin b) = connect w.config w.row port entry bytes ≡ Admit (admit.Controller b.controller)
BegunBy w port entry bytes _ = Unit {0}

-- .. and that a decision on this front begins
abbrev Begun : World → ℕ → Front → Decision → Type 0
Begun w port front (decision.Reply r) = BegunBy w port (entry_at front) (bytes_at front) r.consequence
Begun w port front _ = Unit {0}

admitted_begun : (w : World) (port : ℕ) (front : Front) (pdu : Pdu) (s : Session) (cid : ℕ) (a : AdmitAs) → front ≡ whole pdu
    → connect w.config w.row port (entry_of pdu) (data_part pdu) ≡ Admit a → Begun w port front (owed s cid None (admitted a (entry_of pdu)))
admitted_begun w port front pdu s cid (admit.Queue cntlid qid) is h = tt
admitted_begun w port front pdu s cid (admit.Controller new) is h = rw is h

command_begun : (w : World) (v : ConnectionState) (tags : Tags) (front : Front) (pdu : Pdu) (cid : ℕ) → front ≡ whole pdu
    → Begun w v.port front (owed v.session cid None (command w v tags (entry_of pdu) (data_part pdu)))
command_begun w v tags front pdu cid whole_is =
    command_is w v (entry_of pdu) (data_part pdu) (λ o. Begun w v.port front (owed v.session cid None o)) (record {
      refuses = λ r. tt;
      admits = λ none a is. admitted_begun w v.port front pdu v.session cid a whole_is is;
      tells = λ value. tt;
      configures = λ cntlid role s. tt;
      administers = λ cntlid role c own s is. tt;
      waits = λ cntlid role c own is. tt;
      performs = λ cntlid qid role host port subsystem op is. tt;
      asks = λ cntlid qid role host port subsystem len is. tt;
    }) tags

decide_begun : (w : World) (v : ConnectionState) (tags : Tags) (front : Front) → Begun w v.port front (decide w v tags front)
decide_begun w v tags front = decision_is w v tags front (Begun w v.port front) (record {
  closes = tt;
  terminates = λ t. tt;
  initializes = λ opened alignment. tt;
  answers = λ pdu is kind room. command_begun w v tags front pdu (cid_of (entry_of pdu)) is;
  receives = λ pdu part brings. tt;
  completes = λ pdu part brings.
      finished_is w part.command.entry ((head_in pdu).datao + (head_in pdu).datal)
      (λ o. Begun w v.port front (owed v.session (head_in pdu).cccid (Some (head_in pdu).ttag) o)) v.session
      (record { refuses = λ status. tt; performs = λ cntlid qid role host port subsystem op is. tt });
})

-- ---- an event

follows_begun : (w : World) (port : ℕ) (front : Front) (d : Decision) → Begun w port front d
    → BegunBy w port (entry_at front) (bytes_at front) (consequence_decided (Some d))
follows_begun w port front (decision.Reply r) h = h
follows_begun w port front _ h = tt

decided_begun : (w : World) (tags : Tags) (o : Option ConnectionState) (front : Front)
    → BegunBy w (port_at o) (entry_at front) (bytes_at front) (consequence_decided (decided_on w tags o front))
decided_begun w tags None front = tt
decided_begun w tags (Some v) front = by (is_ended v.session) where
  by : (over : Bool) → BegunBy w v.port (entry_at front) (bytes_at front) (consequence_decided (if over then None else Some (decide w v tags front)))
  by true = tt
  by false = follows_begun w v.port front (decide w v tags front) (decide_begun w v tags front)

-- the controller that an event begins is admitted by the Connect that stands at the front of its step
pub event_begun : (x : Occurrence) → BegunBy x.world (port_met x) (entry_at (front_in x.event)) (bytes_at (front_in x.event)) (consequence_of x)
event_begun x = decided_begun x.world (stepping_tags x.event x.parts) (stepping x.event x.connection) (front_in x.event)
