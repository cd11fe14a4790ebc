-- A Connect admits a connection that has no queue yet: to a controller under an identifier that is free, or as a
-- queue that its controller has not.
use Rattle.std.proofs.Common.{◌≡◌, ◌≤◌, ℕ, ◌+◌, Bool, true, false, List, Option, Some, None, Result, Ok, Err, refl, ap, sym, subst}
use Rattle.std.specs.Prelude.{if◌then◌else◌, IsSomeAnd}
use Rattle.fabrics_connect.specs.declared.decision.AdmitAs.{AdmitAs}
use Rattle.fabrics_connect.specs.declared.decision.AdmitAs.TheVariants as admit
use Rattle.fabrics_connect.specs.declared.decision.Decision.TheVariants.{Admit}
use Rattle.fabrics_connect.specs.declared.decision.Refusal.{Refusal}
use Rattle.fabrics_connect.specs.declared.row.Row.{Row}
use Rattle.fabrics_connect.specs.Command.{Parameters, data_verdict, parameters_of}
use Rattle.fabrics_connect.specs.Connect.{admitted as admitted_by, answer_to, connect, decision_of}
use Rattle.fabrics_connect.specs.Laws.{MayBeJoined}
use Rattle.fabrics_connect.specs.Row.{has_queue}
use Rattle.fabrics_connect.proofs.Admitted.{HasJoined, joins_passed, next_passed}
use Rattle.fabrics_connect.proofs.Consequences.{identifiers_are_least}
use Rattle.pdu_codec.specs.Sqe.{cid_of, sgl1_of}
use Rattle.pdu_cut.specs.Front.{Front}
use Rattle.pdu_cut.specs.Pdu.{data_part}
use Rattle.target_decision.specs.declared.consequence.Consequence.{Consequence}
use Rattle.target_decision.specs.declared.consequence.Consequence.TheVariants as consequence
use Rattle.target_decision.specs.declared.decision.Decision.{Decision}
use Rattle.target_decision.specs.declared.decision.Decision.TheVariants as decision
use Rattle.target_decision.specs.declared.session.ConnectionState.{ConnectionState}
use Rattle.target_decision.specs.declared.session.Role.{Role}
use Rattle.target_decision.specs.declared.session.Session.{Session}
use Rattle.target_decision.specs.Capsule.{command, owed}
use Rattle.target_decision.specs.Connect.{admitted}
use Rattle.target_decision.specs.Decision.{decide, entry_of}
use Rattle.target_decision.specs.Session.{is_ended, role_in}
use Rattle.target_decision.specs.Transfer.{Tags, head_in}
use Rattle.target_decision.specs.World.{World}
use Rattle.target_decision.proofs.Deciding.{command_is, decision_is, finished_is}
use Rattle.target_history.specs.Event.{front_in, steps}
use Rattle.target_history.specs.Occurrence.{Occurrence, consequence_decided, consequence_of, decided, decided_on, port_at, stepping, stepping_tags}
use Rattle.target_history.specs.Laws.{role_at}

-- a controller on this port may get a queue of this identifier
pub record CanTake (through qid : ℕ) (row : Row) : Type 0 where
  pub port : row.port ≡ through
  pub vacant : has_queue qid row ≡ false

-- what a reply admits a connection to, which is this queue on this port before
abbrev pub AdmitsBy : (ℕ → Option Row) → Option Role → ℕ → Consequence → Type 0
AdmitsBy row role port (consequence.Begin b) = (role ≡ None) × (row b.controller.cntlid ≡ None)
AdmitsBy row role port (consequence.Join j) = (role ≡ None) × (j.qid ≤ 8) × IsSomeAnd (row j.cntlid) (CanTake port j.qid)
AdmitsBy row role port _ = Unit {0}

-- .. and what a decision does, which initializes a connection without a queue alone
abbrev pub Admits : (ℕ → Option Row) → Option Role → ℕ → Decision → Type 0
Admits row role port (decision.Reply r) = AdmitsBy row role port r.consequence
Admits row role port (decision.Initialize alignment) = role ≡ None
Admits row role port _ = Unit {0}

abbrev pub AdmitsAt : (ℕ → Option Row) → Option Role → ℕ → Option Decision → Type 0
AdmitsAt row role port None = Unit {0}
AdmitsAt row role port (Some d) = Admits row role port d

-- ---- a Connect

answer_is : (answer : Result AdmitAs Refusal) (a : AdmitAs) → decision_of answer ≡ Admit a → answer ≡ Ok a
answer_is (Ok admission) a h = cc
answer_is (Err refusal) a h = cc

joined_to : (w : World) (port : ℕ) (entry bytes : List ℕ) (cntlid qid : ℕ) → connect w.config w.row port entry bytes ≡ Admit (admit.Queue cntlid qid)
    → HasJoined w.row port (parameters_of entry bytes) cntlid qid
unfolding connect
joined_to w port entry bytes cntlid qid h =
    let p = parameters_of entry bytes in
    let answered = answer_is (answer_to w.config w.row port entry bytes) (admit.Queue cntlid qid) h in
    joins_passed w.config w.row port p cntlid qid
    (next_passed (data_verdict (sgl1_of entry) bytes) (admitted_by w.config w.row port p) (admit.Queue cntlid qid) answered)

takes : (port qid : ℕ) (p : Parameters) (o : Option Row) → p.qid ≡ qid → IsSomeAnd o (MayBeJoined port p) → IsSomeAnd o (CanTake port qid)
takes port qid p None is h = h
takes port qid p (Some row) is h = record { port = h.port; vacant = subst (λ (q : ℕ). has_queue q row ≡ false) is h.vacant }

admitted_admits : (w : World) (port : ℕ) (s : Session) (cid : ℕ) (entry bytes : List ℕ) (a : AdmitAs) → connect w.config w.row port entry bytes ≡ Admit a
    → Admits w.row None port (owed s cid None (admitted a entry))
admitted_admits w port s cid entry bytes (admit.Queue cntlid qid) h =
    let joined = joined_to w port entry bytes cntlid qid h in
    (refl, joined.most, takes port qid (parameters_of entry bytes) (w.row cntlid) joined.qid joined.found)
admitted_admits w port s cid entry bytes (admit.Controller new) h =
    (refl, (identifiers_are_least.is_least w.config w.row port entry bytes new.cntlid new.kind h).free)

-- ---- a PDU

command_admits : (w : World) (v : ConnectionState) (tags : Tags) (cid : ℕ) (entry bytes : List ℕ)
    → Admits w.row (role_in v.session) v.port (owed v.session cid None (command w v tags entry bytes))
command_admits w v tags cid entry bytes =
    command_is w v entry bytes (λ o. Admits w.row (role_in v.session) v.port (owed v.session cid None o)) (record {
      refuses = λ r. tt;
      admits = λ none a is.
          subst (λ (role : Option Role). Admits w.row role v.port (owed v.session cid None (admitted a entry))) (sym none)
          (admitted_admits w v.port v.session cid entry bytes a is);
      tells = λ value. tt;
      configures = λ cntlid role s. tt;
      administers = λ cntlid role c own s is. tt;
      waits = λ cntlid role c own is. tt;
      performs = λ cntlid qid role host port subsystem op is. tt;
      asks = λ cntlid qid role host port subsystem len is. tt;
    }) tags

decide_admits : (w : World) (v : ConnectionState) (tags : Tags) (front : Front) → Admits w.row (role_in v.session) v.port (decide w v tags front)
decide_admits w v tags front = decision_is w v tags front (Admits w.row (role_in v.session) v.port) (record {
  closes = tt;
  terminates = λ t. tt;
  initializes = λ opened alignment. ap role_in opened;
  answers = λ pdu is kind room. command_admits w v tags (cid_of (entry_of pdu)) (entry_of pdu) (data_part pdu);
  receives = λ pdu part brings. tt;
  completes = λ pdu part brings.
      finished_is w part.command.entry ((head_in pdu).datao + (head_in pdu).datal)
      (λ o. Admits w.row (role_in v.session) v.port (owed v.session (head_in pdu).cccid (Some (head_in pdu).ttag) o)) v.session
      (record { refuses = λ status. tt; performs = λ cntlid qid role host port subsystem op is. tt });
})

-- ---- an event

decided_admits : (w : World) (tags : Tags) (o : Option ConnectionState) (front : Front) → AdmitsAt w.row (role_at o) (port_at o) (decided_on w tags o front)
decided_admits w tags None front = tt
decided_admits w tags (Some v) front = by (is_ended v.session) where
  by : (over : Bool) → AdmitsAt w.row (role_in v.session) v.port (if over then None else Some (decide w v tags front))
  by true = tt
  by false = decide_admits w v tags front

follows_admits : (row : ℕ → Option Row) (role : Option Role) (port : ℕ) (d : Option Decision) → AdmitsAt row role port d
    → AdmitsBy row role port (consequence_decided d)
follows_admits row role port (Some (decision.Reply r)) h = h
follows_admits row role port _ h = tt

-- what is decided for a connection is right for the queue that it is
pub own_admits : (x : Occurrence) (k : ℕ) → AdmitsAt x.world.row (role_at (x.connection k)) (port_at (x.connection k)) (decided x k)
own_admits x k = by (steps x.event k) where
  by : (stepping : Bool)
      → AdmitsAt x.world.row (role_at (x.connection k)) (port_at (x.connection k)) (if stepping then decided_on x.world (x.parts k) (x.connection k) (front_in x.event) else None)
  by true = decided_admits x.world (x.parts k) (x.connection k) (front_in x.event)
  by false = tt

-- what follows from a reply is admitted to the connection that an event steps
pub event_admits : (x : Occurrence)
    → AdmitsBy x.world.row (role_at (stepping x.event x.connection)) (port_at (stepping x.event x.connection)) (consequence_of x)
event_admits x =
    let o = stepping x.event x.connection in
    let tags = stepping_tags x.event x.parts in
    follows_admits x.world.row (role_at o) (port_at o) (decided_on x.world tags o (front_in x.event)) (decided_admits x.world tags o (front_in x.event))
