-- An event with what it met, and what it comes to for each connection and each controller.
use Rattle.std.specs.Prelude.{ℕ, ◌+◌, ◌==◌, max, Bool, true, false, ◌||◌, List, [], ◌++◌, length, Option, Some, None, Result, Ok, Err, if◌then◌else◌}
use Rattle.std.specs.Option.{option_map}
use Rattle.config_lists.specs.declared.fault.EditFault.{EditFault}
use Rattle.nvt_config.specs.Accept.{accept}
use Rattle.nvt_config.specs.Configuration.{Configuration}
use Rattle.block_store.specs.Stored.{Stored}
use Rattle.data_transfer.specs.Part.{begun}
use Rattle.data_transfer.specs.Parts.{free_tag}
use Rattle.fabrics_connect.specs.declared.row.Row.{Row}
use Rattle.fabrics_connect.specs.Row.{joined, left, left_all, row_begun, with_ready}
use Rattle.io_queue.specs.Act.{DiskOutcome}
use Rattle.io_queue.specs.declared.operation.Operation.{Operation}
use Rattle.io_queue.specs.Execution.{Act, DisksDid}
use Rattle.event_queue.specs.declared.completion.Completion.{Completion}
use Rattle.admin_queue.specs.Notices.{NoticeState, tell_answers, told}
use Rattle.admin_queue.specs.Viewer.{Views, discovery, io}
use Rattle.nvt_fields.specs.declared.pdu_type.PduType.{PduType}
use Rattle.nvt_fields.specs.declared.pdu_type.PduType.TheVariants.{H2cData}
use Rattle.pdu_cut.specs.Front.{Front, incomplete, whole, faulty}
use Rattle.pdu_cut.specs.Pdu.{Pdu, data_part}
use Rattle.property_regs.specs.Regs.{is_ready}
use Rattle.target_decision.specs.declared.controller.Controller.{Controller}
use Rattle.target_decision.specs.declared.consequence.Beginning.{Beginning}
use Rattle.target_decision.specs.declared.consequence.Consequence.{Consequence}
use Rattle.target_decision.specs.declared.consequence.Consequence.TheVariants as consequence
use Rattle.target_decision.specs.declared.consequence.Update.{Update}
use Rattle.target_decision.specs.declared.decision.Decision.{Decision}
use Rattle.target_decision.specs.declared.decision.Decision.TheVariants as decision
use Rattle.target_decision.specs.declared.session.ConnectionState.{ConnectionState}
use Rattle.target_decision.specs.declared.session.Session.{Session}
use Rattle.target_decision.specs.declared.session.Role.TheVariants.{Admin}
use Rattle.target_decision.specs.declared.session.Session.TheVariants.{Connected, Ended}
use Rattle.target_decision.specs.Begin.{bytes_at, entry_at, row_by}
use Rattle.target_decision.specs.Carry.{brought_by, tags_after, waiting_at}
use Rattle.target_decision.specs.Consequence.{update_by}
use Rattle.target_decision.specs.Controller.{new_controller, registers_by, updated}
use Rattle.target_decision.specs.Decision.{act_by, decide, is_end, operation_of, sent_by}
use Rattle.target_decision.specs.Notice.{notices_after}
use Rattle.target_decision.specs.Session.{alignment_after, is_ended, opened_on, session_after}
use Rattle.target_decision.specs.Tell.{completed_in, completion_pdus}
use Rattle.target_decision.specs.Transfer.{Tags, head_in, no_tags}
use Rattle.target_decision.specs.World.{World}
use Rattle.target_history.specs.declared.end_cause.EndCause.{EndCause}
use Rattle.target_history.specs.declared.end_cause.EndCause.TheVariants as cause
use Rattle.target_history.specs.EndCause.{cause_decided, cause_edited, cause_lost, ends_by, ends_controller}
use Rattle.target_history.specs.Event.{Event, edited, front_in, gives_up, given_up, disk_outcome_in, opened, opens, port_in, stepped, steps, ticked}

-- an event, the world that decisions may look at, each connection that is known and its transfers, the clock, in ms, and
-- the units of each disk
pub record Occurrence : Type 0 where
  pub event : Event
  pub world : World
  pub connection : ℕ → Option ConnectionState
  pub parts : ℕ → Tags
  pub clock : ℕ
  pub blocks : ℕ → List (List ℕ)

-- ---- the configuration and the clock

abbrev pub accepted_or : Result Configuration EditFault → Configuration → Configuration
accepted_or (Ok c) old = c
accepted_or (Err fault) old = old

abbrev pub config_after : Event → Configuration → Configuration
config_after (edited edit) c = accepted_or (accept c edit) c
config_after _ c = c

-- the clock never goes back
abbrev pub clock_after : Event → ℕ → ℕ
clock_after (ticked now) clock = max clock now
clock_after _ clock = clock

-- ---- what is decided

-- a connection that is known and not ended is owed something
abbrev pub decided_on : World → Tags → Option ConnectionState → Front → Option Decision
decided_on w tags None front = None
decided_on w tags (Some v) front = if is_ended v.session then None else Some (decide w v tags front)

-- what is decided for connection k, where the event is a step of it
abbrev pub decided : Occurrence → ℕ → Option Decision
decided x k = if steps x.event k then decided_on x.world (x.parts k) (x.connection k) (front_in x.event) else None

-- the connection that it is a step of, as it met it
abbrev pub stepping : Event → (ℕ → Option ConnectionState) → Option ConnectionState
stepping (stepped n front m) connection = connection n
stepping _ connection = None

-- .. and its transfers
abbrev pub stepping_tags : Event → (ℕ → Tags) → Tags
stepping_tags (stepped n front m) parts = parts n
stepping_tags _ parts = no_tags

-- what is decided for that connection
abbrev pub decision_of : Occurrence → Option Decision
decision_of x = decided_on x.world (stepping_tags x.event x.parts) (stepping x.event x.connection) (front_in x.event)

abbrev pub consequence_decided : Option Decision → Consequence
consequence_decided (Some (decision.Reply r)) = r.consequence
consequence_decided _ = consequence.Nothing

-- what follows from the reply to the connection's own command
abbrev pub own_consequence : Occurrence → ℕ → Consequence
own_consequence x k = consequence_decided (decided x k)

-- what follows from the reply to any command
abbrev pub consequence_of : Occurrence → Consequence
consequence_of x = consequence_decided (decision_of x)

abbrev pub is_initialize : Option Decision → Bool
is_initialize (Some (decision.Initialize alignment)) = true
is_initialize _ = false

-- whether it initializes the connection
abbrev pub initializes : Occurrence → ℕ → Bool
initializes x k = is_initialize (decided x k)

-- ---- what ends

abbrev pub cause_stepped : Option ConnectionState → Option Decision → EndCause
cause_stepped None d = cause.Nothing
cause_stepped (Some v) None = cause.Nothing
cause_stepped (Some v) (Some d) = cause_decided v.session d

abbrev pub cause_given_up : Option ConnectionState → EndCause
cause_given_up None = cause.Nothing
cause_given_up (Some v) = cause_lost v.session

abbrev pub cause_by : Event → (ℕ → Option ConnectionState) → Option Decision → ℕ → EndCause
cause_by (edited edit) connection d clock = cause_edited edit
cause_by (opened port n) connection d clock = cause.Nothing
cause_by (stepped n front m) connection d clock = cause_stepped (connection n) d
cause_by (given_up n) connection d clock = cause_given_up (connection n)
cause_by (ticked now) connection d clock = cause.Clock (max clock now)

-- what it ends beside the connection that it is a step of
abbrev pub cause_of : Occurrence → EndCause
cause_of x = cause_by x.event x.connection (decision_of x) x.clock

-- whether it ends the controller of this identifier
abbrev pub ends_live : Occurrence → ℕ → Bool
ends_live x c = ends_controller (cause_of x) (config_after x.event x.world.config) c (x.world.row c) (x.world.controller c)

abbrev pub is_end_decided : Option Decision → Bool
is_end_decided None = false
is_end_decided (Some d) = is_end d

-- whether the connection's own step ends it
abbrev pub terminates : Occurrence → ℕ → Bool
terminates x k = is_end_decided (decided x k)

abbrev pub ends_at : Occurrence → Option ConnectionState → Bool
ends_at x None = false
ends_at x (Some v) = ends_by (cause_of x) (ends_live x) v

-- whether it ends connection k
abbrev pub ends : Occurrence → ℕ → Bool
ends x k = terminates x k || ends_at x (x.connection k)

-- ---- what an edit tells

abbrev pub made_by : Result Configuration EditFault → Option Configuration
made_by (Ok c) = Some c
made_by (Err fault) = None

-- the configuration that it makes, where it is an edit that is accepted
abbrev pub edit_made : Event → Configuration → Option Configuration
edit_made (edited edit) c = made_by (accept c edit)
edit_made _ c = None

-- what the controller of a row shows: a discovery controller, which has no subsystem, the discovery log page of its host;
-- any other what its host sees of its subsystem
abbrev pub views_named : List ℕ → Option (List ℕ) → ℕ → Views
views_named host None port = discovery host
views_named host (Some subsystem) port = io host subsystem port

abbrev pub views_of : Row → Views
views_of row = views_named row.host row.subsystem row.port

-- .. whose admin queue a session is
abbrev pub views_in : (ℕ → Option Row) → Session → Option Views
views_in row (Connected (Admin c) queue) = option_map views_of (row c)
views_in row _ = None

-- an edit from one configuration to another, as the host of a controller that shows this is told of it
pub record Telling : Type 0 where
  pub old : Configuration
  pub new : Configuration
  pub views : Views

abbrev pub telling_by : Configuration → Option Configuration → Option Views → Option Telling
telling_by old None views = None
telling_by old (Some new) None = None
telling_by old (Some new) (Some views) = Some (record { old = old; new = new; views = views })

-- what is told on a connection: an accepted edit, where that is the admin queue of a controller that it does not end
abbrev pub views_at : Occurrence → ConnectionState → Option Views
views_at x v = if ends_by (cause_of x) (ends_live x) v then None else views_in x.world.row v.session

abbrev pub telling : Occurrence → ConnectionState → Option Telling
telling x v = telling_by x.world.config (edit_made x.event x.world.config) (views_at x v)

-- the requests that it completes, and what is told after it
abbrev pub completed_by : Option Telling → NoticeState → List Completion
completed_by None s = []
completed_by (Some t) s = tell_answers t.old t.new t.views s

abbrev pub noted_by : Option Telling → NoticeState → NoticeState
noted_by None s = s
noted_by (Some t) s = told t.old t.new t.views s

abbrev pub completes_at : Occurrence → Option ConnectionState → List Completion
completes_at x None = []
completes_at x (Some v) = completed_by (telling x v) v.notices

-- the requests of connection k that it completes
abbrev pub completes : Occurrence → ℕ → List Completion
completes x k = completes_at x (x.connection k)

abbrev pub noted_at : Occurrence → Option ConnectionState → NoticeState → NoticeState
noted_at x None s = s
noted_at x (Some v) s = noted_by (telling x v) s

abbrev pub responses_decided : Option Decision → ℕ
responses_decided (Some (decision.Reply r)) = 1
responses_decided _ = 0

-- the number of responses that it sends to the connection
abbrev pub responses : Occurrence → ℕ → ℕ
responses x k = responses_decided (decided x k) + length (completes x k)

-- ---- what a connection is sent, and becomes

abbrev pub sends_on : World → (ℕ → List (List ℕ)) → DiskOutcome → Tags → Option ConnectionState → Option Decision → Front → List ℕ
sends_on w blocks m tags None d front = []
sends_on w blocks m tags (Some v) None front = []
sends_on w blocks m tags (Some v) (Some d) front = sent_by w blocks m v d front (brought_by tags d front)

-- .. by what is decided for connection k
abbrev pub replies_to : Occurrence → ℕ → List ℕ
replies_to x k = sends_on x.world x.blocks (disk_outcome_in x.event) (x.parts k) (x.connection k) (decided x k) (front_in x.event)

-- .. and by an edit
abbrev pub told_at : Occurrence → Option ConnectionState → List ℕ
told_at x None = []
told_at x (Some v) = completion_pdus v.session (completed_by (telling x v) v.notices)

-- what it sends to connection k
abbrev pub sends : Occurrence → ℕ → List ℕ
sends x k = replies_to x k ++ told_at x (x.connection k)

-- ---- what it asks of a disk, and writes

abbrev pub operation_decided : Option Decision → Option Operation
operation_decided None = None
operation_decided (Some d) = operation_of d

-- the operation that it performs, where it performs one
abbrev pub operation_asked : Occurrence → Option Operation
operation_asked x = operation_decided (decision_of x)

abbrev pub bytes_decided : Option Decision → Tags → Front → List ℕ
bytes_decided None tags front = []
bytes_decided (Some d) tags front = (brought_by tags d front).bytes

-- the bytes for it: those in its capsule, or all data of its transfer
abbrev pub bytes_asked : Occurrence → List ℕ
bytes_asked x = bytes_decided (decision_of x) (stepping_tags x.event x.parts) (front_in x.event)

-- the disks did what the event says, and that is what they may do at it
abbrev pub DisksAct : Occurrence → List Stored → List Stored → Type 0
DisksAct x old new = DisksDid (operation_asked x) (bytes_asked x) (disk_outcome_in x.event) old new

abbrev pub act_decided : Option Decision → Tags → Front → DiskOutcome → Option Act
act_decided None tags front m = None
act_decided (Some d) tags front m = act_by d (brought_by tags d front) m

-- what it writes to a disk
abbrev pub acts : Occurrence → Option Act
acts x = act_decided (decision_of x) (stepping_tags x.event x.parts) (front_in x.event) (disk_outcome_in x.event)

-- ---- what becomes of transfers

-- the transfer that an R2T begins, by what is decided: it has no data yet, and the least tag that is free
abbrev pub requested_by : Option Decision → Front → Tags → Tags
requested_by (Some (decision.Request q)) front tags t =
    if t == free_tag tags then Some (begun q.cid (waiting_at front) q.len) else None
requested_by _ front tags t = None

-- the one that it begins under a tag of connection k
abbrev pub requests : Occurrence → ℕ → Tags
requests x k t = requested_by (decided x k) (front_in x.event) (x.parts k) t

-- the data of an H2CData that names this tag
abbrev pub data_by : PduType → Pdu → ℕ → List ℕ
data_by H2cData pdu t = if t == (head_in pdu).ttag then data_part pdu else []
data_by _ pdu t = []

abbrev pub data_at : Front → ℕ → List ℕ
data_at (whole pdu) t = data_by pdu.kind pdu t
data_at incomplete t = []
data_at (faulty fault head) t = []

-- the data that it brings to this tag of connection k
abbrev pub data_brought : Occurrence → ℕ → ℕ → List ℕ
data_brought x k t = if steps x.event k then data_at (front_in x.event) t else []

abbrev pub tags_decided : Option Decision → Front → Tags → Tags
tags_decided None front tags t = tags t
tags_decided (Some d) front tags t = tags_after d front tags t

-- the transfers of connection k after it: none where it is opened, given up or ended
abbrev pub parts_after : Occurrence → ℕ → Tags → Tags
parts_after x k tags t =
    if opens x.event k || (gives_up x.event k || ends x k) then None else tags_decided (decided x k) (front_in x.event) tags t

-- ---- what a connection becomes

abbrev pub session_decided : Session → Option Decision → Session
session_decided session None = session
session_decided session (Some d) = session_after session d

abbrev pub alignment_decided : ℕ → Option Decision → ℕ
alignment_decided before None = before
alignment_decided before (Some d) = alignment_after before d

abbrev pub notices_decided : NoticeState → Option Decision → NoticeState
notices_decided before None = before
notices_decided before (Some d) = notices_after before d

abbrev pub connection_moved : Occurrence → ℕ → ConnectionState → ConnectionState
connection_moved x k v = record {
  port = v.port;
  session =
      if ends_by (cause_of x) (ends_live x) v then Ended else
      completed_in (session_decided v.session (decided x k)) (completed_by (telling x v) v.notices);
  alignment = alignment_decided v.alignment (decided x k);
  notices = noted_by (telling x v) (notices_decided v.notices (decided x k));
}

abbrev pub connection_after : Occurrence → ℕ → Option ConnectionState → Option ConnectionState
connection_after x k o =
    if opens x.event k then Some (opened_on (port_in x.event)) else
    if gives_up x.event k then None else option_map (connection_moved x k) o

-- ---- what a controller becomes

-- what a controller began with: what its Connect said, the row that this made, and the clock of then
pub record Start : Type 0 where
  pub beginning : Beginning
  pub row : Row
  pub clock : ℕ

abbrev pub port_at : Option ConnectionState → ℕ
port_at None = 0
port_at (Some v) = v.port

-- the port of the connection that it is a step of
abbrev pub port_met : Occurrence → ℕ
port_met x = port_at (stepping x.event x.connection)

-- .. where it is this that it began with
abbrev pub started : Occurrence → Beginning → Start
started x b = record {
  beginning = b;
  row = row_begun b.controller (port_met x) (entry_at (front_in x.event)) (bytes_at (front_in x.event));
  clock = x.clock;
}

abbrev pub begins_by : Occurrence → Consequence → ℕ → Option Start
begins_by x (consequence.Begin b) c = if c == b.controller.cntlid then Some (started x b) else None
begins_by x _ c = None

-- the controller of this identifier that it begins
abbrev pub begins : Occurrence → ℕ → Option Start
begins x c = begins_by x (consequence_of x) c

-- what a command on its admin queue changes of it
abbrev pub updates : Occurrence → ℕ → Option Update
updates x c = update_by (consequence_of x) c

-- the queues that an I/O queue, or a reset, leaves
abbrev pub row_kept : EndCause → ℕ → Row → Row
row_kept (cause.Queue d qid) c row = if c == d then left qid row else row
row_kept (cause.Reset d) c row = if c == d then left_all row else row
row_kept _ c row = row

abbrev pub row_left : Occurrence → ℕ → Option Row → Option Row
row_left x c o = if ends_live x c then None else option_map (row_kept (cause_of x) c) o

-- whether a controller is ready after its own command
abbrev pub ready_after : Update → Option Controller → Bool
ready_after u None = false
ready_after u (Some c) = is_ready (registers_by u c.registers)

-- what a reply makes of a row, with this row where it begins a controller
abbrev pub row_changed : Consequence → Option Row → Option Controller → ℕ → Option Row → Option Row
row_changed (consequence.Begin b) begun controller c o = if c == b.controller.cntlid then begun else o
row_changed (consequence.Join j) begun controller c o = if c == j.cntlid then option_map (joined j.qid) o else o
row_changed (consequence.Update d u) begun controller c o = if c == d then option_map (with_ready (ready_after u controller)) o else o
row_changed _ begun controller c o = o

abbrev pub row_after : Occurrence → ℕ → Option Row → Option Row
row_after x c o =
    row_changed (consequence_of x) (row_by (consequence_of x) (port_met x) (front_in x.event)) (x.world.controller c) c (row_left x c o)

-- .. and of what its own admin queue alone uses, when the clock shows this
abbrev pub controller_changed : Consequence → ℕ → ℕ → Option Controller → Option Controller
controller_changed (consequence.Begin b) now c o = if c == b.controller.cntlid then Some (new_controller b.controller.kind b.kato now) else o
controller_changed (consequence.Update d u) now c o = if c == d then option_map (updated u now) o else o
controller_changed _ now c o = o

abbrev pub controller_after : Occurrence → ℕ → Option Controller → Option Controller
controller_after x c o = controller_changed (consequence_of x) x.clock c (if ends_live x c then None else o)
