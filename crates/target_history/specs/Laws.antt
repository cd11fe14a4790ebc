-- Laws of histories.
use Rattle.std.specs.Prelude.{◌≡◌, ◌≤◌, ℕ, ◌+◌, ◌%◌, Bool, true, false, ◌==◌, ◌||◌, ◌&&◌, List, [], ◌∷◌, length, Option, Some, None, IsSomeAnd, if◌then◌else◌}
use Rattle.admin_queue.specs.Controller.{AdminController}
use Rattle.admin_queue.specs.Laws.{ToldAlike}
use Rattle.ana_view.specs.Counts.{Counts}
use Rattle.config_lists.specs.declared.edit.Edit.{Edit}
use Rattle.config_lists.specs.declared.edit.Edit.TheVariants.{PortDel}
use Rattle.nvt_config.specs.Permission.{may_use}
use Rattle.data_transfer.specs.Parts.{count_of}
use Rattle.event_queue.specs.declared.changes.ViewChanges.{ViewChanges}
use Rattle.fabrics_connect.specs.declared.row.Row.{Row}
use Rattle.fabrics_connect.specs.Command.{Parameters, parameters_of}
use Rattle.fabrics_connect.specs.Connect.{is_served}
use Rattle.fabrics_connect.specs.Controllers.{free_cntlid}
use Rattle.fabrics_connect.specs.Permitted.{is_permitted}
use Rattle.fabrics_connect.specs.Row.{has_queue as has_qid}
use Rattle.io_queue.specs.declared.operation.Operation.{Operation}
use Rattle.io_queue.specs.Laws.{SeenAlike}
use Rattle.io_queue.specs.Operation.{disk_of}
use Rattle.admin_queue.specs.Notices.{NoticeState}
use Rattle.admin_queue.specs.Viewer.{changes_seen}
use Rattle.nvt_fields.specs.declared.pdu_type.PduType.{PduType}
use Rattle.nvt_fields.specs.declared.pdu_type.PduType.TheVariants.{CapsuleCmd}
use Rattle.pdu_codec.specs.Sqe.{fctype_of, opcode_of}
use Rattle.pdu_cut.specs.Front.{Front, incomplete, whole, faulty}
use Rattle.property_regs.specs.declared.regs.Change.TheVariants as change
use Rattle.target_decision.specs.declared.controller.Controller.{Controller}
use Rattle.target_decision.specs.declared.consequence.ConfigurationSet.{ConfigurationSet}
use Rattle.target_decision.specs.declared.consequence.Consequence.TheVariants as consequence
use Rattle.target_decision.specs.declared.consequence.Update.TheVariants as update
use Rattle.target_decision.specs.declared.decision.Decision.TheVariants as decision
use Rattle.target_decision.specs.declared.decision.Reply.{Reply}
use Rattle.target_decision.specs.declared.session.ConnectionState.{ConnectionState}
use Rattle.target_decision.specs.declared.session.Role.{Role}
use Rattle.target_decision.specs.declared.session.Role.TheVariants.{Admin, Io}
use Rattle.target_decision.specs.declared.session.Session.{Session}
use Rattle.target_decision.specs.declared.session.Session.TheVariants.{Opened, Initialized, Connected, Ended}
use Rattle.target_decision.specs.Begin.{bytes_at, entry_at}
use Rattle.target_decision.specs.Capsule.{connect_type, fabrics_opcode, is_ready_at}
use Rattle.target_decision.specs.Controller.{registers_at}
use Rattle.target_decision.specs.Session.{role_in}
use Rattle.target_decision.specs.Tell.{completed_in}
use Rattle.target_decision.specs.Transfer.{Tags}
use Rattle.target_decision.specs.World.{World, admin_controller}
use Rattle.target_history.specs.EndCause.{ends_timer}
use Rattle.target_history.specs.Event.{Event, edited, front_in, gives_up, opens, steps, ticked}
use Rattle.target_history.specs.Occurrence.{Occurrence, Telling, completed_by, consequence_of, decided, cause_of, ends, ends_live, noted_by, operation_decided, parts_after, responses, telling}
use Rattle.target_history.specs.History.{Admission, active_of, Opening, admission_of, clock_of, config_of, controller_of, connection_of, groups_page_of, happened, has_ended, is_known, is_live, mark_of, meets_after, notices_of, page_of, part_of, port_of, responses_since, row_of, sent}

-- ---- what connections are sent

pub record EndedAreSentNothing : Type 0 where
  pub silent : (disks : Opening) (events : List Event) (event : Event) (k : ℕ) → has_ended (happened disks events) k ≡ true
      → opens event k ≡ false → gives_up event k ≡ false
      → sent (happened disks (event ∷ events)) k ≡ sent (happened disks events) k

-- an edit that deletes the port of a connection ends it
pub record DeletedPortsEnd : Type 0 where
  pub ends : (x : Occurrence) (before : List Occurrence) (k id : ℕ) → x.event ≡ edited (PortDel id) → x.connection k ≡ connection_of before k
      → is_known before k ≡ true → port_of before k ≡ id
      → has_ended (x ∷ before) k ≡ true

abbrev pub is_command : PduType → Bool
is_command CapsuleCmd = true
is_command _ = false

abbrev pub is_capsule : Front → Bool
is_capsule (whole pdu) = is_command pdu.kind
is_capsule incomplete = false
is_capsule (faulty fault head) = false

-- the number of capsules that were consumed of a connection's stream since it was opened, and of the
-- responses that it was sent
abbrev pub capsules_of : List Occurrence → ℕ → ℕ
capsules_of [] k = 0
capsules_of (x ∷ before) k =
    if opens x.event k then 0 else (if steps x.event k && is_capsule (front_in x.event) then 1 else 0) + capsules_of before k

abbrev pub responses_of : List Occurrence → ℕ → ℕ
responses_of [] k = 0
responses_of (x ∷ before) k = if opens x.event k then 0 else responses x k + responses_of before k

-- the commands of a connection that are outstanding: those that wait for their data, and the event requests that wait
abbrev pub outstanding_of : List Occurrence → ℕ → ℕ
outstanding_of happened k = count_of (part_of happened k) + length (notices_of happened k).events.waiting

-- each response answers a capsule, and each command that is outstanding came in one
pub record ResponsesAnswerCapsules : Type 0 where
  pub answer : (disks : Opening) (events : List Event) (k : ℕ)
      → responses_of (happened disks events) k + outstanding_of (happened disks events) k ≤ capsules_of (happened disks events) k

abbrev pub is_edit : Event → Bool
is_edit (edited edit) = true
is_edit _ = false

pub record PagesChangeByEdits : Type 0 where
  pub stays : (disks : Opening) (x : Occurrence) (before : List Occurrence) (host : List ℕ) → is_edit x.event ≡ false
      → page_of disks (x ∷ before) host ≡ page_of disks before host
  pub lists : (disks : Opening) (x : Occurrence) (before : List Occurrence) (host subsystem : List ℕ) (above : ℕ) → is_edit x.event ≡ false
      → active_of disks (x ∷ before) host subsystem above ≡ active_of disks before host subsystem above
  pub groups : (disks : Opening) (x : Occurrence) (before : List Occurrence) (host subsystem : List ℕ) (port : ℕ) (counts : Counts) (groups_only : Bool)
      → is_edit x.event ≡ false
      → groups_page_of disks (x ∷ before) host subsystem port counts groups_only ≡ groups_page_of disks before host subsystem port counts groups_only

-- the size of the queue that a Connect made, and 0 where there is none
abbrev pub sqsize_of : Option Admission → ℕ
sqsize_of None = 0
sqsize_of (Some a) = a.sqsize

-- each response carries the number of responses since the Connect, itself included, round the queue's
-- size; on a connection without a queue that is 0
pub record HeadsCountResponses : Type 0 where
  pub counts : (x : Occurrence) (before : List Occurrence) (k : ℕ) (r : Reply)
      → x.connection k ≡ connection_of before k → decided x k ≡ Some (decision.Reply r)
      → r.sqhd ≡ responses_since (x ∷ before) k % (sqsize_of (admission_of (x ∷ before) k) + 1)

-- ---- transfers

-- the transfers of a connection, carried on from each event to the next as its decision says
abbrev pub carried_parts : List Occurrence → ℕ → Tags
carried_parts [] k t = None
carried_parts (x ∷ before) k t = parts_after x k (carried_parts before k) t

-- what stands under a tag of a connection, looking back to its R2T, is what was carried on to now
pub record TransfersAreCarriedOn : Type 0 where
  pub carried : (disks : Opening) (events : List Event) (k ttag : ℕ)
      → part_of (happened disks events) k ttag ≡ carried_parts (happened disks events) k ttag

-- ---- what one connection owes another

-- an event opens, steps or gives up connection k, or is an edit, of which its host may be told
abbrev pub is_of : Event → ℕ → Bool
is_of event k = opens event k || (steps event k || (gives_up event k || is_edit event))

-- what happened to connection k itself, the newest first
abbrev pub own : List Occurrence → ℕ → List Occurrence
own [] k = []
own (x ∷ before) k = if is_of x.event k then x ∷ own before k else own before k

-- whether a Connect stands at a front
abbrev pub is_connect : Front → Bool
is_connect front =
    is_capsule front && ((opcode_of (entry_at front) == fabrics_opcode) && (fctype_of (entry_at front) == connect_type))

-- Two worlds show a Connect on this port the same: whether the subsystem that it names is there and its host
-- may use it, and then, for an admin queue, the identifier that is free, and for an I/O queue the controller
-- that it names.
pub record ConnectAlike (v w : World) (port : ℕ) (p : Parameters) : Type 0 where
  pub served : is_served v.config port p.subsystem ≡ is_served w.config port p.subsystem
  pub used : may_use v.config p.host p.subsystem port ≡ may_use w.config p.host p.subsystem port
  pub free : (p.qid == 0) ≡ true → free_cntlid v.row ≡ free_cntlid w.row
  pub named : (p.qid == 0) ≡ false → v.row p.cntlid ≡ w.row p.cntlid

-- .. and what can be told of a controller that lives
abbrev pub AreToldAlike : Option AdminController → World → World → Type 0
AreToldAlike None v w = Unit {0}
AreToldAlike (Some c) v w = ToldAlike c v.pages w.pages v.config w.config

-- .. and the admin queue of a controller whether it is ready, its properties, its host, subsystem and timeout, and
-- what can be told of it
pub record AdminAlike (v w : World) (notices : NoticeState) (cntlid : ℕ) : Type 0 where
  pub ready : is_ready_at (v.row cntlid) ≡ is_ready_at (w.row cntlid)
  pub registers : registers_at (v.controller cntlid) ≡ registers_at (w.controller cntlid)
  pub controller : admin_controller v notices cntlid ≡ admin_controller w notices cntlid
  pub told : AreToldAlike (admin_controller v notices cntlid) v w

-- what an I/O command sees of its controller
pub record IoSeen : Type 0 where
  pub ready : Bool
  pub host : List ℕ
  pub subsystem : Option (List ℕ)
  pub port : ℕ

abbrev pub io_seen : Option Row → Option IoSeen
io_seen None = None
io_seen (Some row) = Some (record { ready = row.ready; host = row.host; subsystem = row.subsystem; port = row.port })

-- .. of the namespaces of its subsystem that its host sees, and of the ANA states of its port
abbrev pub SubsystemAlike : Option (List ℕ) → List ℕ → ℕ → World → World → Type 0
SubsystemAlike None host port v w = Unit {0}
SubsystemAlike (Some nqn) host port v w = SeenAlike host port nqn v.config w.config

abbrev pub AreSeenAlike : Option IoSeen → World → World → Type 0
AreSeenAlike None v w = Unit {0}
AreSeenAlike (Some s) v w = SubsystemAlike s.subsystem s.host s.port v w

-- .. and an I/O queue whether its controller is ready, and its namespaces and their states
pub record IoAlike (v w : World) (cntlid : ℕ) : Type 0 where
  pub controller : io_seen (v.row cntlid) ≡ io_seen (w.row cntlid)
  pub seen : AreSeenAlike (io_seen (v.row cntlid)) v w

abbrev pub RoleAlike : World → World → NoticeState → Role → Type 0
RoleAlike v w notices (Admin cntlid) = AdminAlike v w notices cntlid
RoleAlike v w notices (Io cntlid qid) = IoAlike v w cntlid

-- .. and a connection that is no queue what its Connect asks about, and nothing else
abbrev pub SessionAlike : World → World → ConnectionState → Front → Session → Type 0
SessionAlike v w c front Opened = Unit {0}
SessionAlike v w c front Initialized = is_connect front ≡ true → ConnectAlike v w c.port (parameters_of (entry_at front) (bytes_at front))
SessionAlike v w c front (Connected role queue) = RoleAlike v w c.notices role
SessionAlike v w c front Ended = Unit {0}

abbrev pub WorldAlike : World → World → Front → Option ConnectionState → Type 0
WorldAlike v w front None = Unit {0}
WorldAlike v w front (Some c) = SessionAlike v w c front c.session

-- the disk of an operation, where there is one, has the same blocks
abbrev pub DiskAlike : Option Operation → (ℕ → List (List ℕ)) → (ℕ → List (List ℕ)) → Type 0
DiskAlike None b c = Unit {0}
DiskAlike (Some op) b c = b (disk_of op) ≡ c (disk_of op)

-- which of the views of the controller whose admin queue a connection is an edit changes that is told there
abbrev pub changes_of : Option Telling → Option ViewChanges
changes_of None = None
changes_of (Some t) = Some (changes_seen t.old t.new t.views)

abbrev pub changes_at : Occurrence → Option ConnectionState → Option ViewChanges
changes_at x None = None
changes_at x (Some v) = changes_of (telling x v)

-- the same event twice, which met connection k as the same, and where it is its step in worlds that showed it
-- the same, with the same blocks on the disk of its operation; and where it is an edit it changed the same of its views
pub record SameFor (k : ℕ) (x y : Occurrence) : Type 0 where
  pub event : y.event ≡ x.event
  pub connection : x.connection k ≡ y.connection k
  pub parts : x.parts k ≡ y.parts k
  pub world : steps x.event k ≡ true → WorldAlike x.world y.world (front_in x.event) (x.connection k)
  pub disk : DiskAlike (operation_decided (decided x k)) x.blocks y.blocks
  pub changes : changes_at x (x.connection k) ≡ changes_at y (y.connection k)

abbrev pub HappenedAlike : List Occurrence → List Occurrence → ℕ → Type 0
HappenedAlike [] [] k = Unit {0}
HappenedAlike [] (y ∷ ys) k = ⊥
HappenedAlike (x ∷ xs) [] k = ⊥
HappenedAlike (x ∷ xs) (y ∷ ys) k = SameFor k x y × HappenedAlike xs ys k

-- a connection to which the same happened, and whose worlds showed it the same of its own controller and its disks,
-- is sent the same, whatever happens to other connections, controllers and disks
pub record SentByOwnAlone : Type 0 where
  pub same : (g h : List Occurrence) (k : ℕ) → HappenedAlike (own g k) (own h k) k → sent g k ≡ sent h k

-- ---- what ends connections and controllers

-- whether a connection is an I/O queue of this controller
abbrev pub is_io_of : ℕ → Role → Bool
is_io_of c (Admin cntlid) = false
is_io_of c (Io cntlid qid) = c == cntlid

abbrev pub is_io_queue_of : ℕ → Session → Bool
is_io_queue_of c (Connected role queue) = is_io_of c role
is_io_queue_of c _ = false

-- a Property Set that resets a controller ends the I/O queues of that controller, no other connection, and no
-- controller
pub record ResetsEndTheirQueuesAlone : Type 0 where
  pub connections : (x : Occurrence) (d : ℕ) (s : ConfigurationSet) (k : ℕ) (v : ConnectionState)
      → consequence_of x ≡ consequence.Update d (update.Configuration s) → s.change ≡ change.Reset
      → x.connection k ≡ Some v → ends x k ≡ is_io_queue_of d v.session
  pub controllers : (x : Occurrence) (d : ℕ) (s : ConfigurationSet) (c : ℕ)
      → consequence_of x ≡ consequence.Update d (update.Configuration s) → s.change ≡ change.Reset → ends_live x c ≡ false

-- whether an edit deletes this port
abbrev pub deletes : Edit → ℕ → Bool
deletes (PortDel id) port = id == port
deletes _ port = false

-- whether a connection is a queue of this controller
abbrev pub is_role_of : ℕ → Role → Bool
is_role_of c (Admin cntlid) = c == cntlid
is_role_of c (Io cntlid qid) = c == cntlid

abbrev pub is_queue_of : ℕ → Session → Bool
is_queue_of c (Connected role queue) = is_role_of c role
is_queue_of c _ = false

-- The controller of this row is permitted after an edit, which does not delete its port.
pub record StaysPermitted (disks : Opening) (events : List Event) (edit : Edit) (c : ℕ) (row : Row) : Type 0 where
  pub lives : row_of (happened disks events) c ≡ Some row
  pub port : deletes edit row.port ≡ false
  pub permitted : is_permitted (config_of disks (happened disks (edited edit ∷ events))) row ≡ true

-- a connection after an event that does not end it and is no step of it: its host is told, where it is an edit
abbrev pub told_on : Occurrence → ConnectionState → ConnectionState
told_on x v = record v {
  session = completed_in v.session (completed_by (telling x v) v.notices);
  notices = noted_by (telling x v) v.notices;
}

-- .. then it outlives the edit, all as it was, and so do those of its connections whose port is not deleted; its host is
-- told of the edit
pub record PermittedOutliveEdits : Type 0 where
  pub row : (disks : Opening) (events : List Event) (edit : Edit) (c : ℕ) (row : Row) → StaysPermitted disks events edit c row
      → row_of (happened disks (edited edit ∷ events)) c ≡ Some row
  pub controller : (disks : Opening) (events : List Event) (edit : Edit) (c : ℕ) (row : Row) → StaysPermitted disks events edit c row
      → controller_of (happened disks (edited edit ∷ events)) c ≡ controller_of (happened disks events) c
  pub connections : (disks : Opening) (events : List Event) (edit : Edit) (c : ℕ) (row : Row) (k : ℕ) (v : ConnectionState)
      → StaysPermitted disks events edit c row → connection_of (happened disks events) k ≡ Some v
      → is_queue_of c v.session ≡ true → deletes edit v.port ≡ false
      → connection_of (happened disks (edited edit ∷ events)) k
      ≡ Some (told_on (meets_after disks (happened disks events) (edited edit)) v)

-- an edit that deletes the port of a controller ends it, and so does any edit after which its host may not use its
-- subsystem through its port
pub record EditsEndControllers : Type 0 where
  pub deleted : (disks : Opening) (events : List Event) (edit : Edit) (c : ℕ) (row : Row) → row_of (happened disks events) c ≡ Some row
      → deletes edit row.port ≡ true → row_of (happened disks (edited edit ∷ events)) c ≡ None
  pub barred : (disks : Opening) (events : List Event) (edit : Edit) (c : ℕ) (row : Row) → row_of (happened disks events) c ≡ Some row
      → is_permitted (config_of disks (happened disks (edited edit ∷ events))) row ≡ false
      → row_of (happened disks (edited edit ∷ events)) c ≡ None

-- the host of each controller that lives may use its subsystem through its port, whatever edits took away
pub record LiveArePermitted : Type 0 where
  pub permitted : (disks : Opening) (events : List Event) (c : ℕ) (row : Row) → row_of (happened disks events) c ≡ Some row
      → is_permitted (config_of disks (happened disks events)) row ≡ true

abbrev pub is_tick : Event → Bool
is_tick (ticked now) = true
is_tick _ = false

abbrev pub has_ticks : List Event → Bool
has_ticks [] = false
has_ticks (event ∷ events) = is_tick event || has_ticks events

-- where the clock is never set it shows 0, as it did at each Connect and each Keep Alive, and no event ends a
-- controller by its Keep Alive Timer
pub record NothingExpiresWithoutTicks : Type 0 where
  pub clock : (disks : Opening) (events : List Event) → has_ticks events ≡ false → clock_of (happened disks events) ≡ 0
  pub mark : (disks : Opening) (events : List Event) (c : ℕ) → has_ticks events ≡ false → mark_of (happened disks events) c ≡ 0
  pub timers : (disks : Opening) (events : List Event) (event : Event) (controller : Option Controller) → has_ticks (event ∷ events) ≡ false
      → ends_timer (cause_of (meets_after disks (happened disks events) event)) controller ≡ false

-- ---- queues, over all that happened

-- which queue a connection is, where it is known and not ended
abbrev pub role_at : Option ConnectionState → Option Role
role_at None = None
role_at (Some v) = role_in v.session

abbrev pub role_of : List Occurrence → ℕ → Option Role
role_of happened k = role_at (connection_of happened k)

-- no two connections are one queue: not the admin queue of one controller, nor its I/O queues of one
-- identifier
pub record QueuesAreOfOneConnection : Type 0 where
  pub one : (disks : Opening) (events : List Event) (j k : ℕ) (role : Role)
      → role_of (happened disks events) j ≡ Some role → role_of (happened disks events) k ≡ Some role → j ≡ k

-- each connection was opened under a number that was not known
abbrev pub OpenVacant : Opening → List Event → Type 0
OpenVacant disks [] = Unit {0}
OpenVacant disks (event ∷ events) =
    ((k : ℕ) → opens event k ≡ true → is_known (happened disks events) k ≡ false) × OpenVacant disks events

-- a controller lives exactly as long as a connection is its admin queue
pub record ControllersLiveByTheirAdmins : Type 0 where
  pub lives : (disks : Opening) (events : List Event) (k c : ℕ) → role_of (happened disks events) k ≡ Some (Admin c)
      → is_live (happened disks events) c ≡ true
  pub served : (disks : Opening) (events : List Event) (c : ℕ) → OpenVacant disks events → is_live (happened disks events) c ≡ true
      → (k : ℕ) × (role_of (happened disks events) k ≡ Some (Admin c))

-- a controller that lives is on the port of each of its connections
pub record QueuesAreOnTheirPort : Type 0 where
  pub port : (disks : Opening) (events : List Event) (k c : ℕ) (v : ConnectionState) → connection_of (happened disks events) k ≡ Some v
      → is_queue_of c v.session ≡ true → IsSomeAnd (row_of (happened disks events) c) (λ row. row.port ≡ v.port)

-- a controller has an I/O queue of an identifier exactly as long as it lives and a connection is that queue
pub record QueueIdsAreOfConnections : Type 0 where
  pub has : (disks : Opening) (events : List Event) (k c q : ℕ) → role_of (happened disks events) k ≡ Some (Io c q)
      → IsSomeAnd (row_of (happened disks events) c) (λ row. has_qid q row ≡ true)
  pub served : (disks : Opening) (events : List Event) (c q : ℕ) → OpenVacant disks events
      → IsSomeAnd (row_of (happened disks events) c) (λ row. has_qid q row ≡ true)
      → (k : ℕ) × (role_of (happened disks events) k ≡ Some (Io c q))
