-- What a history of events makes of a target. Each definition looks back over the list of what happened,
-- the newest first; none keeps anything.
use Rattle.std.specs.Prelude.{ℕ, ◌+◌, ◌%◌, ◌^◌, nat_lt, Bool, true, false, not, ◌==◌, ◌||◌, ◌&&◌, List, [], ◌∷◌, ◌++◌, length, map, slice_index_or, Option, Some, None, is_some, if◌then◌else◌}
use Rattle.std.specs.List.{range_with_len}
use Rattle.std.specs.Option.{option_map}
use Rattle.admin_queue.specs.Pages.{Pages}
use Rattle.ana_view.specs.Counts.{Counts}
use Rattle.ana_view.specs.Group.{listed}
use Rattle.ana_view.specs.Page.{ana_page}
use Rattle.change_lists.specs.ActiveList.{list_page, nsids_above}
use Rattle.config_lists.specs.Numbered.{active_nsids}
use Rattle.discovery_view.specs.Page.{discovery_page}
use Rattle.discovery_view.specs.Records.{records_of}
use Rattle.discovery_view.specs.View.{changes_records}
use Rattle.nvt_config.specs.Configuration.{Configuration, disks_alone}
use Rattle.nvt_config.specs.SeenBy.{seen_by}
use Rattle.fabrics_connect.specs.declared.row.Row.{Row}
use Rattle.block_store.specs.Write.{Write, contents_after}
use Rattle.data_transfer.specs.Part.{Part, with_data}
use Rattle.io_queue.specs.Execution.{Act}
use Rattle.admin_queue.specs.Notices.{NoticeState, notices_at_connect}
use Rattle.admin_queue.specs.Told.{Occurrence as NoticeOccurrence, notices_of as told_after}
use Rattle.pdu_cut.specs.Front.{Front, incomplete, whole, faulty}
use Rattle.pdu_cut.specs.Pdu.{Pdu}
use Rattle.property_regs.specs.declared.kind.ControllerKind.TheVariants.{Discovery}
use Rattle.property_regs.specs.declared.regs.Regs.{Regs}
use Rattle.property_regs.specs.Regs.{is_ready, regs_at_connect}
use Rattle.target_decision.specs.declared.controller.Controller.{Controller}
use Rattle.target_decision.specs.declared.consequence.Consequence.{Consequence}
use Rattle.target_decision.specs.declared.consequence.Consequence.TheVariants as consequence
use Rattle.target_decision.specs.declared.consequence.Update.{Update}
use Rattle.target_decision.specs.declared.session.ConnectionState.{ConnectionState}
use Rattle.target_decision.specs.declared.session.Role.{Role}
use Rattle.target_decision.specs.declared.session.Role.TheVariants.{Admin, Io}
use Rattle.target_decision.specs.declared.session.Session.{Session}
use Rattle.target_decision.specs.declared.session.Session.TheVariants.{Opened, Initialized, Connected, Ended}
use Rattle.target_decision.specs.declared.transfer.WaitingCommand.{WaitingCommand}
use Rattle.target_decision.specs.Controller.{kato_by, registers_by, restarts}
use Rattle.target_decision.specs.Transfer.{Tags}
use Rattle.target_decision.specs.World.{World}
use Rattle.target_history.specs.declared.end_cause.EndCause.{EndCause}
use Rattle.target_history.specs.declared.end_cause.EndCause.TheVariants as cause
use Rattle.target_history.specs.Event.{Event, edited, front_in, gives_up, opens, port_in, steps}
use Rattle.target_history.specs.Occurrence.{Occurrence, Start, acts, alignment_decided, begins, consequence_of, clock_after, config_after, data_brought, decided, cause_of, ends, ends_live, initializes, own_consequence, requests, responses, sends, updates, views_of}
use Rattle.target_history.specs.Told.{owner_of, told_of}

-- the units of each disk that a target is made with
abbrev pub Opening : Type 0
Opening = List (List (List ℕ))

-- ---- the configuration and the clock

-- the disks alone, with each edit accepted in turn
abbrev pub config_of : Opening → List Occurrence → Configuration
config_of disks [] = disks_alone (map length disks)
config_of disks (x ∷ before) = config_after x.event (config_of disks before)

-- the greatest value that it was set to, in ms
abbrev pub clock_of : List Occurrence → ℕ
clock_of [] = 0
clock_of (x ∷ before) = clock_after x.event (clock_of before)

-- ---- the discovery log page (Base 2.0, section 5.16.1.23)

-- one more where the event is an edit that changes the records of a host
abbrev pub generation_after : Event → Configuration → List ℕ → ℕ → ℕ
generation_after (edited edit) c host n = changes_records c (config_after (edited edit) c) host + n
generation_after _ c host n = n

-- the number of edits that changed the records of a host
abbrev pub generation_of : Opening → List Occurrence → List ℕ → ℕ
generation_of disks [] host = 0
generation_of disks (x ∷ before) host = generation_after x.event (config_of disks before) host (generation_of disks before host)

abbrev pub page_of : Opening → List Occurrence → List ℕ → List ℕ
page_of disks happened host = discovery_page (generation_of disks happened host % 2 ^ 64) (records_of (config_of disks happened) host)

-- ---- the list of active namespaces (Base 2.0, section 5.17.2.2)

-- the configuration as a host sees it
abbrev pub config_seen : Opening → List Occurrence → List ℕ → Configuration
config_seen disks happened host = seen_by (config_of disks happened) host

-- the identifiers of a subsystem's namespaces above one that a host sees, rising
abbrev pub active_of : Opening → List Occurrence → List ℕ → List ℕ → ℕ → List ℕ
active_of disks happened host subsystem above = list_page (nsids_above above (active_nsids (config_seen disks happened host).namespaces subsystem))

-- ---- the Asymmetric Namespace Access log page (Base 2.0, section 5.16.1.13)

-- of a subsystem on a port as a host sees it, with these counts of changes, with or without identifiers
abbrev pub groups_page_of : Opening → List Occurrence → List ℕ → List ℕ → ℕ → Counts → Bool → List ℕ
groups_page_of disks happened host subsystem port counts groups_only = ana_page groups_only counts (listed (config_seen disks happened host) subsystem port)

-- what log pages and lists show; a further one is a field more
abbrev pub pages_of : Opening → List Occurrence → Pages
pages_of disks happened = record {
  discovery = page_of disks happened;
  active = active_of disks happened;
  ana = groups_page_of disks happened;
}

-- ---- connections (TCP Transport 1.0, section 3)

-- whether connection k is known: it is from its open until it is given up
abbrev pub is_known : List Occurrence → ℕ → Bool
is_known [] k = false
is_known (x ∷ before) k = opens x.event k || (not (gives_up x.event k) && is_known before k)

-- the port of its latest open
abbrev pub port_of : List Occurrence → ℕ → ℕ
port_of [] k = 0
port_of (x ∷ before) k = if opens x.event k then port_in x.event else port_of before k

-- whether it was ended since its open
abbrev pub has_ended : List Occurrence → ℕ → Bool
has_ended [] k = false
has_ended (x ∷ before) k = not (opens x.event k) && (ends x k || has_ended before k)

-- whether it was initialized since its open
abbrev pub is_initialized : List Occurrence → ℕ → Bool
is_initialized [] k = false
is_initialized (x ∷ before) k = not (opens x.event k) && (initializes x k || is_initialized before k)

-- the alignment of data that its ICReq asked for since its open
abbrev pub alignment_of : List Occurrence → ℕ → ℕ
alignment_of [] k = 0
alignment_of (x ∷ before) k = if opens x.event k then 0 else alignment_decided (alignment_of before k) (decided x k)

-- what the host of this controller is told, to which this happened; where there is none, nothing
abbrev pub notices_to : Option Start → List NoticeOccurrence → NoticeState
notices_to None happened = notices_at_connect
notices_to (Some s) happened = told_after (views_of s.row) happened

-- what the host of the controller whose admin queue it is is to be told of what that shows, by all that happened to it: the
-- requests that wait, the kinds of events, the counts of changes and the namespaces that changed
abbrev pub notices_of : List Occurrence → ℕ → NoticeState
notices_of happened k = notices_to (owner_of happened k) (told_of happened k)

-- ---- its queue, from its Connect on (Base 2.0, section 6.3)

-- which queue a Connect made of it, and the queue's size
pub record Admission : Type 0 where
  pub role : Role
  pub sqsize : ℕ

abbrev pub admission_by : Consequence → Option Admission
admission_by (consequence.Begin b) = Some (record { role = Admin b.controller.cntlid; sqsize = b.sqsize })
admission_by (consequence.Join j) = Some (record { role = Io j.cntlid j.qid; sqsize = j.sqsize })
admission_by _ = None

-- the queue that the connection's own command makes of it
abbrev pub admits : Occurrence → ℕ → Option Admission
admits x k = admission_by (own_consequence x k)

abbrev pub admission_or : Option Admission → Option Admission → Option Admission
admission_or None before = before
admission_or (Some a) before = Some a

-- its latest since its open
abbrev pub admission_of : List Occurrence → ℕ → Option Admission
admission_of [] k = None
admission_of (x ∷ before) k = if opens x.event k then None else admission_or (admits x k) (admission_of before k)

abbrev pub responses_by : Option Admission → ℕ → ℕ
responses_by None before = before
responses_by (Some a) before = 0

-- the number of responses since that Connect, its own included
abbrev pub responses_since : List Occurrence → ℕ → ℕ
responses_since [] k = 0
responses_since (x ∷ before) k = responses x k + responses_by (admits x k) (responses_since before k)

abbrev pub session_with : Option Admission → Bool → ℕ → Session
session_with None false n = Opened
session_with None true n = Initialized
session_with (Some a) initialized n = Connected a.role (record { sqsize = a.sqsize; head = n % (a.sqsize + 1) })

-- how far target and host have come on it: the queue's head counts the responses round the queue's size
-- (SQHD: Base 2.0, section 3.3.3.2)
abbrev pub session_of : List Occurrence → ℕ → Session
session_of happened k =
    if has_ended happened k then Ended else
    session_with (admission_of happened k) (is_initialized happened k) (responses_since happened k)

abbrev pub connection_of : List Occurrence → ℕ → Option ConnectionState
connection_of happened k =
    if is_known happened k
    then Some (record {
      port = port_of happened k;
      session = session_of happened k;
      alignment = alignment_of happened k;
      notices = notices_of happened k;
    })
    else None

-- ---- its transfers (TCP Transport 1.0, section 3.3)

abbrev pub request_or : Option (Part WaitingCommand) → Option (Part WaitingCommand) → Option (Part WaitingCommand)
request_or None before = before
request_or (Some part) before = Some part

-- the transfer that an R2T began under this tag of it, the latest since its open, as it was then
abbrev pub request_of : List Occurrence → ℕ → Tags
request_of [] k t = None
request_of (x ∷ before) k t = if opens x.event k then None else request_or (requests x k t) (request_of before k t)

-- the data of each H2CData that named the tag since, joined
abbrev pub data_since : List Occurrence → ℕ → ℕ → List ℕ
data_since [] k t = []
data_since (x ∷ before) k t = if is_some (requests x k t) then [] else data_since before k t ++ data_brought x k t

-- a transfer of which fewer bytes came than were asked for
abbrev pub unless_whole : Option (Part WaitingCommand) → Option (Part WaitingCommand)
unless_whole None = None
unless_whole (Some part) = if nat_lt (length part.bytes) part.asked then Some part else None

-- what stands under a tag of it: that transfer with these data, until its last byte comes, while the connection is known
-- and not ended
abbrev pub part_of : List Occurrence → ℕ → Tags
part_of happened k t =
    if has_ended happened k || not (is_known happened k) then None else
    unless_whole (option_map (with_data (data_since happened k t)) (request_of happened k t))

-- ---- controllers (Base 2.0, sections 3.1 and 6.3)

abbrev pub start_or : Option Start → Option Start → Option Start
start_or None before = before
start_or (Some s) before = Some s

-- what the controller of this identifier began with, where it lives: it does from its Connect until it is ended
abbrev pub start_of : List Occurrence → ℕ → Option Start
start_of [] c = None
start_of (x ∷ before) c = start_or (begins x c) (if ends_live x c then None else start_of before c)

abbrev pub is_live : List Occurrence → ℕ → Bool
is_live happened c = is_some (start_of happened c)

-- what an event makes of a part of a controller: it begins it so, or its own command changes it, or it stays
module _ {T : Type 0} (first : Start → T) (changed : Update → T → T) where
  abbrev pub part_after : Option Start → Option Update → T → T
  part_after (Some s) u before = first s
  part_after None (Some u) before = changed u before
  part_after None None before = before

-- its properties, by each Property Set since its Connect (Base 2.0, section 3.1.3)
abbrev pub registers_of : List Occurrence → ℕ → Regs
registers_of [] c = regs_at_connect Discovery
registers_of (x ∷ before) c =
    part_after (λ s. regs_at_connect s.beginning.controller.kind) registers_by (begins x c) (updates x c) (registers_of before c)

-- its keep alive timeout, in ms: that of its Connect or, where one came later, of its latest Set Features that set it
abbrev pub kato_of : List Occurrence → ℕ → ℕ
kato_of [] c = 0
kato_of (x ∷ before) c = part_after (λ s. s.beginning.kato) kato_by (begins x c) (updates x c) (kato_of before c)

-- the clock at its Connect or, where one came later, at its latest Keep Alive or Set Features that set its timeout
-- (Base 2.0, section 3.9)
abbrev pub mark_of : List Occurrence → ℕ → ℕ
mark_of [] c = 0
mark_of (x ∷ before) c =
    part_after (λ s. s.clock) (λ u mark. if restarts u then x.clock else mark) (begins x c) (updates x c) (mark_of before c)

abbrev pub joins_by : Consequence → ℕ → ℕ → Bool
joins_by (consequence.Join j) c qid = (c == j.cntlid) && (qid == j.qid)
joins_by _ c qid = false

abbrev pub drops_by : EndCause → ℕ → ℕ → Bool
drops_by (cause.Queue d q) c qid = (c == d) && (qid == q)
drops_by (cause.Reset d) c qid = c == d
drops_by _ c qid = false

-- whether it has an I/O queue of this identifier: it does from the queue's Connect until the queue's
-- connection is ended or given up, or the controller is reset
abbrev pub has_queue : List Occurrence → ℕ → ℕ → Bool
has_queue [] c qid = false
has_queue (x ∷ before) c qid =
    joins_by (consequence_of x) c qid || (not (is_some (begins x c) || drops_by (cause_of x) c qid) && has_queue before c qid)

abbrev pub row_with : Regs → (ℕ → Bool) → Start → Row
row_with registers queue s = record s.row { ready = is_ready registers; qids = map queue (range_with_len 0 9) }

-- what all connections may see of it
abbrev pub row_of : List Occurrence → ℕ → Option Row
row_of happened c = option_map (row_with (registers_of happened c) (has_queue happened c)) (start_of happened c)

abbrev pub controller_with : Regs → ℕ → ℕ → Start → Controller
controller_with registers kato mark s = record { registers = registers; kato = kato; mark = mark }

-- what its own admin queue alone uses of it
abbrev pub controller_of : List Occurrence → ℕ → Option Controller
controller_of happened c = option_map (controller_with (registers_of happened c) (kato_of happened c) (mark_of happened c)) (start_of happened c)

-- ---- its stream

abbrev pub with_pdu : Front → List Pdu → List Pdu
with_pdu (whole pdu) pdus = pdus ++ pdu ∷ []
with_pdu (faulty fault head) pdus = pdus
with_pdu incomplete pdus = pdus

-- the whole PDUs that were consumed of it since its open, the oldest first
abbrev pub pdus_of : List Occurrence → ℕ → List Pdu
pdus_of [] k = []
pdus_of (x ∷ before) k =
    if opens x.event k || gives_up x.event k then [] else
    if steps x.event k then with_pdu (front_in x.event) (pdus_of before k) else pdus_of before k

-- what its last step found at its front
abbrev pub last_front : List Occurrence → ℕ → Front
last_front [] k = incomplete
last_front (x ∷ before) k =
    if opens x.event k || gives_up x.event k then incomplete else
    if steps x.event k then front_in x.event else last_front before k

-- the bytes of all PDUs that it was sent since its open
abbrev pub sent : List Occurrence → ℕ → List ℕ
sent [] k = []
sent (x ∷ before) k = if opens x.event k || gives_up x.event k then [] else sent before k ++ sends x k

-- ---- the disks

abbrev pub with_act : Option Act → List Act → List Act
with_act None earlier = earlier
with_act (Some act) earlier = act ∷ earlier

-- what was written, by Writes and Write Zeroes that passed every check, the newest first
abbrev pub acts_of : List Occurrence → List Act
acts_of [] = []
acts_of (x ∷ before) = with_act (acts x) (acts_of before)

-- .. to this disk
abbrev pub writes_to : ℕ → List Act → List Write
writes_to disk [] = []
writes_to disk (act ∷ earlier) = if disk == act.disk then act.write ∷ writes_to disk earlier else writes_to disk earlier

-- the units of a disk: those that it opened with, written over in the order of the events
abbrev pub blocks_of : Opening → List Occurrence → ℕ → List (List ℕ)
blocks_of disks happened disk = contents_after (writes_to disk (acts_of happened)) (slice_index_or disks disk [])

-- ---- the world, and what happened

abbrev pub world_of : Opening → List Occurrence → World
world_of disks happened = record {
  pages = pages_of disks happened;
  config = config_of disks happened;
  row = row_of happened;
  controller = controller_of happened;
}

-- an event after all that happened
abbrev pub meets_after : Opening → List Occurrence → Event → Occurrence
meets_after disks before event = record {
  event = event;
  world = world_of disks before;
  connection = connection_of before;
  parts = part_of before;
  clock = clock_of before;
  blocks = blocks_of disks before;
}

-- each event with what it met
abbrev pub happened : Opening → List Event → List Occurrence
happened disks [] = []
happened disks (event ∷ before) = meets_after disks (happened disks before) event ∷ happened disks before
