-- What is done while a target is served, one thing at a time.
use Rattle.std.specs.Prelude.{◌≡◌, ◌≢◌, ◌<◌, ℕ, Bool, true, false, List, [], ◌∷◌, ◌++◌, Option, Some, None, Result, Ok, Err, length, slice_index_or, slice_set}
use Rattle.std.specs.Option.{option_map}
use Rattle.config_lists.specs.declared.edit.Edit.{Edit}
use Rattle.nvt_config.specs.Accept.{accept}
use Rattle.nvt_config.specs.Configuration.{Configuration}
use Rattle.config_text.specs.EditLine.{IsLineOf}
use Rattle.edit_lines.specs.declared.line.NotMade.{NotMade}
use Rattle.edit_lines.specs.Line.{IsRefused}
use Rattle.io_queue.specs.Act.{DiskOutcome}
use Rattle.tables.specs.NumberTable.{place, with_value, without}
use Rattle.nvt_ports.specs.Told.{HandedOut, PortsState, Told, TellsMore, given_once, heard, refreshed_to, replied}
use Rattle.nvt_ports.specs.Told as told
use Rattle.nvt_serve.specs.Reply.{ok_text, refusal_text}
use Rattle.pdu_cut.specs.Front.{Front}
use Rattle.target_core.specs.Agreement.{front_of}
use Rattle.target_core.specs.declared.fault.NoConn.{NoConn}
use Rattle.target_core.specs.declared.fault.OpenFault.{OpenFault}
use Rattle.target_core.specs.declared.fault.OpenFault.TheVariants.{Memory}
use Rattle.target_core.specs.Target.{ReceivesAt, TakenAt, TargetState, free_number, is_ended_at, meets, open_fault, output_at}
use Rattle.target_core.specs.Transition.{Transition}
use Rattle.target_history.specs.Event.{Event, edited, given_up, opened, stepped, ticked}
use Rattle.target_history.specs.Occurrence.{DisksAct}
use Rattle.target_core.specs.Steps.{is_idle_at}

-- Ports that are asked what is next hand one of these out: a tick, which sets the clock; a host that connects, in a slot, to
-- a port, whose connection is opened, or refused and the slot closed; bytes, which the slot's connection receives; bytes, or
-- the end of a host, in a slot that has no connection; the end of a host, whose connection is given up; a line, whose edit is
-- made or refused, and which is answered; or nothing.
-- Beside that, a connection steps; bytes of a connection's output are taken in its slot; a slot fails, and its connection is
-- given up; a connection that has ended is given up once nothing of its output is left, and its slot closed, where it has one.
pub data Deed : Type 0 where
  clock_set : ℕ → Deed
  connected : ℕ → ℕ → ℕ → Deed
  refused : ℕ → ℕ → OpenFault → Deed
  received : ℕ → ℕ → List ℕ → Deed
  received_by_none : ℕ → List ℕ → Deed
  gone : ℕ → ℕ → Deed
  gone_from_none : ℕ → Deed
  edit_made : List ℕ → Edit → Deed
  edit_refused : List ℕ → NotMade → Deed
  nothing_came : Deed
  stepped_on : ℕ → Front → DiskOutcome → Deed
  sent : ℕ → ℕ → List ℕ → Deed
  failed : ℕ → ℕ → Deed
  closed : Option ℕ → ℕ → Deed

-- a target that is served, its ports, and the connection of each slot
pub record Serving : Type 0 where
  pub ports : PortsState
  pub target : TargetState
  pub connections : List (Option ℕ)

-- ---- the ports

-- they were asked what is next, handed this out, and these slots are in use then
pub record Asked (handed_out : Option HandedOut) (used : List Bool) (old new : PortsState) : Type 0 where
  pub told : new.told ≡ option_map (heard handed_out) old.told
  pub in_use : new.in_use ≡ used
  pub faults : new.faults ≡ old.faults

-- they took these bytes in a slot
pub record Took (slot : ℕ) (bytes : List ℕ) (old new : PortsState) : Type 0 where
  pub told : new.told ≡ option_map (given_once slot bytes) old.told
  pub in_use : new.in_use ≡ old.in_use
  pub faults : new.faults ≡ old.faults

-- a slot was closed
pub record ClosedSlot (slot : ℕ) (old new : PortsState) : Type 0 where
  pub told : new.told ≡ old.told
  pub in_use : new.in_use ≡ slice_set old.in_use slot false
  pub faults : new.faults ≡ old.faults

-- they were asked what is next, handed this line out, and were told what became of it
pub record Answered (line : List ℕ) (answer : Told → Told) (old new : PortsState) : Type 0 where
  pub told : TellsMore answer (option_map (heard (Some (told.line line))) old.told) new.told
  pub in_use : new.in_use ≡ old.in_use
  pub faults : new.faults ≡ old.faults

-- by a reply, and by the configuration that stands where its edit was made
abbrev pub refused_by : NotMade → Told → Told
refused_by why t = replied (refusal_text why) t

abbrev pub made_to : Configuration → Told → Told
made_to config t = refreshed_to config (replied ok_text t)

-- a slot failed and was closed, which they counted
pub record FailedSlot (slot : ℕ) (old new : PortsState) : Type 0 where
  pub told : new.told ≡ old.told
  pub in_use : new.in_use ≡ slice_set old.in_use slot false
  pub faults : new.faults ≢ old.faults

-- ---- the target, and the connections of the slots

-- an event of the target, the slots being as before
pub record Happens (event : Event) (old new : Serving) : Type 0 where
  pub transition : Transition event old.target new.target
  pub connections : new.connections ≡ old.connections

-- nothing happens to either
pub record Stays (old new : Serving) : Type 0 where
  pub target : new.target ≡ old.target
  pub connections : new.connections ≡ old.connections

-- the slot is one that was not in use
abbrev pub IsUnused : ℕ → PortsState → Type 0
IsUnused slot ports = slice_index_or ports.in_use slot true ≡ false

-- a connection is opened, and has this slot
pub record Connects (slot port k : ℕ) (old new : Serving) : Type 0 where
  pub unused : IsUnused slot old.ports
  pub accepted : open_fault old.target port ≡ None
  pub within : k < 64
  pub free : free_number old.target ≡ Some k
  pub transition : Transition (opened port k) old.target new.target
  pub tied : new.connections ≡ with_value old.connections slot k

-- why a connection is not opened: the target says so, or memory runs out
abbrev pub IsRefusedBy : Option OpenFault → OpenFault → Type 0
IsRefusedBy None fault = fault ≡ Memory
IsRefusedBy (Some why) fault = fault ≡ why

pub record RefusesHost (slot port : ℕ) (fault : OpenFault) (old new : Serving) : Type 0 where
  pub unused : IsUnused slot old.ports
  pub why : IsRefusedBy (open_fault old.target port) fault
  pub stays : Stays old new

-- all of these bytes were received
abbrev pub AreReceived : Result ℕ NoConn → List ℕ → Type 0
AreReceived (Ok n) bytes = n ≡ length bytes
AreReceived (Err fault) bytes = bytes ≡ []

-- the connection of this slot receives all of these bytes
pub record Receives (slot k : ℕ) (bytes : List ℕ) (old new : Serving) : Type 0 where
  pub tied : place old.connections slot ≡ Some k
  pub result : Result ℕ NoConn
  pub all : AreReceived result bytes
  pub receives : ReceivesAt k (place old.target.streams k) (place old.target.connections k) old.target bytes result new.target
  pub connections : new.connections ≡ old.connections

-- the connection of this slot is given up
pub record Leaves (slot k : ℕ) (old new : Serving) : Type 0 where
  pub tied : place old.connections slot ≡ Some k
  pub transition : Transition (given_up k) old.target new.target
  pub untied : new.connections ≡ without old.connections slot

-- these are the first bytes of the output of the slot's connection, and are taken away from it
pub record Sends (slot k : ℕ) (bytes : List ℕ) (old new : Serving) : Type 0 where
  pub tied : place old.connections slot ≡ Some k
  pub rest : List ℕ
  pub output : output_at (place old.target.connections k) ≡ bytes ++ rest
  pub taken : TakenAt k (place old.target.connections k) old.target (length bytes) new.target
  pub connections : new.connections ≡ old.connections

-- the edit of this line is accepted and made
pub record Edits (line : List ℕ) (edit : Edit) (old new : Serving) : Type 0 where
  pub is_line : IsLineOf line edit
  pub accepted : accept old.target.config edit ≡ Ok new.target.config
  pub happens : Happens (edited edit) old new

-- a step of a connection, which has something to do, finds this at the front of its stream
pub record StepsOnce (k : ℕ) (found : Front) (m : DiskOutcome) (old new : Serving) : Type 0 where
  pub busy : is_idle_at (place old.target.streams k) (place old.target.connections k) ≡ false
  pub finds : front_of (place old.target.streams k) ≡ found
  pub did : DisksAct (meets old.target (stepped k found m)) old.target.disks new.target.disks
  pub happens : Happens (stepped k found m) old new

-- a slot that a connection has, or none where it has none
abbrev pub IsSlotOf : Option ℕ → ℕ → List (Option ℕ) → Type 0
IsSlotOf None k connections = (slot : ℕ) → place connections slot ≢ Some k
IsSlotOf (Some slot) k connections = place connections slot ≡ Some k

abbrev pub without_slot : Option ℕ → List (Option ℕ) → List (Option ℕ)
without_slot None connections = connections
without_slot (Some slot) connections = without connections slot

abbrev pub ClosesSlot : Option ℕ → PortsState → PortsState → Type 0
ClosesSlot None old new = new ≡ old
ClosesSlot (Some slot) old new = ClosedSlot slot old new

-- a connection that has ended and has nothing to send is given up
pub record Closes (slot : Option ℕ) (k : ℕ) (old new : Serving) : Type 0 where
  pub tied : IsSlotOf slot k old.connections
  pub ended : is_ended_at (place old.target.connections k) ≡ true
  pub output : output_at (place old.target.connections k) ≡ []
  pub transition : Transition (given_up k) old.target new.target
  pub untied : new.connections ≡ without_slot slot old.connections

-- ---- deeds

-- what a deed makes of the ports, where this configuration stands after it
abbrev pub DoesToPorts : Deed → Configuration → PortsState → PortsState → Type 0
DoesToPorts (clock_set ms) config old new = Asked (Some (told.ticked ms)) old.in_use old new
DoesToPorts (connected slot port k) config old new = Asked (Some (told.opened slot port)) (slice_set old.in_use slot true) old new
DoesToPorts (refused slot port fault) config old new =
    Asked (Some (told.opened slot port)) (slice_set (slice_set old.in_use slot true) slot false) old new
DoesToPorts (received slot k bytes) config old new = Asked (Some (told.bytes slot bytes)) old.in_use old new
DoesToPorts (received_by_none slot bytes) config old new = Asked (Some (told.bytes slot bytes)) old.in_use old new
DoesToPorts (gone slot k) config old new = Asked (Some (told.ended slot)) (slice_set old.in_use slot false) old new
DoesToPorts (gone_from_none slot) config old new = Asked (Some (told.ended slot)) (slice_set old.in_use slot false) old new
DoesToPorts (edit_made line edit) config old new = Answered line (made_to config) old new
DoesToPorts (edit_refused line why) config old new = Answered line (refused_by why) old new
DoesToPorts nothing_came config old new = Asked None old.in_use old new
DoesToPorts (stepped_on k found m) config old new = new ≡ old
DoesToPorts (sent slot k bytes) config old new = Took slot bytes old new
DoesToPorts (failed slot k) config old new = FailedSlot slot old new
DoesToPorts (closed slot k) config old new = ClosesSlot slot old new

-- .. and of the target and the slots
abbrev pub DoesToTarget : Deed → Serving → Serving → Type 0
DoesToTarget (clock_set ms) old new = Happens (ticked ms) old new
DoesToTarget (connected slot port k) old new = Connects slot port k old new
DoesToTarget (refused slot port fault) old new = RefusesHost slot port fault old new
DoesToTarget (received slot k bytes) old new = Receives slot k bytes old new
DoesToTarget (received_by_none slot bytes) old new = (place old.connections slot ≡ None) × Stays old new
DoesToTarget (gone slot k) old new = Leaves slot k old new
DoesToTarget (gone_from_none slot) old new = (place old.connections slot ≡ None) × Stays old new
DoesToTarget (edit_made line edit) old new = Edits line edit old new
DoesToTarget (edit_refused line why) old new = IsRefused old.target.config line why × Stays old new
DoesToTarget nothing_came old new = Stays old new
DoesToTarget (stepped_on k found m) old new = StepsOnce k found m old new
DoesToTarget (sent slot k bytes) old new = Sends slot k bytes old new
DoesToTarget (failed slot k) old new = Leaves slot k old new
DoesToTarget (closed slot k) old new = Closes slot k old new

pub record Does (deed : Deed) (old new : Serving) : Type 0 where
  pub ports : DoesToPorts deed new.target.config old.ports new.ports
  pub target : DoesToTarget deed old new

-- deeds, one after the other
abbrev pub Runs : List Deed → Serving → Serving → Type 0
Runs [] old new = new ≡ old
Runs (deed ∷ deeds) old new = (mid : Serving) × Does deed old mid × Runs deeds mid new

-- ---- counts of deeds

abbrev pub is_opening : Deed → Bool
is_opening (connected slot port k) = true
is_opening _ = false

abbrev pub is_edit : Deed → Bool
is_edit (edit_made line edit) = true
is_edit _ = false

abbrev pub is_refusal : Deed → Bool
is_refusal (refused slot port fault) = true
is_refusal (edit_refused line why) = true
is_refusal _ = false

-- whether the ports were asked what is next
abbrev pub is_asking : Deed → Bool
is_asking (stepped_on k found m) = false
is_asking (sent slot k bytes) = false
is_asking (failed slot k) = false
is_asking (closed slot k) = false
is_asking _ = true
