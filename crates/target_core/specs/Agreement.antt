-- What it means that a target agrees with a history, and with the bytes that each connection received
-- and that were taken from it.
use Rattle.std.specs.Prelude.{◌≡◌, ℕ, Bool, ◌==◌, ◌||◌, ◌&&◌, List, [], ◌∷◌, ◌++◌, All, IsTrue, Option, Some, None, Result, MatchOption, MatchResult, if◌then◌else◌, length, map, take}
use Rattle.tables.specs.NumberTable.{place}
use Rattle.data_transfer.specs.Parts.{part_at}
use Rattle.config_lists.specs.declared.edit.Edit.{Edit}
use Rattle.config_lists.specs.declared.fault.EditFault.{EditFault}
use Rattle.config_lists.specs.Edit.{IsNamed}
use Rattle.nvt_config.specs.Configuration.{are_disks}
use Rattle.io_queue.specs.Act.{DiskOutcome}
use Rattle.io_queue.specs.Execution.{Tells, contents_at}
use Rattle.pdu_cut.specs.declared.side.Side.TheVariants.{Target}
use Rattle.pdu_cut.specs.Front.{Front, incomplete, whole, faulty, front}
use Rattle.pdu_cut.specs.Pdu.{Pdu}
use Rattle.pdu_cut.specs.Stream.{BeginsWith}
use Rattle.target_core.specs.declared.fault.NoConn.{NoConn}
use Rattle.target_core.specs.declared.fault.OpenFault.{OpenFault}
use Rattle.target_core.specs.declared.fault.StepFault.{StepFault}
use Rattle.target_core.specs.declared.fault.Stepped.{Stepped}
use Rattle.target_core.specs.declared.fault.Stepped.TheVariants.{Idle, One, Ended}
use Rattle.target_core.specs.Connection.{KnownConnection}
use Rattle.target_core.specs.Target.{TargetState, connection_at}
use Rattle.target_state.specs.Views.{ShowHistory}
use Rattle.target_history.specs.Event.{Event, edited, gives_up, opened, opens, stepped, given_up}
use Rattle.target_history.specs.Occurrence.{DisksAct, Occurrence}
use Rattle.target_history.specs.History.{Opening, blocks_of, clock_of, config_of, controller_of, connection_of, happened, has_ended, is_known, last_front, meets_after, part_of, pdus_of, row_of, sent}

-- what was found last, where it is a fault, stands at the front of the bytes that are held
abbrev pub StandsAt : Front → List ℕ → Type 0
StandsAt (whole pdu) held = Unit {0}
StandsAt incomplete held = Unit {0}
StandsAt (faulty fault head) held = front Target held ≡ faulty fault head

-- what a connection received is the PDUs consumed, in their order, and then what it holds; a connection that
-- is not known has received nothing
abbrev pub StreamAgrees : Option (List ℕ) → List Pdu → Front → List ℕ → Type 0
StreamAgrees None pdus last received = received ≡ []
StreamAgrees (Some held) pdus last received = BeginsWith Target received pdus held × StandsAt last held

-- what it was sent is what was taken and then its output
abbrev pub OutputAgrees : Option KnownConnection → List ℕ → List ℕ → Type 0
OutputAgrees None was_sent taken = (was_sent ≡ []) × (taken ≡ [])
OutputAgrees (Some c) was_sent taken = was_sent ≡ taken ++ c.output

-- a subsystem that an event adds has a name
abbrev pub AddsNamedBy : Event → Type 0
AddsNamedBy (edited edit) = IsNamed edit
AddsNamedBy _ = Unit {0}

abbrev pub AddsNamed : Occurrence → Type 0
AddsNamed x = AddsNamedBy x.event

-- A target agrees with what happened to it, with what each connection received since it was opened, and
-- with what was taken from it since. Its discovery view shows each host the records of the configuration,
-- and counts the edits that changed them; each connection is known where the history says so, and has come
-- as far as it says, and has the transfers that it says; each controller lives where the history says so, and is as it says; each disk holds the units
-- that it opened with, written over in the order of the events. There may be disks of these sizes, and each subsystem was
-- added under a name.
pub record AgreesWith (t : TargetState) (disks : Opening) (happened : List Occurrence) (received taken : ℕ → List ℕ) : Type 0 where
  pub config : t.config ≡ config_of disks happened
  pub clock : t.clock ≡ clock_of happened
  pub shown : ShowHistory t.shown disks happened
  pub connection : (k : ℕ) → connection_at t k ≡ connection_of happened k
  pub part : (k ttag : ℕ) → part_at t.transfers k ttag ≡ part_of happened k ttag
  pub row : (c : ℕ) → place t.rows c ≡ row_of happened c
  pub controller : (c : ℕ) → place t.controllers c ≡ controller_of happened c
  pub stream : (k : ℕ) → StreamAgrees (place t.streams k) (pdus_of happened k) (last_front happened k) (received k)
  pub output : (k : ℕ) → OutputAgrees (place t.connections k) (sent happened k) (taken k)
  pub blocks : (d : ℕ) → contents_at t.disks d ≡ blocks_of disks happened d
  pub sizes : IsTrue (are_disks (map length disks))
  pub named : All AddsNamed happened

abbrev pub Agrees : TargetState → Opening → List Event → (ℕ → List ℕ) → (ℕ → List ℕ) → Type 0
Agrees t disks events received taken = AgreesWith t disks (happened disks events) received taken

-- what connection k had, and more
abbrev pub extended : (ℕ → List ℕ) → ℕ → List ℕ → ℕ → List ℕ
extended f k bytes = λ j. if j == k then f j ++ bytes else f j

-- what is left of it after an event: nothing on a connection that is opened or given up
abbrev pub left : Event → (ℕ → List ℕ) → ℕ → List ℕ
left event f = λ j. if opens event j || gives_up event j then [] else f j

abbrev pub nothing : ℕ → List ℕ
nothing k = []

-- whatever history and bytes the old target agrees with, the new one agrees with the same
pub record AgreesStill (old new : TargetState) : Type 0 where
  pub keeps : (disks : Opening) (events : List Event) (received taken : ℕ → List ℕ)
      → Agrees old disks events received taken → Agrees new disks events received taken

-- .. with the history that is longer by this event
pub record AgreesAfter (event : Event) (old new : TargetState) : Type 0 where
  pub keeps : (disks : Opening) (events : List Event) (received taken : ℕ → List ℕ)
      → Agrees old disks events received taken → Agrees new disks (event ∷ events) (left event received) (left event taken)

-- .. with the same history, where connection k received these bytes too
pub record AgreesWithReceived (k : ℕ) (bytes : List ℕ) (old new : TargetState) : Type 0 where
  pub keeps : (disks : Opening) (events : List Event) (received taken : ℕ → List ℕ)
      → Agrees old disks events received taken → Agrees new disks events (extended received k bytes) taken

-- .. with the same history, where these bytes too were taken from connection k
pub record AgreesWithTaken (k : ℕ) (bytes : List ℕ) (old new : TargetState) : Type 0 where
  pub keeps : (disks : Opening) (events : List Event) (received taken : ℕ → List ℕ)
      → Agrees old disks events received taken → Agrees new disks events received (extended taken k bytes)

-- what a call's answer says of the agreement: where it is Ok, what follows from it, and else the same as
-- before
abbrev pub front_of : Option (List ℕ) → Front
front_of None = incomplete
front_of (Some held) = front Target held

-- A step with which the disks did this, good exactly where none counts a failure: whatever history the old target agrees
-- with, that is what they may do at this event of it, and what a Flush, or a write with FUA, that is answered with success
-- was to make last has been synced.
pub record AgreesAfterStep (k : ℕ) (found : Front) (old new : TargetState) : Type 0 where
  pub disk_outcome : DiskOutcome
  pub tells : Tells disk_outcome old.disks new.disks
  pub did : (disks : Opening) (events : List Event) (received taken : ℕ → List ℕ) → Agrees old disks events received taken
      → DisksAct (meets_after disks (happened disks events) (stepped k found disk_outcome)) old.disks new.disks
  pub agrees : AgreesAfter (stepped k found disk_outcome) old new

abbrev pub AgreesByStep : ℕ → Stepped → TargetState → TargetState → Type 0
AgreesByStep k Idle old new = AgreesStill old new
AgreesByStep k One old new = AgreesAfterStep k (front_of (place old.streams k)) old new
AgreesByStep k Ended old new = AgreesAfterStep k (front_of (place old.streams k)) old new

abbrev pub EditAgrees : Edit → TargetState → Result (Unit {0}) EditFault → TargetState → Type 0
EditAgrees edit old result new = MatchResult result (λ done. AgreesAfter (edited edit) old new) (λ fault. AgreesStill old new)

abbrev pub OpenAgrees : ℕ → TargetState → Result ℕ OpenFault → TargetState → Type 0
OpenAgrees port old result new = MatchResult result (λ k. AgreesAfter (opened port k) old new) (λ fault. AgreesStill old new)

abbrev pub ReceiveAgrees : ℕ → List ℕ → TargetState → Result ℕ NoConn → TargetState → Type 0
ReceiveAgrees k piece old result new =
    MatchResult result (λ n. AgreesWithReceived k (take n piece) old new) (λ fault. AgreesStill old new)

abbrev pub StepAgrees : ℕ → TargetState → Result Stepped StepFault → TargetState → Type 0
StepAgrees k old result new = MatchResult result (λ s. AgreesByStep k s old new) (λ fault. AgreesStill old new)

abbrev pub TakenAgrees : ℕ → ℕ → TargetState → TargetState → Type 0
TakenAgrees k len old new =
    MatchOption (place old.connections k) (AgreesStill old new) (λ c. AgreesWithTaken k (take len c.output) old new)

abbrev pub EndAgrees : ℕ → TargetState → TargetState → Type 0
EndAgrees k old new = MatchOption (place old.connections k) (AgreesStill old new) (λ c. AgreesAfter (given_up k) old new)

-- whatever history the target agrees with, the answer says whether that history has ended the connection
pub record EndedAgrees (k : ℕ) (t : TargetState) (ended : Bool) : Type 0 where
  pub tells : (disks : Opening) (events : List Event) (received taken : ℕ → List ℕ)
      → Agrees t disks events received taken → ended ≡ (is_known (happened disks events) k && has_ended (happened disks events) k)
