-- What an event makes of a target, place by place.
use Rattle.std.specs.Prelude.{◌≡◌, ◌≤◌, ℕ, Bool, length, true, false, List, [], Option, Some, None, Result, Err, MatchResult, ◌++◌, drop, if◌then◌else◌}
use Rattle.std.specs.Option.{option_map}
use Rattle.tables.specs.NumberTable.{place, with_value}
use Rattle.block_store.specs.Stored.{Stored}
use Rattle.config_lists.specs.Edit.{IsNamed}
use Rattle.data_transfer.specs.Parts.{part_at}
use Rattle.io_queue.specs.Act.{DiskOutcome}
use Rattle.io_queue.specs.Execution.{contents_at, write_on, written}
use Rattle.pdu_cut.specs.declared.side.Side.TheVariants.{Target}
use Rattle.pdu_cut.specs.Front.{Front, front}
use Rattle.target_core.specs.declared.fault.StepFault.{StepFault}
use Rattle.target_core.specs.declared.fault.StepFault.TheVariants.{NoConn, Memory}
use Rattle.target_core.specs.declared.fault.Stepped.{Stepped}
use Rattle.target_core.specs.declared.fault.Stepped.TheVariants.{Idle, One, Ended}
use Rattle.target_core.specs.Connection.{Acts, KnownConnection, fresh_on}
use Rattle.target_core.specs.Target.{TargetState, is_idle, is_incomplete, meets}
use Rattle.target_state.specs.Views.{FormedAfter, ShowAfter}
use Rattle.target_decision.specs.declared.decision.Decision.{Decision}
use Rattle.target_decision.specs.Decision.{Brought, consumed_of}
use Rattle.target_decision.specs.World.{World}
use Rattle.target_history.specs.Event.{Event, edited, front_in, gives_up, opened, opens, port_in, steps, stepped, given_up, ticked}
use Rattle.target_history.specs.Occurrence.{DisksAct, Occurrence, acts, clock_after, config_after, controller_after, connection_moved, parts_after, row_after, sends, terminates}

abbrev pub known_moved : Occurrence → ℕ → KnownConnection → KnownConnection
known_moved x k c = record { state = connection_moved x k c.state; output = c.output ++ sends x k }

abbrev pub known_after : Occurrence → ℕ → Option KnownConnection → Option KnownConnection
known_after x k o =
    if opens x.event k then Some (fresh_on (port_in x.event)) else
    if gives_up x.event k then None else option_map (known_moved x k) o

abbrev pub stream_moved : Event → ℕ → List ℕ → List ℕ
stream_moved event k held = if steps event k then drop (consumed_of (front_in event)) held else held

abbrev pub stream_after : Event → ℕ → Option (List ℕ) → Option (List ℕ)
stream_after event k o =
    if opens event k then Some [] else
    if gives_up event k then None else option_map (stream_moved event k) o

-- A step consumes what stands at the front of its stream; an edit adds a subsystem under a name, as its type has no other.
abbrev pub StandsIn : Front → Option (List ℕ) → Type 0
StandsIn found None = ⊥
StandsIn found (Some held) = (front Target held ≡ found) × (is_incomplete found ≡ false)

abbrev pub Stands : Event → TargetState → Type 0
Stands (stepped n found m) t = StandsIn found (place t.streams n)
Stands (edited edit) t = IsNamed edit
Stands (opened port n) t = Unit {0}
Stands (given_up n) t = Unit {0}
Stands (ticked now) t = Unit {0}

pub record Transition (event : Event) (old new : TargetState) : Type 0 where
  pub stands : Stands event old
  pub config : new.config ≡ config_after event old.config
  pub clock : new.clock ≡ clock_after event old.clock
  pub shown : ShowAfter event new.config old.shown new.shown
  pub formed : FormedAfter event old.config old.formed new.formed
  pub connection : (k : ℕ) → place new.connections k ≡ known_after (meets old event) k (place old.connections k)
  pub part : (k t : ℕ) → part_at new.transfers k t ≡ parts_after (meets old event) k (part_at old.transfers k) t
  pub stream : (k : ℕ) → place new.streams k ≡ stream_after event k (place old.streams k)
  pub row : (c : ℕ) → place new.rows c ≡ row_after (meets old event) c (place old.rows c)
  pub controller : (c : ℕ) → place new.controllers c ≡ controller_after (meets old event) c (place old.controllers c)
  pub blocks : (d : ℕ) → contents_at new.disks d ≡ written (write_on d (acts (meets old event))) (contents_at old.disks d)

-- ---- the parts of a step

module _ {T : Type 0} where
  -- what stands at k is changed so, where something does
  abbrev pub ActedAt : ℕ → (T → T) → Option T → List (Option T) → List (Option T) → Type 0
  ActedAt k f None old new = new ≡ old
  ActedAt k f (Some c) old new = new ≡ with_value old k (f c)

-- what was decided on this front is done to the connection at k, where one is, with these disks
pub record ActsOn (k : ℕ) (w : World) (d : Decision) (found : Front) (b : Brought) (c : KnownConnection) (old new : List (Option KnownConnection))
    (disks after : List Stored) : Type 0 where
  pub turned : KnownConnection
  pub acts : Acts w d found b c turned disks after
  pub placed : new ≡ with_value old k turned

abbrev pub ActsAt : ℕ → World → Decision → Front → Brought → Option KnownConnection → List (Option KnownConnection) → List (Option KnownConnection)
    → List Stored → List Stored → Type 0
ActsAt k w d found b None old new disks after = (new ≡ old) × (after ≡ disks)
ActsAt k w d found b (Some c) old new disks after = ActsOn k w d found b c old new disks after

abbrev pub CanConsume : ℕ → Option (List ℕ) → Type 0
CanConsume len None = Unit {0}
CanConsume len (Some held) = len ≤ length held

abbrev pub stepped_by : Bool → Stepped
stepped_by ended = if ended then Ended else One

-- a step that consumed what stands at the front of these bytes, and whether it ended the connection: what the disks
-- did is good exactly where none counts a failure, and what they may do at its event
pub record StepsOn (k : ℕ) (held : List ℕ) (ended : Bool) (old new : TargetState) : Type 0 where
  pub disk_outcome : DiskOutcome
  pub did : DisksAct (meets old (stepped k (front Target held) disk_outcome)) old.disks new.disks
  pub transition : Transition (stepped k (front Target held) disk_outcome) old new
  pub ends : terminates (meets old (stepped k (front Target held) disk_outcome)) k ≡ ended

-- a step of a connection that holds these bytes, by its answer
abbrev pub StepsBy : ℕ → List ℕ → KnownConnection → Stepped → TargetState → TargetState → Type 0
StepsBy k held c Idle old new = (is_idle held c ≡ true) × (new ≡ old)
StepsBy k held c One old new = (is_idle held c ≡ false) × StepsOn k held false old new
StepsBy k held c Ended old new = (is_idle held c ≡ false) × StepsOn k held true old new

-- a step of connection k: NoConn where none is known, and else its own, which memory alone refuses
abbrev pub StepsAt : ℕ → Option (List ℕ) → Option KnownConnection → TargetState → Result Stepped StepFault → TargetState → Type 0
StepsAt k None o old result new = (result ≡ Err NoConn) × (new ≡ old)
StepsAt k (Some held) None old result new = (result ≡ Err NoConn) × (new ≡ old)
StepsAt k (Some held) (Some c) old result new =
    MatchResult result (λ s. StepsBy k held c s old new) (λ fault. (fault ≡ Memory) × (new ≡ old))
