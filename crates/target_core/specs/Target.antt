-- A target, as its calls see it.
use Rattle.std.specs.Prelude.{◌≡◌, ◌≤◌, ℕ, ◌-◌, ◌==◌, Bool, true, false, ◌||◌, List, [], Option, Some, None, is_none, find, position, replicate, Result, Ok, IsErr, ◌++◌, map, min, length, take, drop, if◌then◌else◌}
use Rattle.std.specs.Option.{option_map}
use Rattle.tables.specs.NumberTable.{place, with_value}
use Rattle.nvt_config.specs.Configuration.{Configuration, disks_alone}
use Rattle.config_lists.specs.declared.port.Port.{Port}
use Rattle.target_state.specs.Controllers.{controller_places}
use Rattle.block_store.specs.Stored.{Stored}
use Rattle.discovery_view.specs.Catalog.{catalog_of}
use Rattle.data_transfer.specs.Part.{Part}
use Rattle.data_transfer.specs.Parts.{Stand, no_parts, part_at}
use Rattle.io_queue.specs.Execution.{contents_at, sizes}
use Rattle.pdu_cut.specs.declared.side.Side.TheVariants.{Target}
use Rattle.pdu_cut.specs.Side.{capacity_of}
use Rattle.pdu_cut.specs.Front.{Front, incomplete, whole, faulty, front}
use Rattle.fabrics_connect.specs.declared.row.Row.{Row}
use Rattle.fabrics_connect.specs.Controllers.{no_controllers}
use Rattle.target_core.specs.declared.fault.NoConn.{NoConn}
use Rattle.target_core.specs.declared.fault.OpenFault.{OpenFault}
use Rattle.target_core.specs.declared.fault.OpenFault.TheVariants.{NoSuchPort, Full}
use Rattle.target_core.specs.Connection.{KnownConnection}
use Rattle.target_state.specs.Views.{AreViewsOf, ShowFirst, ViewsShown, ViewsState, pages_shown}
use Rattle.target_decision.specs.declared.controller.Controller.{Controller}
use Rattle.target_decision.specs.declared.session.ConnectionState.{ConnectionState}
use Rattle.target_decision.specs.declared.transfer.WaitingCommand.{WaitingCommand}
use Rattle.target_decision.specs.Session.{is_ended}
use Rattle.admin_queue.specs.Pages.{Pages}
use Rattle.target_decision.specs.World.{World, connections_max}
use Rattle.target_history.specs.Event.{Event}
use Rattle.target_history.specs.Occurrence.{Occurrence}
use Rattle.target_history.specs.History.{Opening}

-- the configuration, what the views of it show, how many records of the discovery log page they formed, and the clock, in ms; of each connection that is known the
-- bytes received and not consumed, what else is known of it, and its transfers; of each controller that lives what all
-- connections may see of it, and what its own admin queue alone uses; and the disks
pub record TargetState : Type 0 where
  pub config : Configuration
  pub shown : ViewsShown
  pub formed : ℕ
  pub clock : ℕ
  pub streams : List (Option (List ℕ))
  pub connections : List (Option KnownConnection)
  pub transfers : List (List (Option (Part WaitingCommand)))
  pub rows : List (Option Row)
  pub controllers : List (Option Controller)
  pub disks : List Stored

-- this configuration, unchanged so far, over these disks, and no connection and no controller of those that there may be
pub record IsOver (c : Configuration) (stored : List Stored) (t : TargetState) : Type 0 where
  pub config : t.config ≡ c
  pub shown : ShowFirst c t.shown
  pub formed : t.formed ≤ length (catalog_of c)
  pub clock : t.clock ≡ 0
  pub streams : t.streams ≡ replicate connections_max None
  pub connections : t.connections ≡ replicate connections_max None
  pub transfers : Stand t.transfers no_parts
  pub rows : t.rows ≡ no_controllers
  pub controllers : t.controllers ≡ replicate controller_places None
  pub disks : t.disks ≡ stored

-- .. the configuration of disks that hold these units, and nothing else; so no record was formed
pub record IsNewTarget (opening : Opening) (t : TargetState) : Type 0 where
  pub over : IsOver (disks_alone (map length opening)) t.disks t
  pub formed : t.formed ≡ 0
  pub units : map (λ (s : Stored). s.contents) t.disks ≡ opening

-- what holds of each target: it has a stream for each connection that is known, of those that there may be
pub record IsTarget (streams : List (Option (List ℕ))) (connections : List (Option KnownConnection)) : Type 0 where
  pub places : length connections ≡ connections_max
  pub alike : (k : ℕ) → is_none (place streams k) ≡ is_none (place connections k)
  pub within : length streams ≡ connections_max

-- .. and the disks of its configuration, and the views of it
pub record IsSound (config : Configuration) (views : ViewsState) (disks : List Stored) (streams : List (Option (List ℕ))) (connections : List (Option KnownConnection)) : Type 0 where
  pub tables : IsTarget streams connections
  pub units : config.units ≡ sizes disks
  pub shows : AreViewsOf config views

-- ---- what a decision may look at

abbrev pub connection_at : TargetState → ℕ → Option ConnectionState
connection_at t k = option_map (λ (c : KnownConnection). c.state) (place t.connections k)

abbrev pub pages_at : TargetState → Pages
pages_at t = pages_shown t.shown

abbrev pub world_at : TargetState → World
world_at t = record {
  pages = pages_at t;
  config = t.config;
  row = λ c. place t.rows c;
  controller = λ c. place t.controllers c;
}

abbrev pub meets : TargetState → Event → Occurrence
meets t event = record {
  event = event;
  world = world_at t;
  connection = connection_at t;
  parts = part_at t.transfers;
  clock = t.clock;
  blocks = contents_at t.disks;
}

-- ---- the calls

abbrev pub with_stream : TargetState → ℕ → List ℕ → TargetState
with_stream t k held = record t { streams = with_value t.streams k held }

abbrev pub with_connection : TargetState → ℕ → KnownConnection → TargetState
with_connection t k c = record t { connections = with_value t.connections k c }

-- the configuration's port of this number
abbrev pub port_of : Configuration → ℕ → Option Port
port_of c id = find (λ port. port.id == id) c.ports

-- the least number that no known connection has
abbrev pub free_number : TargetState → Option ℕ
free_number t = position is_none t.connections

-- why a connection on this port is not opened, memory aside
abbrev pub open_fault : TargetState → ℕ → Option OpenFault
open_fault t port =
    if is_none (port_of t.config port) then Some NoSuchPort else
    if is_none (free_number t) then Some Full else None

-- an ended connection stays known until it is given up, so that its last output can still be taken
abbrev pub is_ended_at : Option KnownConnection → Bool
is_ended_at None = false
is_ended_at (Some c) = is_ended c.state.session

-- how many bytes a connection may receive: none once it is ended
abbrev pub room_of : List ℕ → KnownConnection → ℕ
room_of held c = if is_ended c.state.session then 0 else capacity_of Target - length held

abbrev pub room_at : Option (List ℕ) → Option KnownConnection → ℕ
room_at None o = 0
room_at (Some held) None = 0
room_at (Some held) (Some c) = room_of held c

-- what the connection is sent and its caller has not taken yet; under a number that is not known there is nothing
abbrev pub output_at : Option KnownConnection → List ℕ
output_at None = []
output_at (Some c) = c.output

-- a connection receives as much of a piece as it has room for
abbrev pub ReceivesAt : ℕ → Option (List ℕ) → Option KnownConnection → TargetState → List ℕ → Result ℕ NoConn → TargetState → Type 0
ReceivesAt k None o old piece result new = IsErr result × (new ≡ old)
ReceivesAt k (Some held) None old piece result new = IsErr result × (new ≡ old)
ReceivesAt k (Some held) (Some c) old piece result new =
    let taken = min (room_of held c) (length piece) in
    (result ≡ Ok taken) × (new ≡ with_stream old k (held ++ take taken piece))

-- the first bytes of a connection's output are taken away
abbrev pub TakenAt : ℕ → Option KnownConnection → TargetState → ℕ → TargetState → Type 0
TakenAt k None old len new = new ≡ old
TakenAt k (Some c) old len new =
    new ≡ with_connection old k (record { state = c.state; output = drop len c.output })

abbrev pub is_incomplete : Front → Bool
is_incomplete incomplete = true
is_incomplete (whole pdu) = false
is_incomplete (faulty fault head) = false

-- whether a step has nothing to do: no whole PDU and no fault is there, or the connection is ended
abbrev pub is_idle : List ℕ → KnownConnection → Bool
is_idle held c = is_ended c.state.session || is_incomplete (front Target held)
