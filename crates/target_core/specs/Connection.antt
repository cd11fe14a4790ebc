-- One connection, as the calls of a target see it.
use Rattle.std.specs.Prelude.{◌≡◌, ℕ, Bool, false, List, [], ◌++◌, Option, Some, None, if◌then◌else◌}
use Rattle.block_store.specs.Stored.{Stored}
use Rattle.nvt_config.specs.Configuration.{Configuration}
use Rattle.fabrics_connect.specs.declared.row.Row.{Row}
use Rattle.io_queue.specs.Act.{DiskOutcome}
use Rattle.io_queue.specs.Execution.{DisksDid, contents_at, sizes as sizes_of, write_on, written}
use Rattle.admin_queue.specs.Viewer.{Views}
use Rattle.pdu_cut.specs.Front.{Front}
use Rattle.target_decision.specs.declared.decision.Decision.{Decision}
use Rattle.target_decision.specs.declared.session.ConnectionState.{ConnectionState}
use Rattle.target_decision.specs.declared.session.Session.TheVariants.{Ended}
use Rattle.target_decision.specs.Decision.{Brought, act_by, operation_of, sent_by}
use Rattle.target_decision.specs.Session.{opened_on, turned}
use Rattle.target_decision.specs.Tell.{told_after, told_pdus}
use Rattle.target_decision.specs.World.{World}
use Rattle.target_history.specs.declared.end_cause.EndCause.{EndCause}
use Rattle.target_history.specs.EndCause.{ends_by}
use Rattle.target_history.specs.Occurrence.{views_in}

-- how far it has come, and the bytes to send and not taken
pub record KnownConnection : Type 0 where
  pub state : ConnectionState
  pub output : List ℕ

abbrev pub fresh_on : ℕ → KnownConnection
fresh_on port = record { state = opened_on port; output = [] }

-- after what was decided on this front is done to it, with what was brought for it, where the disks held this and did that
abbrev pub acted : World → (ℕ → List (List ℕ)) → DiskOutcome → Decision → Front → Brought → KnownConnection → KnownConnection
acted w contents m d front b c = record {
  state = turned c.state d;
  output = c.output ++ sent_by w contents m c.state d front b;
}

-- what was decided on this front is done to it, with these disks
pub record Acts (w : World) (d : Decision) (front : Front) (b : Brought) (old new : KnownConnection) (disks after : List Stored) : Type 0 where
  pub disk_outcome : DiskOutcome
  pub did : DisksDid (operation_of d) b.bytes disk_outcome disks after
  pub connection : new ≡ acted w (contents_at disks) disk_outcome d front b old
  pub contents : (disk : ℕ) → contents_at after disk ≡ written (write_on disk (act_by d b disk_outcome)) (contents_at disks disk)
  pub sizes : sizes_of after ≡ sizes_of disks

-- after what ends elsewhere, with these controllers: it is ended too, or stays
abbrev pub settled : EndCause → (ℕ → Bool) → KnownConnection → KnownConnection
settled cause ended c =
    if ends_by cause ended c.state
    then record c { state = record c.state { session = Ended } }
    else c

-- .. after an edit of which the host of a controller that shows this is told on it
abbrev pub told_to : Configuration → Configuration → Option Views → KnownConnection → KnownConnection
told_to old new None c = c
told_to old new (Some views) c = record { state = told_after old new views c.state; output = c.output ++ told_pdus old new views c.state }

-- .. by the rows of the controllers
abbrev pub told_known : Configuration → Configuration → (ℕ → Option Row) → KnownConnection → KnownConnection
told_known old new row c = told_to old new (views_in row c.state.session) c

-- whether what ends elsewhere ends a connection, where it is known
abbrev pub ends_known : EndCause → (ℕ → Bool) → Option KnownConnection → Bool
ends_known e gone None = false
ends_known e gone (Some c) = ends_by e gone c.state
