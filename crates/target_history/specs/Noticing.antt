-- Laws of what the host of a controller is told.
use Rattle.std.specs.Prelude.{◌≡◌, ℕ, List, [], ◌∷◌, Option, Some, None, if◌then◌else◌}
use Rattle.event_queue.specs.declared.completion.Completion.{Completion}
use Rattle.fabrics_connect.specs.declared.row.Row.{Row}
use Rattle.admin_queue.specs.Notices.{NoticeState, notices_at_connect}
use Rattle.admin_queue.specs.Told.{Occurrence as NoticeOccurrence, edit_owed, notices_of as told_after}
use Rattle.admin_queue.specs.Viewer.{Views}
use Rattle.target_decision.specs.declared.session.ConnectionState.{ConnectionState}
use Rattle.target_decision.specs.declared.session.Role.TheVariants.{Admin}
use Rattle.target_history.specs.Event.{Event, opens}
use Rattle.target_history.specs.Occurrence.{Occurrence, Telling, completes, decided, noted_at, notices_decided, telling, views_of}
use Rattle.target_history.specs.History.{Opening, connection_of, happened, meets_after, notices_of, row_of}
use Rattle.target_history.specs.Laws.{role_of}
use Rattle.target_history.specs.Told.{told_of}

-- the completions that are owed when one more edit is told
abbrev pub owed_at : Option Telling → Views → List NoticeOccurrence → List Completion
owed_at None views before = []
owed_at (Some t) views before = edit_owed views before t.old t.new

-- what one more event makes of what the host at a connection is told: the connection's open forgets it, a command of its
-- own or a reset changes it, and so does an edit that it is told of
abbrev pub noted_after : Occurrence → ℕ → NoticeState → NoticeState
noted_after x k before = if opens x.event k then notices_at_connect else noted_at x (x.connection k) (notices_decided before (decided x k))

-- What the host of a controller that lives is told on its admin queue is what the look-backs over all that happened to it
-- since its Connect say of the controller's own views, on the port of its row: the requests that wait, the kinds that are
-- quiet, the counts of changes and the changed namespaces. One more event makes of it what follows from that event and from
-- what was told before, on whatever connection. And each edit completes what is owed then.
pub record HostsAreToldByLookingBack : Type 0 where
  pub told : (disks : Opening) (events : List Event) (k c : ℕ) (row : Row) → role_of (happened disks events) k ≡ Some (Admin c)
      → row_of (happened disks events) c ≡ Some row
      → notices_of (happened disks events) k ≡ told_after (views_of row) (told_of (happened disks events) k)
  pub next : (disks : Opening) (events : List Event) (event : Event) (k : ℕ)
      → notices_of (happened disks (event ∷ events)) k
      ≡ noted_after (meets_after disks (happened disks events) event) k (notices_of (happened disks events) k)
  pub completes : (disks : Opening) (events : List Event) (event : Event) (k c : ℕ) (row : Row) (v : ConnectionState)
      → role_of (happened disks events) k ≡ Some (Admin c) → row_of (happened disks events) c ≡ Some row
      → connection_of (happened disks events) k ≡ Some v
      → completes (meets_after disks (happened disks events) event) k
      ≡ owed_at (telling (meets_after disks (happened disks events) event) v) (views_of row) (told_of (happened disks events) k)
