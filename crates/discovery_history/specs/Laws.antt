-- What a host learns of a target.
use Rattle.std.specs.Prelude.{◌≡◌, ℕ, List}
use Rattle.host_pages.specs.Discover.{Answered, HadPage}
use Rattle.host_pages.specs.DiscoveryLaws.{HasFewChanges, IsOfLastTry}
use Rattle.host_pages.specs.Moments.{AreMoments, AreShown, bytes_of}
use Rattle.host_pages.specs.Verdict.{Given}
use Rattle.target_core.specs.Agreement.{Agrees}
use Rattle.target_core.specs.Target.{TargetState}
use Rattle.target_history.specs.Event.{Event}
use Rattle.target_history.specs.History.{Opening, page_of}
use Rattle.discovery_history.specs.Growing.{changes_at, happened_by, page_at}

-- Whatever history a target agrees with, as its clauses say: the pages that it owes a host, as that history grows, are one
-- page as time goes on.
pub record DiscoveryPagesAreMoments : Type 0 where
  pub moments : (t : TargetState) (disks : Opening) (events : List Event) (received taken : ℕ → List ℕ) → Agrees t disks events received taken
      → (host : List ℕ) → AreMoments (page_at disks events host) (changes_at disks events host)
  pub bytes : (disks : Opening) (events : List Event) (host : List ℕ) (n : ℕ)
      → bytes_of (page_at disks events host n) ≡ page_of disks (happened_by disks events n) host

-- So the page that a host has, by answers that show it as of events that never go back, is the one that the target owed
-- it at each read of the last try.
pub record HostsLearnOneMoment : Type 0 where
  pub owed : (t : TargetState) (disks : Opening) (events : List Event) (received taken : ℕ → List ℕ) → Agrees t disks events received taken
      → (host : List ℕ) (moment : ℕ → ℕ) (given : List Given) → AreShown (page_at disks events host) moment given
      → (a : Answered given) (page : List ℕ) → HadPage a page → HasFewChanges a (λ n. changes_at disks events host (moment n))
      → (n : ℕ) → IsOfLastTry a n → page ≡ page_of disks (happened_by disks events (moment n)) host
