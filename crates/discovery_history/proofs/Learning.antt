-- The page that a host has is the one that the target owed it at each read of its last try.
use Rattle.std.proofs.Common.{◌∙◌}
use Rattle.host_pages.proofs.OneMoment.{pages_are_of_one_moment}
use Rattle.discovery_history.specs.Growing.{changes_at, page_at}
use Rattle.discovery_history.specs.Laws.{HostsLearnOneMoment}
use Rattle.discovery_history.proofs.Growing.{bytes_are, discovery_pages_are_moments}

pub hosts_learn_one_moment : HostsLearnOneMoment
hosts_learn_one_moment = record {
  owed = λ t disks events received taken agrees host moment given shown a page had few n of.
      pages_are_of_one_moment.stood (page_at disks events host) (changes_at disks events host) moment (discovery_pages_are_moments.moments t disks events received taken agrees host) given shown a page had few n of
      ∙ bytes_are disks events host (moment n);
}
