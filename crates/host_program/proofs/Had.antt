-- A page that is lent is there.
use Rattle.std.proofs.Common.{◌≡◌, ℕ, List, Some, ap}
use Rattle.std.specs.Prelude.{is_some}
use Rattle.std.proofs.lemmas.Bool.{false≢true}
use Rattle.host_pages.specs.Discover.{DiscoverState, asks, ended, page_in, settled}

pub had_by : (d : DiscoverState) (page : List ℕ) → page_in d ≡ Some page → d ≡ settled page
had_by (asks failed read) page is = absurd (false≢true (ap is_some is))
had_by (settled other) page is = cc
had_by (ended fault) page is = absurd (false≢true (ap is_some is))
