use Rattle.std.proofs.Common.{length}
use Rattle.discovery_view.proofs.catalog.+push_links.Given as goal

abbrev pub decreases-push_links : goal.decreases-push_links
decreases-push_links l = length l.subsystems.now
