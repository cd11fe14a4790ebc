use Rattle.std.proofs.Common.{length}
use Rattle.discovery_view.proofs.catalog.+push_referrals.Given as goal

abbrev pub decreases-push_referrals : goal.decreases-push_referrals
decreases-push_referrals l = length l.referrals.now
