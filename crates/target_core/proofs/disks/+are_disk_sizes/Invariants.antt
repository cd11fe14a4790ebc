use Rattle.std.proofs.Common.{length}
use Rattle.target_core.proofs.disks.+are_disk_sizes.Given as goal

abbrev pub decreases-are_disk_sizes : goal.decreases-are_disk_sizes
decreases-are_disk_sizes g l = length l.disks.now
