use Rattle.std.proofs.Common.{◌≡◌, replicate}
use Rattle.data_transfer.specs.Queue.{no_tags}
use Rattle.data_transfer.proofs.transfers.Transfers.new.Given as goal

abbrev pub invariant-loop : goal.invariant-loop
invariant-loop g l = l.queues.items ≡ replicate l.counter no_tags
