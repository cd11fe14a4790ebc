-- What an event makes of the units of each disk.
use Rattle.std.proofs.Common.{◌≡◌, ℕ, Bool, true, false, ◌==◌, List, [], ◌∷◌, Option, Some, None, slice_index_or, refl}
use Rattle.std.specs.Prelude.{if◌then◌else◌}
use Rattle.block_store.specs.Write.{contents_after}
use Rattle.io_queue.specs.Execution.{Act, write_on, written}
use Rattle.target_history.specs.Occurrence.{Occurrence, acts}
use Rattle.target_history.specs.History.{Opening, acts_of, blocks_of, with_act, writes_to}

act_step : (o : Option Act) (earlier : List Act) (opening : List (List ℕ)) (disk : ℕ)
    → contents_after (writes_to disk (with_act o earlier)) opening ≡ written (write_on disk o) (contents_after (writes_to disk earlier) opening)
act_step None earlier opening disk = refl
act_step (Some a) earlier opening disk = by (disk == a.disk) where
  by : (same : Bool) → contents_after (if same then a.write ∷ writes_to disk earlier else writes_to disk earlier) opening
      ≡ written (if same then Some a.write else None) (contents_after (writes_to disk earlier) opening)
  by true = refl
  by false = refl

-- the units of a disk are as before, written over by what the event writes to it
pub blocks_step : (disks : Opening) (x : Occurrence) (before : List Occurrence) (disk : ℕ)
    → blocks_of disks (x ∷ before) disk ≡ written (write_on disk (acts x)) (blocks_of disks before disk)
blocks_step disks x before disk = act_step (acts x) (acts_of before) (slice_index_or disks disk []) disk
