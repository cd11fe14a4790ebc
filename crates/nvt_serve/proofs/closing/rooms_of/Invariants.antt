use Rattle.std.proofs.Common.{◌≡◌, ℕ, ◌<◌, ◌≤◌, length, slice_index_or}
use Rattle.tables.specs.NumberTable.{place}
use Rattle.nvt_serve.specs.Asking.{room_of_slot}
use Rattle.nvt_serve.proofs.closing.rooms_of.Given as goal

abbrev pub invariant-loop-slot : goal.invariant-loop-slot
invariant-loop-slot g l = record {
  rooms : (s : ℕ) → s < l.slot → slice_index_or l.rooms s 0 ≡ room_of_slot l.target (place l.ties.connections s);
  rest : (s : ℕ) → l.slot ≤ s → slice_index_or l.rooms s 0 ≡ 0;
  whole : length l.rooms ≡ 64;
}
