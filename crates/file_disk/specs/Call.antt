-- The calls of the system on one open file.
use Rattle.std.specs.Prelude.{ℕ, List}

-- A call with its answer. Offsets and counts are in bytes.
pub data Call : Type 0 where
  -- from that offset these bytes came
  read : ℕ → List ℕ → Call
  -- from that offset so many bytes were asked for, and none came
  unread : ℕ → ℕ → Call
  -- at that offset these bytes were taken
  written : ℕ → List ℕ → Call
  -- at that offset so many bytes were given, and none was taken
  unwritten : ℕ → ℕ → Call
  synced : Call
  unsynced : Call
