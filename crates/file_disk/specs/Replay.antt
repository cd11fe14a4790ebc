-- What a file has, by the calls that were made on it and their answers.
use Rattle.std.specs.Prelude.{◌≡◌, ◌⊎◌, ℕ, ◌+◌, ◌*◌, ◌/◌, ◌%◌, ◌==◌, Bool, true, false, not, ◌||◌, List, [], ◌∷◌, ◌++◌, length, take, drop, bytes_eq, Result, Ok, Err, if◌then◌else◌}
use Rattle.block_store.specs.Range.{bytes_of, units_of, overwritten}
use Rattle.file_disk.specs.Call.{Call, read, unread, written, unwritten, synced, unsynced}

pub record Replayed : Type 0 where
  -- the bytes of each unit that was written to its last byte, or else as they were before
  pub contents : List (List ℕ)
  -- the bytes of a unit that was not written to its last byte, where the latest write ended within it
  pub begun : List ℕ
  -- the contents at the latest sync that succeeded
  pub synced : List (List ℕ)
  -- the reads that found other bytes than the contents have
  pub strays : ℕ
  -- a sync failed, or a write within a unit: what the file has is not known from then on
  pub is_dead : Bool
  -- the calls, and those of them that failed
  pub calls : ℕ
  pub failures : ℕ

-- the count of strays after a read that found these bytes at that offset
unfoldable pub strays_after : ℕ → List ℕ → Replayed → ℕ
strays_after offset bytes was =
    if bytes_eq bytes (take (length bytes) (drop offset (bytes_of was.contents))) then was.strays else was.strays + 1

-- the bytes from the start of the unit on in which the write begins: a write within a unit goes on
-- with those that were written of it
abbrev pub bytes_after : ℕ → List ℕ → Replayed → List ℕ
bytes_after offset bytes was = take (offset % 512) was.begun ++ bytes

-- after a write that took these bytes at that offset
abbrev pub after_write : ℕ → List ℕ → Replayed → Replayed
after_write offset bytes was =
    let all = bytes_after offset bytes was in
    record was {
      contents = overwritten was.contents (offset / 512) (units_of all);
      begun = drop (length all / 512 * 512) all;
      calls = was.calls + 1;
    }

-- after a call that failed
abbrev pub after_failure : Bool → Replayed → Replayed
after_failure is_dead was = record was { is_dead = is_dead; calls = was.calls + 1; failures = was.failures + 1 }

abbrev pub after_call : Call → Replayed → Replayed
after_call (read offset bytes) was = record was { strays = strays_after offset bytes was; calls = was.calls + 1 }
after_call (unread offset count) was = after_failure was.is_dead was
after_call (written offset bytes) was = after_write offset bytes was
after_call (unwritten offset count) was = after_failure (was.is_dead || not (offset % 512 == 0)) was
after_call synced was = record was { synced = was.contents; calls = was.calls + 1 }
after_call unsynced was = after_failure true was

-- a file that held these units, after these calls, of which the newest comes first
abbrev pub replay : List (List ℕ) → List Call → Replayed
replay held [] = record { contents = held; begun = []; synced = held; strays = 0; is_dead = false; calls = 0; failures = 0 }
replay held (call ∷ earlier) = after_call call (replay held earlier)

-- A disk in such a file answers a fault exactly where the file was dead, and then it made no call; or
-- where one call of the system failed.
abbrev pub Told : {T E : Type 0} → Result T E → Replayed → Replayed → Type 0
Told (Ok _) old new = (old.is_dead ≡ false) × (new.failures ≡ old.failures)
Told (Err _) old new = ((old.is_dead ≡ true) × (new ≡ old)) ⊎ ((old.is_dead ≡ false) × (new.failures ≡ old.failures + 1))
