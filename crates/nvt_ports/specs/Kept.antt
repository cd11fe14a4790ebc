-- What a buffer keeps to be sent.
use Rattle.std.specs.Prelude.{ℕ, ◌+◌, ◌-◌, ◌*◌, ◌==◌, ◌||◌, nat_le, List, [], ◌++◌, length, drop, if◌then◌else◌}

-- the bytes that wait, how many were sent whose room is not back yet, and how many bytes there may be of both
pub record Kept : Type 0 where
  pub waiting : List ℕ
  pub spent : ℕ
  pub capacity : ℕ

abbrev pub emptied : ℕ → Kept
emptied capacity = record { waiting = []; spent = 0; capacity = capacity }

-- how many more bytes it takes
abbrev pub room_of : Kept → ℕ
room_of k = k.capacity - (k.spent + length k.waiting)

abbrev pub kept_after : List ℕ → Kept → Kept
kept_after bytes k = record k { waiting = k.waiting ++ bytes }

-- The room of what was sent comes back once nothing waits, or once it is half of the capacity.
abbrev pub sent_of : ℕ → Kept → Kept
sent_of n k = record {
  waiting = drop n k.waiting;
  spent = if n == length k.waiting || nat_le k.capacity ((k.spent + n) * 2) then 0 else k.spent + n;
  capacity = k.capacity;
}
