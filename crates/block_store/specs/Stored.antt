-- What a disk has and how it fared.
use Rattle.std.specs.Prelude.{ℕ, List}

-- the bytes of each unit as they were written, in the order of their numbers; those that the latest sync
-- found; the count of its failures, which each call that fails changes, and no other; and the count of its
-- strays, which each read that finds other bytes raises
pub record Stored : Type 0 where
  pub contents : List (List ℕ)
  pub synced : List (List ℕ)
  pub faults : ℕ
  pub strays : ℕ
