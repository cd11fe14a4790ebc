-- What a step ends of its own connection, and what ends with a connection.
use Rattle.std.specs.Prelude.{◌≡◌, ℕ, true, false, List, ◌∷◌, None}
use Rattle.target_history.specs.Event.{Event, opens, steps}
use Rattle.target_history.specs.Occurrence.{Occurrence, ends_at, terminates}
use Rattle.target_history.specs.History.{Opening, connection_of, happened, has_ended, part_of}

-- A connection whose own step ends it was not ended before, and is ended after it. Another step of it leaves it as it
-- was, ended or not. So where an event ends it that its own step does not, the event is no step of it, and ends it from
-- elsewhere.
pub record StepsEndTheirOwn : Type 0 where
  pub ended : (x : Occurrence) (before : List Occurrence) (k : ℕ) → x.connection k ≡ connection_of before k → terminates x k ≡ true
      → (has_ended before k ≡ false) × (has_ended (x ∷ before) k ≡ true)
  pub stays : (x : Occurrence) (before : List Occurrence) (k : ℕ) → steps x.event k ≡ true → terminates x k ≡ false
      → has_ended (x ∷ before) k ≡ has_ended before k
  pub elsewhere : (x : Occurrence) (before : List Occurrence) (k : ℕ) → opens x.event k ≡ false → terminates x k ≡ false
      → has_ended before k ≡ false → has_ended (x ∷ before) k ≡ true
      → (steps x.event k ≡ false) × (ends_at x (x.connection k) ≡ true)

-- a connection that is ended has no transfer, under whatever tag
pub record EndedHaveNoTransfers : Type 0 where
  pub none : (disks : Opening) (events : List Event) (k ttag : ℕ) → has_ended (happened disks events) k ≡ true
      → part_of (happened disks events) k ttag ≡ None
