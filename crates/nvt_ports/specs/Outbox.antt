-- What is known of a host by what waits for it, and of its socket by what it took.
use Rattle.std.specs.Prelude.{◌==◌, Bool, length, ◌≡◌, ℕ, ◌+◌, ◌*◌, min, if◌then◌else◌}
use Rattle.nvt_ports.specs.declared.backoff.Backoff.{Backoff}
use Rattle.nvt_ports.specs.declared.outbox.Outbox.{Outbox}
use Rattle.nvt_ports.specs.declared.sending.Standing.{Standing}
use Rattle.nvt_ports.specs.Kept.{room_of}

-- of the bytes that wait only the number counts: what they say does not bear on when they are sent
abbrev pub standing_of : Bool → Outbox → Standing
standing_of is_answered o = record {
  kept = length o.kept.waiting;
  room = room_of o.kept;
  taken = o.taken;
  is_answered = is_answered;
  is_due = o.backoff.left == 0;
}

-- the socket was tried, and took so many bytes: it is due again at once, or, where it took none, after so many calls, and
-- the next time after twice as many and one more, up to 31
pub record IsTried (took : ℕ) (before after : Backoff) : Type 0 where
  pub left : after.left ≡ (if took == 0 then before.next else 0)
  pub next : after.next ≡ (if took == 0 then min (before.next * 2 + 1) 31 else 1)
