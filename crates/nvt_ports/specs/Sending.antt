-- What becomes of the bytes that wait for a host, and of those that are offered.
use Rattle.std.specs.Prelude.{◌≡◌, ◌<◌, ◌≤◌, ℕ, Bool, true, false, ◌&&◌, nat_lt, not, ◌⊎◌}
use Rattle.nvt_ports.specs.declared.sending.Standing.{Standing}
use Rattle.nvt_ports.specs.declared.sending.Sending.{Sending}
use Rattle.nvt_ports.specs.declared.sending.Sending.TheVariants as sending
use Rattle.nvt_ports.specs.declared.sending.Taking.{Taking}
use Rattle.nvt_ports.specs.declared.sending.Taking.TheVariants as taking

-- Some bytes were taken since the call before, there is room for more, fewer than 196,608 wait, and the host has something
-- to be answered.
abbrev pub may_join : Standing → Bool
may_join s = nat_lt 0 s.taken && nat_lt 0 s.room && nat_lt s.kept 196608 && not s.is_answered

-- They are joined exactly where they may be; those that are not are sent exactly where the socket is due, and wait else.
abbrev pub Decides : Sending → Standing → Type 0
Decides sending.Nothing s = s.kept ≡ 0
Decides sending.Now s = (0 < s.kept) × (may_join s ≡ false) × (s.is_due ≡ true)
Decides sending.Joins s = (0 < s.kept) × (may_join s ≡ true)
Decides sending.Waits s = (0 < s.kept) × (may_join s ≡ false) × (s.is_due ≡ false)

-- 65,536 bytes or more go to the socket where none wait and it is due, and are not taken where it is not; all others are
-- kept.
abbrev pub Takes : ℕ → Taking → Standing → Type 0
Takes offered taking.Nothing s = (offered ≡ 0) ⊎ ((65536 ≤ offered) × (s.kept ≡ 0) × (s.is_due ≡ false))
Takes offered taking.Directly s = (65536 ≤ offered) × (s.kept ≡ 0) × (s.is_due ≡ true)
Takes offered taking.Kept s = (0 < offered) × ((offered < 65536) ⊎ (0 < s.kept))
