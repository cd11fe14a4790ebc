-- What ports answer when they are asked what is next.
use Rattle.std.specs.Prelude.{◌≡◌, ℕ, ◌≤◌, ◌<◌, Bool, true, false, List, slice_index_or, slice_set}
use Rattle.nvt_ports.specs.declared.event.PortEvent.{PortEvent}
use Rattle.nvt_ports.specs.declared.event.PortEvent.TheVariants as next

-- It speaks of a slot that there is, one that was free where a host connected, and of no more bytes than the slot
-- has room for and the buffer holds.
abbrev pub Fits : List Bool → List ℕ → ℕ → PortEvent → Type 0
Fits used room len (next.Open slot port) = (slot < 64) × (slice_index_or used slot true ≡ false)
Fits used room len (next.Bytes slot n) = (slot < 64) × (n ≤ slice_index_or room slot 0) × (n ≤ len)
Fits used room len (next.End slot) = slot < 64
Fits used room len (next.Line n) = n ≤ len
Fits used room len (next.Tick ms) = Unit {0}
Fits used room len next.Nothing = Unit {0}

-- the slots that are in use after it
abbrev pub in_use_after : PortEvent → List Bool → List Bool
in_use_after (next.Open slot port) used = slice_set used slot true
in_use_after (next.Bytes slot n) used = used
in_use_after (next.End slot) used = used
in_use_after (next.Line n) used = used
in_use_after (next.Tick ms) used = used
in_use_after next.Nothing used = used
