-- What ports in memory tell.
use Rattle.std.specs.Prelude.{◌≡◌, ℕ, List, Option, Some, None, Result, Ok, Err, false, [], length, map, replicate, if◌then◌else◌}
use Rattle.std.specs.declared.alloc.AllocError.{AllocError}
use Rattle.nvt_ports.specs.declared.event.PortEvent.{PortEvent}
use Rattle.nvt_ports.specs.Event.{Fits, in_use_after}
use Rattle.nvt_ports.specs.declared.memory.MemoryPorts.{MemoryPorts}
use Rattle.nvt_ports.specs.declared.step.PortStep.{PortStep}
use Rattle.nvt_ports.specs.declared.step.PortStep.TheVariants as step
use Rattle.nvt_ports.specs.Told.{HandedOut, Told, bytes, ended, handed_out_by, line, opened, ticked, with_handed_out}

abbrev pub handed_out_of : PortStep → HandedOut
handed_out_of (step.Open slot port) = opened slot port
handed_out_of (step.Bytes slot piece) = bytes slot piece.items
handed_out_of (step.End slot) = ended slot
handed_out_of (step.Line text) = line text.items
handed_out_of (step.Tick ms) = ticked ms

abbrev pub handed_out_in : MemoryPorts → List HandedOut
handed_out_in ports = map handed_out_of ports.handed_out.items

abbrev pub took_in : MemoryPorts → List (List ℕ)
took_in ports = map (λ v. v.items) ports.took.items

abbrev pub replies_in : MemoryPorts → List (List ℕ)
replies_in ports = map (λ v. v.items) ports.replies.items

-- they tell what they keep, unless there was no memory for some of it
abbrev pub told_of : MemoryPorts → Option Told
told_of ports = if ports.lost then None else Some (record {
  asked = ports.asked;
  handed_out = handed_out_in ports;
  took = took_in ports;
  replies = replies_in ports;
  refreshed = ports.refreshed;
})

-- nothing was asked, handed out or taken yet, and no slot is in use
pub record IsAtFirst (ports : MemoryPorts) : Type 0 where
  pub told : told_of ports ≡ Some (record { asked = 0; handed_out = []; took = replicate 64 []; replies = []; refreshed = None })
  pub in_use : ports.in_use ≡ replicate 64 false

-- what they were told stays
pub record Remembers (old new : MemoryPorts) : Type 0 where
  pub replies : new.replies ≡ old.replies
  pub refreshed : new.refreshed ≡ old.refreshed
  pub lost : new.lost ≡ old.lost

-- .. and what they took, and what they count
pub record Stays (old new : MemoryPorts) : Type 0 where
  pub remembers : Remembers old new
  pub took : new.took ≡ old.took
  pub asked : new.asked ≡ old.asked
  pub faults : new.faults ≡ old.faults

-- this is handed out, with these bytes in the buffer
pub record HandsOut (room buffer : List ℕ) (event : PortEvent) (old new : MemoryPorts) : Type 0 where
  pub fits : Fits old.in_use room (length buffer) event
  pub in_use : new.in_use ≡ in_use_after event old.in_use
  pub handed_out : handed_out_in new ≡ with_handed_out (handed_out_by event buffer) (handed_out_in old)
  pub stays : Stays old new

-- nothing is, since memory ran out
pub record HandsNothingOut (old new : MemoryPorts) : Type 0 where
  pub in_use : new.in_use ≡ old.in_use
  pub handed_out : handed_out_in new ≡ handed_out_in old
  pub stays : Stays old new

abbrev pub HandsOutBy : List ℕ → List ℕ → Result PortEvent AllocError → MemoryPorts → MemoryPorts → Type 0
HandsOutBy room buffer (Ok event) old new = HandsOut room buffer event old new
HandsOutBy room buffer (Err fault) old new = HandsNothingOut old new
