-- What ports that tell say that they handed out and took, and were told.
use Rattle.std.specs.Prelude.{◌≡◌, ◌⊎◌, ℕ, ◌-◌, ◌+◌, ◌^◌, min, Bool, List, [], ◌∷◌, ◌++◌, Option, Some, None, Result, Ok, Err, take, slice_index_or, slice_set}
use Rattle.std.specs.Option.{option_map}
use Rattle.nvt_config.specs.Configuration.{Configuration}
use Rattle.nvt_ports.specs.declared.event.PortEvent.{PortEvent}
use Rattle.nvt_ports.specs.declared.event.PortEvent.TheVariants as next
use Rattle.nvt_ports.specs.declared.event.PortFault.{PortFault}

-- a host connected, in a slot, to a port; bytes came in a slot; its host is gone; a line of an edit; the time
pub data HandedOut : Type 0 where
  opened : ℕ → ℕ → HandedOut
  bytes : ℕ → List ℕ → HandedOut
  ended : ℕ → HandedOut
  line : List ℕ → HandedOut
  ticked : ℕ → HandedOut

-- how often they were asked, up to 2^64 - 1 times, what they handed out, all bytes that they took in each slot, the replies
-- that they were given, and the configuration that an edit made last, where one was made
pub record Told : Type 0 where
  pub asked : ℕ
  pub handed_out : List HandedOut
  pub took : List (List ℕ)
  pub replies : List (List ℕ)
  pub refreshed : Option Configuration

-- what an answer hands out, with this in the buffer
abbrev pub handed_out_by : PortEvent → List ℕ → Option HandedOut
handed_out_by (next.Open slot port) buffer = Some (opened slot port)
handed_out_by (next.Bytes slot n) buffer = Some (bytes slot (take n buffer))
handed_out_by (next.End slot) buffer = Some (ended slot)
handed_out_by (next.Line n) buffer = Some (line (take n buffer))
handed_out_by (next.Tick ms) buffer = Some (ticked ms)
handed_out_by next.Nothing buffer = None

abbrev pub with_handed_out : Option HandedOut → List HandedOut → List HandedOut
with_handed_out None list = list
with_handed_out (Some new) list = list ++ new ∷ []

-- so many calls more, up to 2^64 - 1 in all
abbrev pub more : ℕ → ℕ → ℕ
more asked n = asked + min n (2 ^ 64 - 1 - asked)

-- they were asked once more, and handed this out
abbrev pub heard : Option HandedOut → Told → Told
heard new t = record {
  asked = more t.asked 1;
  handed_out = with_handed_out new t.handed_out;
  took = t.took;
  replies = t.replies;
  refreshed = t.refreshed;
}

-- the slot took these bytes too
abbrev pub with_taken : ℕ → List ℕ → List (List ℕ) → List (List ℕ)
with_taken slot taken took = slice_set took slot (slice_index_or took slot [] ++ taken)

abbrev pub given_once : ℕ → List ℕ → Told → Told
given_once slot taken t = record t { took = with_taken slot taken t.took }

-- what is told after a call of `give`
abbrev pub TellsGiven : ℕ → List ℕ → Result ℕ PortFault → Option Told → Option Told → Type 0
TellsGiven slot given (Ok n) old new = new ≡ option_map (given_once slot (take n given)) old
TellsGiven slot given (Err fault) old new = new ≡ old

-- they were given this reply, or this configuration
abbrev pub replied : List ℕ → Told → Told
replied text t = record t { replies = t.replies ++ text ∷ [] }

abbrev pub refreshed_to : Configuration → Told → Told
refreshed_to config t = record t { refreshed = Some config }

-- What is told after a call that gives them something to tell: that too; or nothing from then on, as of ports that had no
-- memory for it.
abbrev pub TellsMore : (Told → Told) → Option Told → Option Told → Type 0
TellsMore change old new = (new ≡ option_map change old) ⊎ (new ≡ None)

-- What contracts see of ports: what they tell, if they do; whether each slot is in use: open, and not closed; and a count
-- of the calls of `give` that failed.
pub record PortsState : Type 0 where
  pub told : Option Told
  pub in_use : List Bool
  pub faults : ℕ
