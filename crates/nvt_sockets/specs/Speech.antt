-- Lines that wait to be printed.
use Rattle.std.specs.Prelude.{◌≡◌, ◌<◌, ◌≤◌, ℕ, Bool, true, false, List, length}
use Rattle.nvt_sockets.specs.declared.journal.Log.{Log}
use Rattle.nvt_sockets.specs.declared.journal.Log.TheVariants as log
use Rattle.nvt_sockets.specs.declared.network.Channel.{Channel}
use Rattle.nvt_sockets.specs.declared.network.Channel.TheVariants as channel
use Rattle.nvt_sockets.specs.declared.speech.Speech.{Speech}
use Rattle.nvt_ports.specs.Kept.{Kept, kept_after, room_of}

-- a line is taken, where there is room for all of it
abbrev pub Takes : List ℕ → Bool → Kept → Kept → Type 0
Takes line true old new = (length line ≤ room_of old) × (new ≡ kept_after line old)
Takes line false old new = (room_of old < length line) × (new ≡ old)

-- on standard error nothing waits where nothing is told
abbrev pub OffersError : Log → List ℕ → Bool → Speech → Speech → Type 0
OffersError log.Printed line result old new = Takes line result old.error new.error × (new ≡ record old { error = new.error })
OffersError log.Quiet line result old new = (result ≡ true) × (new ≡ old)

abbrev pub Offers : Channel → List ℕ → Bool → Speech → Speech → Type 0
Offers channel.Output line result old new = Takes line result old.output new.output × (new ≡ record old { output = new.output })
Offers channel.Error line result old new = OffersError old.log line result old new
