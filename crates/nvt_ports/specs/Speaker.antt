-- Who may have something to say.
use Rattle.std.specs.Prelude.{ℕ, ◌+◌, ◌-◌, nat_lt, if◌then◌else◌}
use Rattle.nvt_ports.specs.declared.speaker.Speaker.{Speaker}
use Rattle.nvt_ports.specs.declared.speaker.Speaker.TheVariants.{Host, Port, Control, Editor}

-- its place in a round of 64 slots, 16 ports, the control port and 16 connections, and 97 where there is no such one
abbrev pub number_of : Speaker → ℕ
number_of (Host slot) = if nat_lt slot 64 then slot else 97
number_of (Port place) = if nat_lt place 16 then 64 + place else 97
number_of Control = 80
number_of (Editor place) = if nat_lt place 16 then 81 + place else 97

abbrev pub speaker_of : ℕ → Speaker
speaker_of number =
    if nat_lt number 64 then Host number
    else if nat_lt number 80 then Port (number - 64)
    else if nat_lt number 81 then Control
    else Editor (number - 81)

-- how often it is tried in vain until it counts as silent: listeners sooner, since a try of one costs eight times as much
abbrev pub patience_of : Speaker → ℕ
patience_of (Host slot) = 4096
patience_of (Port place) = 64
patience_of Control = 64
patience_of (Editor place) = 4096
