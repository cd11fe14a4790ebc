-- What a line of a script printed, and what it changed, where it was cut off: since memory ran out, or since a write
-- failed.
use Rattle.std.specs.Prelude.{◌≡◌, ◌⊎◌, ℕ, zero, suc, ◌<◌, List, [], ◌∷◌, ◌++◌, take, drop, codes, Option, MatchOption, Ok}
use Rattle.std.specs.Io.{StartsWith}
use Rattle.hex.specs.Hex.{decode_of}
use Rattle.tables.specs.NumberTable.{place}
use Rattle.target_core.specs.Transition.{Transition}
use Rattle.target_core.specs.Target.{TargetState}
use Rattle.target_decision.specs.World.{connections_max}
use Rattle.target_history.specs.Event.{given_up, ticked}
use Rattle.edit_lines.specs.declared.reply.Reply.{Reply}
use Rattle.edit_lines.specs.declared.stream_line.StreamLine.{StreamLine}
use Rattle.edit_lines.specs.declared.stream_line.StreamLine.TheVariants as line
use Rattle.edit_lines.specs.Printed.{edit_made_line, event_line, reply_line}
use Rattle.edit_lines.specs.StreamLine.{Says}
use Rattle.nvt_replay.specs.Played.{PlaysAll, PlaysOpen, Prints, Receives, Drains, StepBelow, lines_below, number_taken}
use Rattle.edit_lines.specs.Line.{MakesLine, Refuses}

-- nothing is printed, and nothing changed
abbrev pub IsUntouched : TargetState → List ℕ → TargetState → Type 0
IsUntouched old printed new = (printed ≡ []) × (new ≡ old)

-- The target drains in part: nothing is printed while the connections step, and then a beginning of the lines of
-- all.
abbrev pub DrainsInPart : TargetState → List ℕ → Type 0
DrainsInPart old printed =
    (printed ≡ [])
    ⊎ ((idle : TargetState) × StepBelow connections_max old idle × StartsWith (lines_below connections_max idle) printed)

-- connection k receives n pieces, after each of which the target drains, and one more, after which it drains in
-- part
abbrev pub HandsOutInPart : ℕ → ℕ → List ℕ → TargetState → List ℕ → Type 0
HandsOutInPart zero k bytes old printed =
    (mid : TargetState) × (0 < number_taken k bytes old) × Receives k (take (number_taken k bytes old) bytes) old mid
    × DrainsInPart mid printed
HandsOutInPart (suc n) k bytes old printed =
    (mid : TargetState) × (drained : TargetState) × (first : List ℕ) × (rest : List ℕ)
    × (0 < number_taken k bytes old) × Receives k (take (number_taken k bytes old) bytes) old mid
    × Drains mid first drained × HandsOutInPart n k (drop (number_taken k bytes old) bytes) drained rest
    × (printed ≡ first ++ rest)

-- a beginning of the line of a connection that is not open
abbrev pub PrintsNoneInPart : ℕ → TargetState → List ℕ → TargetState → Type 0
PrintsNoneInPart k old printed new = StartsWith (event_line k (codes "none")) printed × (new ≡ old)

-- `open PORT`: nothing, or a beginning of what it prints once it is opened or refused
abbrev pub OpensInPart : ℕ → TargetState → List ℕ → TargetState → Type 0
OpensInPart port old printed new =
    IsUntouched old printed new ⊎ ((text : List ℕ) × PlaysOpen port old text new × StartsWith text printed)

-- `rx K HEX`: nothing, or some of its pieces
abbrev pub ReceivesInPart : ℕ → List ℕ → TargetState → List ℕ → TargetState → Type 0
ReceivesInPart k hex old printed new = MatchOption (place old.connections k) (PrintsNoneInPart k old printed new)
    (λ c. IsUntouched old printed new
    ⊎ ((bytes : List ℕ) × (decode_of hex ≡ Ok bytes) × (n : ℕ) × HandsOutInPart n k bytes old printed))

-- `end K`: the connection is given up, and the target drains in part
abbrev pub EndsInPart : ℕ → TargetState → List ℕ → TargetState → Type 0
EndsInPart k old printed new = MatchOption (place old.connections k) (PrintsNoneInPart k old printed new)
    (λ c. (mid : TargetState) × Transition (given_up k) old mid × DrainsInPart mid printed)

-- `tick MS`: the clock is set, and the target drains in part
abbrev pub TicksInPart : ℕ → TargetState → List ℕ → Type 0
TicksInPart ms old printed = (mid : TargetState) × Transition (ticked ms) old mid × DrainsInPart mid printed

-- an edit that is made: a beginning of its reply, or the reply and what the target prints that drains in part
abbrev pub MadeInPart : TargetState → List ℕ → TargetState → Type 0
MadeInPart mid printed new =
    (StartsWith edit_made_line printed × (new ≡ mid))
    ⊎ ((rest : List ℕ) × DrainsInPart mid rest × (printed ≡ edit_made_line ++ rest))

-- `edit LINE`: nothing, or a beginning of what it prints once it is made or refused
abbrev pub EditsInPart : List ℕ → TargetState → List ℕ → TargetState → Type 0
EditsInPart text old printed new =
    IsUntouched old printed new
    ⊎ ((mid : TargetState) × MakesLine text old mid × MadeInPart mid printed new)
    ⊎ ((reply : Reply) × Refuses old.config text reply × StartsWith (reply_line reply) printed × (new ≡ old))

abbrev pub PlaysInPart : StreamLine → TargetState → List ℕ → TargetState → Type 0
PlaysInPart (line.Open port) old printed new = OpensInPart port old printed new
PlaysInPart (line.Receive k hex) old printed new = ReceivesInPart k hex.now old printed new
PlaysInPart (line.End k) old printed new = EndsInPart k old printed new
PlaysInPart (line.Tick ms) old printed new = TicksInPart ms old printed
PlaysInPart (line.Edit text) old printed new = EditsInPart text.now old printed new

-- a line of a script that was cut off, and what it printed
pub record PlaysLineInPart (text : List ℕ) (old new : TargetState) (before after : Option (List ℕ)) : Type 0 where
  pub says : StreamLine
  pub is : Says text says
  pub prints : Prints before after (λ printed. PlaysInPart says old printed new)

-- the lines of a script before one were played, and that one in part
pub record IsCutOff (lines : List (List ℕ)) (old : TargetState) (printed : List ℕ) : Type 0 where
  pub before : List (List ℕ)
  pub text : List ℕ
  pub after : List (List ℕ)
  pub split : lines ≡ before ++ text ∷ after
  pub says : StreamLine
  pub is : Says text says
  pub mid : TargetState
  pub last : TargetState
  pub first : List ℕ
  pub rest : List ℕ
  pub played : PlaysAll before old first mid
  pub part : PlaysInPart says mid rest last
  pub joined : printed ≡ first ++ rest
