-- What a replay makes of a target, line by line, and what it prints of it.
use Rattle.std.specs.Prelude.{◌≡◌, ◌⊎◌, ℕ, zero, suc, ◌<◌, ◌&&◌, Bool, nat_lt, List, [], ◌∷◌, ◌++◌, length, take, drop, min, codes, Option, Some, None, MatchOption, Ok, if◌then◌else◌}
use Rattle.std.specs.Io.KnownBytes.{Appends}
use Rattle.hex.specs.Hex.{decode_of}
use Rattle.io_queue.specs.Execution.{contents_at}
use Rattle.data_transfer.specs.Parts.{part_at}
use Rattle.tables.specs.NumberTable.{place}
use Rattle.target_core.specs.declared.fault.OpenFault.{OpenFault}
use Rattle.target_core.specs.Connection.{KnownConnection}
use Rattle.target_core.specs.Fault.{word_of_open_fault}
use Rattle.target_core.specs.Transition.{Transition}
use Rattle.target_core.specs.Target.{TargetState, free_number, is_ended_at, open_fault, room_at, with_connection, with_stream}
use Rattle.target_decision.specs.Session.{is_ended}
use Rattle.target_decision.specs.World.{connections_max}
use Rattle.target_history.specs.Event.{given_up, opened, ticked}
use Rattle.edit_lines.specs.declared.reply.Reply.{Reply}
use Rattle.edit_lines.specs.declared.stream_line.StreamLine.{StreamLine}
use Rattle.edit_lines.specs.declared.stream_line.StreamLine.TheVariants as line
use Rattle.edit_lines.specs.Printed.{edit_made_line, event_line, output_lines, reply_line}
use Rattle.edit_lines.specs.Line.{MakesLine, Refuses}
use Rattle.edit_lines.specs.StreamLine.{Says}
use Rattle.target_core.specs.Steps.{StepsUntilIdle}

-- a writer's known bytes grew by some text of which this holds
abbrev pub Prints : Option (List ℕ) → Option (List ℕ) → (List ℕ → Type 0) → Type 0
Prints old new P = (text : List ℕ) × Appends old new text × P text

-- ---- the bytes of an `rx`

-- how many of these bytes connection k has room for
abbrev pub number_taken : ℕ → List ℕ → TargetState → ℕ
number_taken k bytes t = min (room_at (place t.streams k) (place t.connections k)) (length bytes)

abbrev pub given : ℕ → Option (List ℕ) → Option KnownConnection → List ℕ → TargetState → TargetState
given k None o bytes t = t
given k (Some held) None bytes t = t
given k (Some held) (Some c) bytes t = with_stream t k (held ++ bytes)

-- connection k received these bytes, behind those that it held
abbrev pub Receives : ℕ → List ℕ → TargetState → TargetState → Type 0
Receives k bytes old new = new ≡ given k (place old.streams k) (place old.connections k) bytes old

-- ---- the steps in between

-- the connections below n step until each is idle, one after the other, in rising number
unfoldable pub StepBelow : ℕ → TargetState → TargetState → Type 0
StepBelow zero old new = new ≡ old
StepBelow (suc k) old new = (mid : TargetState) × StepBelow k old mid × StepsUntilIdle k mid new

-- ---- what the target owes, and the connections that it ended

-- the lines of a connection: those of its output, and that it is closed where the target ended it
abbrev pub connection_lines : ℕ → Option KnownConnection → List ℕ
connection_lines k None = []
connection_lines k (Some c) =
    output_lines k c.output ++ (if is_ended c.state.session then event_line k (codes "closed") else [])

-- what is left of it when they are printed: nothing where it is closed, and else it has nothing to send
abbrev pub printed_out : Option KnownConnection → Option KnownConnection
printed_out None = None
printed_out (Some c) =
    if is_ended c.state.session then None
    else Some (record { state = c.state; output = [] })

-- all that a connection has to send is taken
abbrev pub TakesOutput : ℕ → Option KnownConnection → TargetState → TargetState → Type 0
TakesOutput k None old new = new ≡ old
TakesOutput k (Some c) old new = new ≡ with_connection old k (record { state = c.state; output = [] })

-- the lines of the connections below n, in rising number
unfoldable pub lines_below : ℕ → TargetState → List ℕ
lines_below zero t = []
lines_below (suc k) t = lines_below k t ++ connection_lines k (place t.connections k)

-- the lines of these connections are printed: their output was taken, those that are closed were given up,
-- and nothing else changed
pub record ArePrinted (these : ℕ → Bool) (old new : TargetState) : Type 0 where
  pub config : new.config ≡ old.config
  pub clock : new.clock ≡ old.clock
  pub shown : new.shown ≡ old.shown
  pub formed : new.formed ≡ old.formed
  pub connection : (k : ℕ) → place new.connections k
      ≡ (if these k then printed_out (place old.connections k) else place old.connections k)
  pub stream : (k : ℕ) → place new.streams k
      ≡ (if these k && is_ended_at (place old.connections k) then None else place old.streams k)
  pub part : (k t : ℕ) → part_at new.transfers k t
      ≡ (if these k && is_ended_at (place old.connections k) then None else part_at old.transfers k t)
  pub row : (c : ℕ) → place new.rows c ≡ place old.rows c
  pub controller : (c : ℕ) → place new.controllers c ≡ place old.controllers c
  pub blocks : (d : ℕ) → contents_at new.disks d ≡ contents_at old.disks d

-- all connections step until they are idle, and then the lines of all are printed
pub record Drains (old : TargetState) (printed : List ℕ) (new : TargetState) : Type 0 where
  pub idle : TargetState
  pub steps : StepBelow connections_max old idle
  pub prints : printed ≡ lines_below connections_max idle
  pub left : ArePrinted (λ k. nat_lt k connections_max) idle new

-- ---- the lines of a script

-- Connection k receives these bytes in n pieces, of which each is as long as there is room for, and after each
-- the target drains. No bytes are left then, or no room, as where the connection has ended.
abbrev pub HandsOut : ℕ → ℕ → List ℕ → TargetState → List ℕ → TargetState → Type 0
HandsOut zero k bytes old printed new = (number_taken k bytes old ≡ 0) × (printed ≡ []) × (new ≡ old)
HandsOut (suc n) k bytes old printed new =
    (mid : TargetState) × (drained : TargetState) × (first : List ℕ) × (rest : List ℕ)
    × (0 < number_taken k bytes old) × Receives k (take (number_taken k bytes old) bytes) old mid
    × Drains mid first drained × HandsOut n k (drop (number_taken k bytes old) bytes) drained rest new
    × (printed ≡ first ++ rest)

-- a line of a connection that is not open
abbrev pub PrintsNone : ℕ → TargetState → List ℕ → TargetState → Type 0
PrintsNone k old printed new = (printed ≡ event_line k (codes "none")) × (new ≡ old)

-- `open refused KIND`
abbrev pub refused_line : OpenFault → List ℕ
refused_line fault = codes "open refused " ++ (word_of_open_fault fault ++ codes "\n")

-- `open PORT`: it is opened under the least number that is free, or refused
abbrev pub PlaysOpen : ℕ → TargetState → List ℕ → TargetState → Type 0
PlaysOpen port old printed new = MatchOption (open_fault old port)
    ((k : ℕ) × (free_number old ≡ Some k) × Transition (opened port k) old new × (printed ≡ event_line k (codes "open")))
    (λ fault. (printed ≡ refused_line fault) × (new ≡ old))

-- `rx K HEX`
abbrev pub PlaysReceive : ℕ → List ℕ → TargetState → List ℕ → TargetState → Type 0
PlaysReceive k hex old printed new = MatchOption (place old.connections k) (PrintsNone k old printed new)
    (λ c. (bytes : List ℕ) × (decode_of hex ≡ Ok bytes) × (n : ℕ) × HandsOut n k bytes old printed new)

-- `end K`: the connection is given up, and the target drains; K is not open then, so nothing is printed of it
abbrev pub PlaysEnd : ℕ → TargetState → List ℕ → TargetState → Type 0
PlaysEnd k old printed new = MatchOption (place old.connections k) (PrintsNone k old printed new)
    (λ c. (mid : TargetState) × Transition (given_up k) old mid × Drains mid printed new)

-- `tick MS`: the clock is set, and the target drains
abbrev pub PlaysTick : ℕ → TargetState → List ℕ → TargetState → Type 0
PlaysTick ms old printed new = (mid : TargetState) × Transition (ticked ms) old mid × Drains mid printed new

-- `edit LINE`: the edit is made and the target drains, or it is refused
abbrev pub PlaysEdit : List ℕ → TargetState → List ℕ → TargetState → Type 0
PlaysEdit text old printed new =
    ((mid : TargetState) × MakesLine text old mid
    × (rest : List ℕ) × Drains mid rest new × (printed ≡ edit_made_line ++ rest))
    ⊎ ((reply : Reply) × Refuses old.config text reply × (printed ≡ reply_line reply) × (new ≡ old))

abbrev pub Plays : StreamLine → TargetState → List ℕ → TargetState → Type 0
Plays (line.Open port) old printed new = PlaysOpen port old printed new
Plays (line.Receive k hex) old printed new = PlaysReceive k hex.now old printed new
Plays (line.End k) old printed new = PlaysEnd k old printed new
Plays (line.Tick ms) old printed new = PlaysTick ms old printed new
Plays (line.Edit text) old printed new = PlaysEdit text.now old printed new

-- a line of a script, and what it prints
pub record PlaysLine (text : List ℕ) (old new : TargetState) (before after : Option (List ℕ)) : Type 0 where
  pub says : StreamLine
  pub is : Says text says
  pub prints : Prints before after (λ printed. Plays says old printed new)

-- the lines of a script, one after the other
abbrev pub PlaysAll : List (List ℕ) → TargetState → List ℕ → TargetState → Type 0
PlaysAll [] old printed new = (printed ≡ []) × (new ≡ old)
PlaysAll (text ∷ lines) old printed new =
    (says : StreamLine) × Says text says
    × (mid : TargetState) × (first : List ℕ) × (rest : List ℕ)
    × Plays says old first mid × PlaysAll lines mid rest new × (printed ≡ first ++ rest)
