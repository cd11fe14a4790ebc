-- What a decision may rest on: it is of the command that the PDU names, and data that come or are asked
-- for are the next of that command's, within what it wants.
use Rattle.std.specs.Prelude.{◌≡◌, ◌≤◌, ◌+◌, ◌%◌, ℕ, true, Option, Some, None}
use Rattle.pdu_codec.specs.declared.r2t.R2t.{R2t}
use Rattle.host_driver.specs.declared.decision.HostDecision.{HostDecision}
use Rattle.host_driver.specs.declared.decision.HostDecision.TheVariants as decision
use Rattle.host_driver.specs.declared.outstanding.Outstanding.{Outstanding}
use Rattle.host_driver.specs.declared.phase.TransportLimits.{TransportLimits}
use Rattle.host_driver.specs.Decision.{is_success}

-- so many bytes are the next of that command's data
abbrev pub Fits : Option Outstanding → ℕ → Type 0
Fits None carried = ⊥
Fits (Some command) carried = command.came + carried ≤ command.into

-- .. and the last
abbrev pub Fills : Option Outstanding → ℕ → Type 0
Fills None carried = ⊥
Fills (Some command) carried = command.came + carried ≡ command.into

-- what is asked for are the next of that command's data
abbrev pub IsNext : Option Outstanding → R2t → Type 0
IsNext None request = ⊥
IsNext (Some command) request = (request.r2to ≡ command.asked) × (command.asked + request.r2tl ≤ command.out)

-- limits that a controller may set
abbrev pub AreLimits : TransportLimits → Type 0
AreLimits limits = (limits.cpda ≤ 31) × (4096 ≤ limits.maxh2cdata) × (limits.maxh2cdata % 4 ≡ 0)

-- a decision on a PDU that carries so many bytes of data
abbrev pub IsWithin : Option Outstanding → ℕ → HostDecision → Type 0
IsWithin command carried (decision.Initialize limits) = AreLimits limits
IsWithin command carried (decision.Receive cid) = Fits command carried
IsWithin command carried (decision.ReceiveLast cid) = Fills command carried
IsWithin command carried (decision.Send request) = IsNext command request
IsWithin command carried _ = Unit {0}

-- as many bytes came of a command as it wants
abbrev pub HasAll : Option Outstanding → Type 0
HasAll None = ⊥
HasAll (Some command) = command.into ≤ command.came

-- a command is completed with success once all of its data came
abbrev pub IsInTime : Option Outstanding → HostDecision → Type 0
IsInTime command (decision.Complete response) = is_success response.status ≡ true → HasAll command
IsInTime command _ = Unit {0}

-- a decision on a PDU that names this command
abbrev pub Names : Option ℕ → HostDecision → Type 0
Names named (decision.Receive cid) = named ≡ Some cid
Names named (decision.ReceiveLast cid) = named ≡ Some cid
Names named (decision.Complete response) = named ≡ Some response.cid
Names named (decision.Send request) = named ≡ Some request.cccid
Names named _ = Unit {0}
