-- What is done with what ports hand out, beside what the ports tell of it.
use Rattle.std.specs.Prelude.{◌≡◌, ◌<◌, ℕ, List, Option, Some, None, Result, MatchOption, slice_index_or}
use Rattle.edit_lines.specs.declared.line.NotMade.{NotMade}
use Rattle.edit_lines.specs.Line.{IsRefused, MakesLine}
use Rattle.tables.specs.NumberTable.{place}
use Rattle.nvt_serve.specs.declared.asking.Counted.{Counted}
use Rattle.nvt_serve.specs.declared.asking.Counted.TheVariants as counted
use Rattle.nvt_serve.specs.declared.ties.Ties.{Ties}
use Rattle.nvt_ports.specs.Told.{PortsState, TellsMore, Told}
use Rattle.nvt_serve.specs.Deed.{ClosedSlot, IsRefusedBy, Serving, Stays, made_to, refused_by}
use Rattle.nvt_serve.specs.Looks.{Opens, Receives, Unties}
use Rattle.nvt_serve.specs.Served.{Numbers}
use Rattle.target_core.specs.declared.fault.NoConn.{NoConn}
use Rattle.target_core.specs.declared.fault.OpenFault.{OpenFault}
use Rattle.target_core.specs.Transition.{Transition}
use Rattle.target_core.specs.Target.{ReceivesAt, TargetState, free_number, open_fault, room_at}
use Rattle.target_history.specs.Event.{given_up, opened}

-- the ports were asked once, and this came of it
abbrev pub numbers_by : Counted → Numbers
numbers_by counted.Opened = record { asked = 1; opened = 1; edits = 0; refused = 0 }
numbers_by counted.Edited = record { asked = 1; opened = 0; edits = 1; refused = 0 }
numbers_by counted.Refused = record { asked = 1; opened = 0; edits = 0; refused = 1 }
numbers_by counted.Nothing = record { asked = 1; opened = 0; edits = 0; refused = 0 }

-- ---- room

abbrev pub room_of_slot : TargetState → Option ℕ → ℕ
room_of_slot t None = 0
room_of_slot t (Some k) = room_at (place t.streams k) (place t.connections k)

-- how many bytes the connection of each slot may receive
abbrev pub HasRooms : List ℕ → TargetState → Ties → Type 0
HasRooms rooms t ties = (slot : ℕ) → slice_index_or rooms slot 0 ≡ room_of_slot t (place ties.connections slot)

-- ---- hosts that connect

-- a connection is opened in a slot
pub record OpensIn (slot port : ℕ) (old new : Serving) (before after : Ties) : Type 0 where
  pub number : ℕ
  pub accepted : open_fault old.target port ≡ None
  pub within : number < 64
  pub free : free_number old.target ≡ Some number
  pub transition : Transition (opened port number) old.target new.target
  pub ports : new.ports ≡ old.ports
  pub opens : Opens slot number (room_at (place new.target.streams number) (place new.target.connections number)) before after

-- or it is refused, and the slot closed
pub record RefusesIn (slot port : ℕ) (old new : Serving) (before after : Ties) : Type 0 where
  pub fault : OpenFault
  pub why : IsRefusedBy (open_fault old.target port) fault
  pub stays : Stays old new
  pub ports : ClosedSlot slot old.ports new.ports
  pub ties : after ≡ before

abbrev pub OpensBy : ℕ → ℕ → Counted → Serving → Serving → Ties → Ties → Type 0
OpensBy slot port counted.Opened old new before after = OpensIn slot port old new before after
OpensBy slot port counted.Refused old new before after = RefusesIn slot port old new before after
OpensBy slot port counted.Edited old new before after = ⊥
OpensBy slot port counted.Nothing old new before after = ⊥

-- ---- bytes

-- a connection receives as many of these bytes as it has room for
pub record ReceivesOf (slot k : ℕ) (bytes : List ℕ) (old new : TargetState) (before after : Ties) : Type 0 where
  pub result : Result ℕ NoConn
  pub receives : ReceivesAt k (place old.streams k) (place old.connections k) old bytes result new
  pub ties : Receives slot k (room_at (place new.streams k) (place new.connections k)) before after

-- the connection of a slot does
abbrev pub ReceivesIn : ℕ → Option ℕ → List ℕ → TargetState → TargetState → Ties → Ties → Type 0
ReceivesIn slot None bytes old new before after = (new ≡ old) × (after ≡ before)
ReceivesIn slot (Some k) bytes old new before after = ReceivesOf slot k bytes old new before after

-- ---- hosts that are gone

-- the connection of a slot is given up
pub record EndsIn (slot k : ℕ) (old new : Serving) (before after : Ties) : Type 0 where
  pub transition : MatchOption (place old.target.connections k) (new.target ≡ old.target) (λ c. Transition (given_up k) old.target new.target)
  pub unties : Unties slot k before after

abbrev pub EndsBy : ℕ → Option ℕ → Serving → Serving → Ties → Ties → Type 0
EndsBy slot None old new before after = (new.target ≡ old.target) × (after ≡ before)
EndsBy slot (Some k) old new before after = EndsIn slot k old new before after

-- .. and the slot is closed
abbrev pub EndsSlot : ℕ → Option ℕ → Serving → Serving → Ties → Ties → Type 0
EndsSlot slot o old new before after = EndsBy slot o old new before after × ClosedSlot slot old.ports new.ports

-- ---- lines

-- ports are told what became of a line
pub record Answers (answer : Told → Told) (old new : PortsState) : Type 0 where
  pub told : TellsMore answer old.told new.told
  pub in_use : new.in_use ≡ old.in_use
  pub faults : new.faults ≡ old.faults

-- the edit of a line is made, and these ports told, or it is refused
pub record MakesEdit (line : List ℕ) (p q : PortsState) (old new : TargetState) : Type 0 where
  pub makes : MakesLine line old new
  pub answers : Answers (made_to new.config) p q

pub record RefusesEdit (line : List ℕ) (p q : PortsState) (old new : TargetState) : Type 0 where
  pub why : NotMade
  pub refuses : IsRefused old.config line why
  pub stays : new ≡ old
  pub answers : Answers (refused_by why) p q

abbrev pub EditsBy : List ℕ → Counted → PortsState → PortsState → TargetState → TargetState → Type 0
EditsBy line counted.Edited p q old new = MakesEdit line p q old new
EditsBy line counted.Refused p q old new = RefusesEdit line p q old new
EditsBy line counted.Opened p q old new = ⊥
EditsBy line counted.Nothing p q old new = ⊥
