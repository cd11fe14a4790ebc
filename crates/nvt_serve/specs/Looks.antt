-- What a turn does not look at: what is true of each connection that is not in a set, and of the rooms that are kept.
use Rattle.std.specs.Prelude.{◌≡◌, ℕ, Bool, false, true, List, [], Option, Some, None, is_some, slice_index_or, ◌==◌, if◌then◌else◌}
use Rattle.tables.specs.NumberTable.{place, with_value, without}
use Rattle.nvt_serve.specs.declared.ties.Ties.{Ties}
use Rattle.nvt_serve.specs.Deed.{IsSlotOf}
use Rattle.nvt_serve.specs.Sets.{Joins, SetsBit, is_in}
use Rattle.target_core.specs.Connection.{KnownConnection}
use Rattle.target_core.specs.Target.{TargetState, is_ended_at, output_at, room_at}
use Rattle.target_decision.specs.Session.{role_in}
use Rattle.target_core.specs.Steps.{is_idle_at}

-- ---- of a connection

-- whether it is a queue of a controller: beside its own connection a step, a tick or an end ends queues alone
abbrev pub is_queue : Option KnownConnection → Bool
is_queue None = false
is_queue (Some c) = is_some (role_in c.state.session)

-- it has no output, and nothing of its stream can be consumed
pub record RestsAt (s : Option (List ℕ)) (o : Option KnownConnection) : Type 0 where
  pub output : output_at o ≡ []
  pub idle : is_idle_at s o ≡ true

abbrev pub Rests : TargetState → ℕ → Type 0
Rests t k = RestsAt (place t.streams k) (place t.connections k)

-- it may receive so many bytes, unless it has ended
abbrev pub HasRoomAt : ℕ → Option (List ℕ) → Option KnownConnection → Type 0
HasRoomAt room s o = is_ended_at o ≡ false → room ≡ room_at s o

-- ---- of the sets

-- these are known
abbrev pub AreKnown : ℕ → TargetState → Type 0
AreKnown known t = (k : ℕ) → is_in known k ≡ is_some (place t.connections k)

-- no other is a queue
abbrev pub AreActive : ℕ → TargetState → Type 0
AreActive active t = (k : ℕ) → is_in active k ≡ false → is_queue (place t.connections k) ≡ false

-- each other one rests
abbrev pub AreReady : ℕ → TargetState → Type 0
AreReady ready t = (k : ℕ) → is_in ready k ≡ false → Rests t k

-- no other has ended
abbrev pub AreEnding : ℕ → TargetState → Type 0
AreEnding ending t = (k : ℕ) → is_in ending k ≡ false → is_ended_at (place t.connections k) ≡ false

-- ---- of the rooms

abbrev pub HasRoomIn : ℕ → TargetState → Option ℕ → Type 0
HasRoomIn room t None = room ≡ 0
HasRoomIn room t (Some k) = HasRoomAt room (place t.streams k) (place t.connections k)

-- each is that of the slot's connection unless this has ended, and there is none where the slot has none
abbrev pub AreRooms : List ℕ → List (Option ℕ) → TargetState → Type 0
AreRooms rooms connections t = (slot : ℕ) → HasRoomIn (slice_index_or rooms slot 0) t (place connections slot)

abbrev pub SetsRoom : ℕ → ℕ → List ℕ → List ℕ → Type 0
SetsRoom slot room old new = (other : ℕ) → slice_index_or new other 0 ≡ (if other == slot then room else slice_index_or old other 0)

-- no two slots have one connection
abbrev pub IsAlone : List (Option ℕ) → Type 0
IsAlone connections = (slot other k : ℕ) → place connections slot ≡ Some k → place connections other ≡ Some k → slot ≡ other

-- ---- all of it

pub record AreLooks (t : TargetState) (ties : Ties) : Type 0 where
  pub known : AreKnown ties.known.bits t
  pub active : AreActive ties.active.bits t
  pub ready : AreReady ties.ready.bits t
  pub ending : AreEnding ties.ending.bits t
  pub rooms : AreRooms ties.rooms ties.connections t

-- ---- what becomes of it

-- a connection is opened in a slot, and has so much room
pub record Opens (slot k room : ℕ) (old new : Ties) : Type 0 where
  pub connections : new.connections ≡ with_value old.connections slot k
  pub placed : place new.connections slot ≡ Some k
  pub rooms : SetsRoom slot room old.rooms new.rooms
  pub known : SetsBit k true old.known.bits new.known.bits
  pub active : new.active ≡ old.active
  pub ready : new.ready ≡ old.ready
  pub ending : new.ending ≡ old.ending

-- one is given up: it is in no set that matters, and each queue may have ended with it
pub record Forgets (k : ℕ) (old new : Ties) : Type 0 where
  pub known : SetsBit k false old.known.bits new.known.bits
  pub active : SetsBit k false old.active.bits new.active.bits
  pub ready : SetsBit k false old.ready.bits new.ready.bits
  pub ending : Joins new.active.bits old.ending.bits new.ending.bits

-- .. that had this slot
pub record Unties (slot k : ℕ) (old new : Ties) : Type 0 where
  pub connections : new.connections ≡ without old.connections slot
  pub rooms : SetsRoom slot 0 old.rooms new.rooms
  pub forgets : Forgets k old new

-- .. that had none
pub record ForgetsAlone (k : ℕ) (old new : Ties) : Type 0 where
  pub connections : new.connections ≡ old.connections
  pub rooms : new.rooms ≡ old.rooms
  pub forgets : Forgets k old new

-- bytes came for the connection of a slot, which has so much room left
pub record Receives (slot k room : ℕ) (old new : Ties) : Type 0 where
  pub connections : new.connections ≡ old.connections
  pub rooms : SetsRoom slot room old.rooms new.rooms
  pub known : new.known ≡ old.known
  pub active : SetsBit k true old.active.bits new.active.bits
  pub ready : SetsBit k true old.ready.bits new.ready.bits
  pub ending : new.ending ≡ old.ending

abbrev pub SetsRoomAt : Option ℕ → ℕ → List ℕ → List ℕ → Type 0
SetsRoomAt None room old new = new ≡ old
SetsRoomAt (Some slot) room old new = SetsRoom slot room old new

-- a connection stepped, which has so much room then
pub record StepsIn (k room : ℕ) (old new : Ties) : Type 0 where
  pub connections : new.connections ≡ old.connections
  pub slot : Option ℕ
  pub tied : IsSlotOf slot k old.connections
  pub rooms : SetsRoomAt slot room old.rooms new.rooms
  pub known : new.known ≡ old.known
  pub active : SetsBit k true old.active.bits new.active.bits
  pub ready : new.ready ≡ old.ready
  pub ending : Joins new.active.bits old.ending.bits new.ending.bits

-- a connection rests
pub record RestsNow (k : ℕ) (old new : Ties) : Type 0 where
  pub connections : new.connections ≡ old.connections
  pub rooms : new.rooms ≡ old.rooms
  pub known : new.known ≡ old.known
  pub active : new.active ≡ old.active
  pub ready : SetsBit k false old.ready.bits new.ready.bits
  pub ending : new.ending ≡ old.ending

-- the clock was set: each queue may have ended
pub record Ticks (old new : Ties) : Type 0 where
  pub connections : new.connections ≡ old.connections
  pub rooms : new.rooms ≡ old.rooms
  pub known : new.known ≡ old.known
  pub active : new.active ≡ old.active
  pub ready : new.ready ≡ old.ready
  pub ending : Joins old.active.bits old.ending.bits new.ending.bits

-- an edit was made, or refused: each queue may have output, and any connection may have ended
pub record Edits (old new : Ties) : Type 0 where
  pub connections : new.connections ≡ old.connections
  pub rooms : new.rooms ≡ old.rooms
  pub known : new.known ≡ old.known
  pub active : new.active ≡ old.active
  pub ready : Joins old.active.bits old.ready.bits new.ready.bits
  pub ending : Joins old.known.bits old.ending.bits new.ending.bits

-- none has ended
pub record NoneEnds (old new : Ties) : Type 0 where
  pub connections : new.connections ≡ old.connections
  pub rooms : new.rooms ≡ old.rooms
  pub known : new.known ≡ old.known
  pub active : new.active ≡ old.active
  pub ready : new.ready ≡ old.ready
  pub ending : (k : ℕ) → is_in new.ending.bits k ≡ false

-- these are the rooms
pub record GivesRooms (given : List ℕ) (old new : Ties) : Type 0 where
  pub connections : new.connections ≡ old.connections
  pub rooms : new.rooms ≡ given
  pub known : new.known ≡ old.known
  pub active : new.active ≡ old.active
  pub ready : new.ready ≡ old.ready
  pub ending : new.ending ≡ old.ending

-- ---- what an event leaves as it was

-- what stays true of a connection that an event neither opens, gives up nor is a step of: by a tick, a step, or an end
pub record Lasts (s : Option (List ℕ)) (o : Option KnownConnection) (t : Option (List ℕ)) (p : Option KnownConnection) : Type 0 where
  pub queue : is_queue o ≡ false → is_queue p ≡ false
  pub alive : is_queue o ≡ false → is_ended_at o ≡ false → is_ended_at p ≡ false
  pub rests : RestsAt s o → RestsAt t p
  pub room : (n : ℕ) → HasRoomAt n s o → HasRoomAt n t p

abbrev pub LastsAt : ℕ → TargetState → TargetState → Type 0
LastsAt k old new = Lasts (place old.streams k) (place old.connections k) (place new.streams k) (place new.connections k)
