-- What it means that a target was served for so many turns.
use Rattle.std.specs.Prelude.{◌≡◌, ◌<◌, ◌≤◌, ℕ, ◌+◌, Bool, true, false, ◌||◌, List, [], ◌∷◌, Option, Some, None, is_some, replicate, slice_index_or, if◌then◌else◌}
use Rattle.tables.specs.NumberTable.{place}
use Rattle.nvt_ports.specs.Told.{PortsState}
use Rattle.nvt_serve.specs.declared.served.Served.{Served}
use Rattle.nvt_serve.specs.declared.ties.Ties.{Ties}
use Rattle.nvt_serve.specs.Deed.{Deed, Runs, Serving, is_asking, is_edit, is_opening, is_refusal}
use Rattle.nvt_serve.specs.Looks.{AreLooks}
use Rattle.target_core.specs.Connection.{KnownConnection}
use Rattle.target_core.specs.Target.{TargetState, is_idle}

abbrev pub count_of : (Deed → Bool) → List Deed → ℕ
count_of test [] = 0
count_of test (deed ∷ deeds) = (if test deed then 1 else 0) + count_of test deeds

-- how often ports were asked what is next, how many connections were opened, and edits made, and how many of either refused
pub record Numbers : Type 0 where
  pub asked : ℕ
  pub opened : ℕ
  pub edits : ℕ
  pub refused : ℕ

abbrev pub no_numbers : Numbers
no_numbers = record { asked = 0; opened = 0; edits = 0; refused = 0 }

-- deeds were done, so many of each kind
pub record Goes (n : Numbers) (old new : Serving) : Type 0 where
  pub deeds : List Deed
  pub runs : Runs deeds old new
  pub asked : count_of is_asking deeds ≡ n.asked
  pub opened : count_of is_opening deeds ≡ n.opened
  pub edits : count_of is_edit deeds ≡ n.edits
  pub refused : count_of is_refusal deeds ≡ n.refused

-- a target that is served, with the ties of its slots
abbrev pub serving : PortsState → TargetState → Ties → Serving
serving ports target ties = record { ports = ports; target = target; connections = ties.connections }

-- The connection of a slot is known, and no other slot has it; and the slot is in use.
pub record AreTied (s : Serving) : Type 0 where
  pub known : (slot k : ℕ) → place s.connections slot ≡ Some k → is_some (place s.target.connections k) ≡ true
  pub alone : (slot other k : ℕ) → place s.connections slot ≡ Some k → place s.connections other ≡ Some k → slot ≡ other
  pub in_use : (slot k : ℕ) → place s.connections slot ≡ Some k → slice_index_or s.ports.in_use slot false ≡ true

-- the connections of slots are of those that there may be
abbrev pub IsTiedWithin : List (Option ℕ) → Type 0
IsTiedWithin connections = (slot k : ℕ) → place connections slot ≡ Some k → k < 64

-- The ties are true of a target and its ports: so are the slots', and so is what a turn does not look at.
pub record AreTies (ports : PortsState) (target : TargetState) (ties : Ties) : Type 0 where
  pub tied : AreTied (serving ports target ties)
  pub within : IsTiedWithin ties.connections
  pub looks : AreLooks target ties

-- ---- what is left to do

abbrev pub has_bytes : List ℕ → Bool
has_bytes [] = false
has_bytes (b ∷ bytes) = true

-- a connection that is known has output, or nothing of its stream can be consumed
abbrev pub is_quiet : Option (List ℕ) → Option KnownConnection → Bool
is_quiet None o = true
is_quiet (Some held) None = true
is_quiet (Some held) (Some c) = has_bytes c.output || is_idle held c

abbrev pub IsQuietAt : TargetState → ℕ → Type 0
IsQuietAt t k = is_quiet (place t.streams k) (place t.connections k) ≡ true

abbrev pub IsQuiet : TargetState → Type 0
IsQuiet t = (k : ℕ) → IsQuietAt t k

-- ---- turns

abbrev pub numbers_of : Served → Numbers
numbers_of served = record { asked = served.turns; opened = served.opened; edits = served.edits; refused = served.refused }

-- no more was counted than there were turns
abbrev pub IsWithin : Served → Type 0
IsWithin served = served.opened + (served.edits + served.refused) ≤ served.turns

abbrev pub sum_of : Numbers → Numbers → Numbers
sum_of a b = record { asked = a.asked + b.asked; opened = a.opened + b.opened; edits = a.edits + b.edits; refused = a.refused + b.refused }

-- deeds were done, and counted
pub record GoesOn (before after : Served) (old new : Serving) : Type 0 where
  pub numbers : Numbers
  pub goes : Goes numbers old new
  pub counted : numbers_of after ≡ sum_of (numbers_of before) numbers

-- So many turns were served, from a target none of whose connections had a slot: deeds were done, and counted; and where no
-- step of the last turn wanted memory, each connection has output, or nothing of its stream can be consumed.
pub record Serves (turns : ℕ) (served : Served) (ports after : PortsState) (old new : TargetState) : Type 0 where
  pub number : served.turns ≡ turns
  pub connections : List (Option ℕ)
  pub goes : Goes (numbers_of served) (record { ports = ports; target = old; connections = replicate 64 None })
      (record { ports = after; target = new; connections = connections })
  pub quiet : 0 < turns → served.memory ≡ 0 → IsQuiet new
