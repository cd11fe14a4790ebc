-- Laws of the properties, over all that was set since a controller was made.
use Rattle.std.specs.Prelude.{◌≡◌, ℕ, ◌%◌, ◌^◌, Bool, true, false, not, ◌||◌, ◌&&◌, List, [], ◌∷◌, Option, Some, None, unwrap_or, if◌then◌else◌}
use Rattle.property_regs.specs.declared.kind.ControllerKind.{ControllerKind}
use Rattle.property_regs.specs.declared.regs.Change.{Change}
use Rattle.property_regs.specs.declared.regs.Change.TheVariants.{Reset, Enable, Shutdown, Stay}
use Rattle.property_regs.specs.declared.regs.Regs.{Regs}
use Rattle.property_regs.specs.Configuration.{asks_shutdown, enabling_by, is_enabled}
use Rattle.property_regs.specs.Regs.{change_by, configured, is_ready, is_settable, regs_after, regs_at_connect}
use Rattle.property_regs.specs.Status.{has_risen}

-- a Property Set
pub record PropertySet : Type 0 where
  pub offset : ℕ
  pub attrib : ℕ
  pub value : ℕ

-- the properties after these Sets, the newest of them first, refused ones among them
abbrev pub regs_since_connect : ControllerKind → List PropertySet → Regs
regs_since_connect kind [] = regs_at_connect kind
regs_since_connect kind (s ∷ before) = regs_after (regs_since_connect kind before) s.offset s.attrib s.value

-- the values that they gave to Controller Configuration, the newest first
abbrev pub values_set : List PropertySet → List ℕ
values_set [] = []
values_set (s ∷ before) = if is_settable s.offset s.attrib then s.value % 2 ^ 32 ∷ values_set before else values_set before

-- the value that enabled the controller, where it is enabled: the oldest with EN 1 since EN was last 0
abbrev pub enabled_by : List ℕ → Option ℕ
enabled_by [] = None
enabled_by (cc ∷ before) = if is_enabled cc then Some (unwrap_or (enabled_by before) cc) else None

-- whether a shutdown was asked for by that value, or since
abbrev pub was_shut_down : List ℕ → Bool
was_shut_down [] = false
was_shut_down (cc ∷ before) = is_enabled cc && (asks_shutdown cc || was_shut_down before)

-- whether a controller of this kind takes the value that enabled it
abbrev pub is_taken : ControllerKind → Option ℕ → Bool
is_taken kind None = false
is_taken kind (Some cc) = has_risen (enabling_by kind cc)

-- a controller is ready exactly where it is enabled, by a value that it takes, and no shutdown was asked for since
pub record ReadinessIsAsSet : Type 0 where
  pub ready : (kind : ControllerKind) (sets : List PropertySet)
      → is_ready (regs_since_connect kind sets) ≡ is_taken kind (enabled_by (values_set sets)) && not (was_shut_down (values_set sets))

-- whether a change may make a controller ready, and whether it may take that away
abbrev pub makes_ready : Change → Bool
makes_ready Enable = true
makes_ready Reset = false
makes_ready Shutdown = false
makes_ready Stay = false

abbrev pub ends_readiness : Change → Bool
ends_readiness Enable = false
ends_readiness Reset = true
ends_readiness Shutdown = true
ends_readiness Stay = false

-- readiness comes by an Enable, and goes by a Reset or a Shutdown
pub record ChangesTellOfReadiness : Type 0 where
  pub comes : (kind : ControllerKind) (sets : List PropertySet) (cc : ℕ) → is_ready (regs_since_connect kind sets) ≡ false
      → is_ready (configured (regs_since_connect kind sets) cc) ≡ true → makes_ready (change_by (regs_since_connect kind sets) cc) ≡ true
  pub goes : (kind : ControllerKind) (sets : List PropertySet) (cc : ℕ) → is_ready (regs_since_connect kind sets) ≡ true
      → is_ready (configured (regs_since_connect kind sets) cc) ≡ false → ends_readiness (change_by (regs_since_connect kind sets) cc) ≡ true
