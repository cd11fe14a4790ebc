-- The properties of a controller, and how a Property Set changes them (Base 2.0, sections 3.1.3, 6.5 and 6.6).
use Rattle.std.specs.Prelude.{ℕ, ◌+◌, ◌%◌, ◌^◌, Bool, true, false, not, ◌==◌, ◌&&◌, Option, Some, None, Result, Ok, Err, if◌then◌else◌}
use Rattle.property_regs.specs.declared.kind.ControllerKind.{ControllerKind}
use Rattle.property_regs.specs.declared.regs.Change.{Change}
use Rattle.property_regs.specs.declared.regs.Change.TheVariants.{Reset, Enable, Shutdown, Stay}
use Rattle.property_regs.specs.declared.regs.InvalidField.{InvalidField}
use Rattle.property_regs.specs.declared.regs.Regs.{Regs}
use Rattle.property_regs.specs.declared.size.PropertySize.{PropertySize}
use Rattle.property_regs.specs.declared.size.PropertySize.TheVariants.{FourBytes, EightBytes}
use Rattle.property_regs.specs.declared.status.Enabling.{Enabling}
use Rattle.property_regs.specs.declared.status.Enabling.TheVariants.{Disabled}
use Rattle.property_regs.specs.declared.status.ShutdownStatus.{ShutdownStatus}
use Rattle.property_regs.specs.declared.status.ShutdownStatus.TheVariants.{Normal, Complete}
use Rattle.property_regs.specs.Configuration.{asks_shutdown, enabling_by, is_enabled}
use Rattle.property_regs.specs.Size.{is_named_by}
use Rattle.property_regs.specs.Status.{bits_of_enabling, bits_of_shutdown, has_risen, is_complete}

-- Controller Configuration and Controller Status are 0
abbrev pub regs_at_connect : ControllerKind → Regs
regs_at_connect kind = record { kind = kind; cc = 0; enabling = Disabled; shutdown = Normal }

-- whether the controller processes commands: RDY 1, CFS 0, SHST 0
abbrev pub is_ready : Regs → Bool
is_ready r = has_risen r.enabling && not (is_complete r.shutdown)

abbrev pub controller_status : Regs → ℕ
controller_status r = bits_of_enabling r.enabling + bits_of_shutdown r.shutdown

-- the offset of Controller Configuration
abbrev pub cc_at : ℕ
cc_at = 0x14

-- what stands at an offset: a size and a value
abbrev pub property_at : Regs → ℕ → Option (PropertySize × ℕ)
property_at r offset =
    if offset == 0x00 then Some (EightBytes, 0x080000200201003F) else
    if offset == 0x08 then Some (FourBytes, 0x00020000) else
    if offset == cc_at then Some (FourBytes, r.cc) else
    if offset == 0x1C then Some (FourBytes, controller_status r) else
    if offset == 0x68 then Some (FourBytes, 0x00000002) else None

abbrev pub invalid_field : InvalidField
invalid_field = record {}

abbrev pub value_of_size : Option (PropertySize × ℕ) → ℕ → Result ℕ InvalidField
value_of_size None attrib = Err invalid_field
value_of_size (Some found) attrib = if is_named_by attrib found.0 then Ok found.1 else Err invalid_field

-- what a Property Get is answered
abbrev pub property_get : Regs → ℕ → ℕ → Result ℕ InvalidField
property_get r offset attrib = value_of_size (property_at r offset) attrib

-- RDY and CFS, as EN goes from one value to another
abbrev pub enabling_after : Bool → Bool → Regs → ℕ → Enabling
enabling_after false true r cc = enabling_by r.kind cc
enabling_after true false r cc = Disabled
enabling_after false false r cc = r.enabling
enabling_after true true r cc = r.enabling

-- SHST, as EN goes from one value to another
abbrev pub shutdown_after : Bool → Bool → Regs → ShutdownStatus
shutdown_after false true r = Normal
shutdown_after true false r = Normal
shutdown_after false false r = r.shutdown
shutdown_after true true r = r.shutdown

-- Controller Configuration is set to this value: first the change of EN acts, and then SHN
abbrev pub configured : Regs → ℕ → Regs
configured r cc = record {
  kind = r.kind;
  cc = cc;
  enabling = enabling_after (is_enabled r.cc) (is_enabled cc) r cc;
  shutdown = if asks_shutdown cc then Complete else shutdown_after (is_enabled r.cc) (is_enabled cc) r;
}

-- what setting this value does to the controller, the first that fits
abbrev pub change_by : Regs → ℕ → Change
change_by r cc =
    if is_enabled r.cc && not (is_enabled cc) then Reset else
    if not (has_risen r.enabling) && has_risen (configured r cc).enabling then Enable else
    if not (is_complete r.shutdown) && is_complete (configured r cc).shutdown then Shutdown else Stay

-- whether a Property Set is accepted: Controller Configuration alone can be set, by its 4 bytes
abbrev pub is_settable : ℕ → ℕ → Bool
is_settable offset attrib = (offset == cc_at) && is_named_by attrib FourBytes

-- the value that a Property Set gives to Controller Configuration
abbrev pub configuration_set : ℕ → ℕ → ℕ → Result ℕ InvalidField
configuration_set offset attrib value = if is_settable offset attrib then Ok (value % 2 ^ 32) else Err invalid_field

-- what a Property Set is answered
abbrev pub property_set : Regs → ℕ → ℕ → ℕ → Result Change InvalidField
property_set r offset attrib value = if is_settable offset attrib then Ok (change_by r (value % 2 ^ 32)) else Err invalid_field

-- the properties after a Property Set, which are as before where it is refused
abbrev pub regs_after : Regs → ℕ → ℕ → ℕ → Regs
regs_after r offset attrib value = if is_settable offset attrib then configured r (value % 2 ^ 32) else r
