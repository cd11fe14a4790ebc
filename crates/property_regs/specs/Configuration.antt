-- The fields of Controller Configuration, CC (Base 2.0, section 3.1.3.5).
use Rattle.std.specs.Prelude.{ℕ, ◌/◌, ◌%◌, ◌^◌, Bool, not, ◌==◌, ◌&&◌, if◌then◌else◌}
use Rattle.property_regs.specs.declared.kind.ControllerKind.{ControllerKind}
use Rattle.property_regs.specs.declared.kind.ControllerKind.TheVariants.{Discovery, Io}
use Rattle.property_regs.specs.declared.status.Enabling.{Enabling}
use Rattle.property_regs.specs.declared.status.Enabling.TheVariants.{Ready, Failed}

-- EN, bit 0
abbrev pub is_enabled : ℕ → Bool
is_enabled cc = cc % 2 == 1

-- SHN, bits 15:14: each value but 0 asks for a shutdown
abbrev pub asks_shutdown : ℕ → Bool
asks_shutdown cc = not (cc / 2 ^ 14 % 2 ^ 2 == 0)

-- IOSQES, bits 19:16, and IOCQES, bits 23:20: entries of 2 ^ 6 bytes and of 2 ^ 4 bytes
abbrev pub has_standard_entry_sizes : ℕ → Bool
has_standard_entry_sizes cc = (cc / 2 ^ 16 % 2 ^ 4 == 6) && (cc / 2 ^ 20 % 2 ^ 4 == 4)

-- what becomes of a controller that is enabled by this value: without I/O queues it looks at no entry sizes
abbrev pub enabling_by : ControllerKind → ℕ → Enabling
enabling_by Discovery cc = Ready
enabling_by Io cc = if has_standard_entry_sizes cc then Ready else Failed
