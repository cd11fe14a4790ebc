-- The fields of Controller Status, CSTS (Base 2.0, section 3.1.3.6).
use Rattle.std.specs.Prelude.{ℕ, ◌*◌, ◌^◌, Bool, true, false}
use Rattle.property_regs.specs.declared.status.Enabling.{Enabling}
use Rattle.property_regs.specs.declared.status.Enabling.TheVariants.{Disabled, Ready, Failed}
use Rattle.property_regs.specs.declared.status.ShutdownStatus.{ShutdownStatus}
use Rattle.property_regs.specs.declared.status.ShutdownStatus.TheVariants.{Normal, Complete}

-- RDY in bit 0, CFS in bit 1
abbrev pub bits_of_enabling : Enabling → ℕ
bits_of_enabling Disabled = 0
bits_of_enabling Ready = 2 ^ 0
bits_of_enabling Failed = 2 ^ 1

-- SHST in bits 3:2, where 2 says that the shutdown is complete
abbrev pub bits_of_shutdown : ShutdownStatus → ℕ
bits_of_shutdown Normal = 0
bits_of_shutdown Complete = 2 * 2 ^ 2

-- whether RDY is 1
abbrev pub has_risen : Enabling → Bool
has_risen Disabled = false
has_risen Ready = true
has_risen Failed = false

-- whether SHST is 2
abbrev pub is_complete : ShutdownStatus → Bool
is_complete Normal = false
is_complete Complete = true
