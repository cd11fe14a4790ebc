-- The sizes of properties.
use Rattle.std.specs.Prelude.{ℕ, ◌%◌, Bool, ◌==◌}
use Rattle.property_regs.specs.declared.size.PropertySize.{PropertySize}
use Rattle.property_regs.specs.declared.size.PropertySize.TheVariants.{FourBytes, EightBytes}

-- whether the attributes of a Property Get or Set name the size in bits 2:0; all their values from 2 on name none
abbrev pub is_named_by : ℕ → PropertySize → Bool
is_named_by attrib FourBytes = attrib % 8 == 0
is_named_by attrib EightBytes = attrib % 8 == 1
