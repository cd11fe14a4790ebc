-- The I/O commands, by their opcode (NVM Command Set 1.0, section 3).
use Rattle.std.specs.Prelude.{ℕ, ◌==◌, Option, Some, None, if◌then◌else◌}
use Rattle.io_queue.specs.declared.opcode.IoOpcode.{IoOpcode}
use Rattle.io_queue.specs.declared.opcode.IoOpcode.TheVariants.{Flush, Write, Read, Compare, WriteZeroes}

abbrev pub opcode_of_code : ℕ → Option IoOpcode
opcode_of_code code =
    if code == 0x00 then Some Flush else
    if code == 0x01 then Some Write else
    if code == 0x02 then Some Read else
    if code == 0x05 then Some Compare else
    if code == 0x08 then Some WriteZeroes else
    None
