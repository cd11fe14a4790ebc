-- The serial numbers of a configuration's subsystems fit their field.
use Rattle.std.proofs.Common.{◌≤◌, ◌&&◌, not, IsTrue, length, nat_le}
use Rattle.std.specs.Char.{is_ascii_graphic}
use Rattle.std.specs.List.{list_all}
use Rattle.std.proofs.lemmas.Bool.{and_parts, leb-true}
use Rattle.config_lists.specs.declared.subsystem.Subsystem.{Subsystem}
use Rattle.config_lists.specs.Subsystem.{is_discovery, is_serial, is_subsystem}

pub serial_fits : (s : Subsystem) → IsTrue (is_subsystem s) → length s.serial ≤ 20
serial_fits s sound =
    let serial = (and_parts (not (is_discovery s.nqn)) (is_serial s.serial) sound).1 in
    let long = (and_parts (nat_le 1 (length s.serial)) (nat_le (length s.serial) 20 && list_all is_ascii_graphic s.serial) serial).1 in
    leb-true (length s.serial) 20 (and_parts (nat_le (length s.serial) 20) (list_all is_ascii_graphic s.serial) long).0
