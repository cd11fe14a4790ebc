-- NVMe qualified names (Base 2.0, section 4.5), within this project's limits.
use Rattle.std.specs.Prelude.{◌≡◌, ℕ, Bool, ◌==◌, ◌&&◌, nat_eq, nat_lt, nat_le, List, length, take, position, unwrap_or, codes, Option, Some, None, if◌then◌else◌}
use Rattle.std.specs.Char.{is_ascii_graphic}
use Rattle.std.specs.List.{starts_with, list_all}
use Rattle.nvt_fields.specs.declared.name.NqnFault.{NqnFault}
use Rattle.nvt_fields.specs.declared.name.NqnFault.TheVariants.{TooLong, BadNqn}

-- five bytes or more that begin with `nqn.`, each from 21h to 7Eh
abbrev pub is_name : List ℕ → Bool
is_name text = nat_le 5 (length text) && (starts_with nat_eq text (codes "nqn.") && list_all is_ascii_graphic text)

-- why the text is no name, if it is none
abbrev pub fault_of : List ℕ → Option NqnFault
fault_of text =
    if nat_lt 223 (length text) then Some TooLong else
    if is_name text then None else Some BadNqn

-- the discovery subsystem's name
abbrev pub discovery_nqn : List ℕ
discovery_nqn = codes "nqn.2014-08.org.nvmexpress.discovery"

abbrev pub IsName : List ℕ → Type 0
IsName text = fault_of text ≡ None

-- a field's text: the bytes before its first zero byte, or all of them
abbrev pub up_to_zero : List ℕ → List ℕ
up_to_zero field = take (unwrap_or (position (λ b. b == 0) field) (length field)) field
