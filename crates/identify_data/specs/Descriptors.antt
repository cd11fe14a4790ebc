-- What identifies a namespace: the Namespace Identification Descriptor list (Base 2.0, section 5.17.2.3).
use Rattle.std.specs.Prelude.{ℕ, List, [], ◌∷◌}
use Rattle.config_lists.specs.declared.namespace.Namespace.{Namespace}
use Rattle.identify_data.specs.Fields.{Field, at, byte, table}

-- one descriptor: a UUID, its bytes in the order of its text
abbrev pub descriptor_fields : Namespace → List Field
descriptor_fields n =
    at 0 (byte 0x03)  -- NIDT
    ∷ at 1 (byte 0x10)  -- NIDL
    ∷ at 4 n.uuid  -- NID
    ∷ []

unfoldable pub descriptor_list : Namespace → List ℕ
descriptor_list n = table (descriptor_fields n)
