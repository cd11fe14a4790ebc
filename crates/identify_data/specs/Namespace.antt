-- What is told of a namespace: the Identify Namespace data structure (NVM Command Set 1.0, section 4.1.5.1).
use Rattle.std.specs.Prelude.{ℕ, ◌*◌, ◌^◌, List, [], ◌∷◌, Option, Some, None}
use Rattle.config_lists.specs.declared.namespace.BlockSize.{BlockSize}
use Rattle.config_lists.specs.declared.namespace.BlockSize.TheVariants.{Bytes512, Bytes4096}
use Rattle.config_lists.specs.declared.namespace.Namespace.{Namespace}
use Rattle.identify_data.specs.Fields.{Field, at, byte, dword, qword, table}

-- LBADS: a block has 2 to this power of bytes
abbrev pub lbads_of : BlockSize → ℕ
lbads_of Bytes512 = 9
lbads_of Bytes4096 = 12

-- sizes are numbers of blocks
abbrev pub namespace_fields : Namespace → List Field
namespace_fields n =
    at 0 (qword n.blocks)  -- NSZE
    ∷ at 8 (qword n.blocks)  -- NCAP
    ∷ at 16 (qword n.blocks)  -- NUSE
    ∷ at 26 (byte 0)  -- FLBAS
    ∷ at 30 (byte 1)  -- NMIC
    ∷ at 92 (dword n.group)  -- ANAGRPID
    ∷ at 128 (dword (lbads_of n.block_size * 2 ^ 16))  -- LBAF0, with LBADS in bits 23:16
    ∷ []

-- zeros for an identifier that no namespace has
unfoldable pub namespace_data : Option Namespace → List ℕ
namespace_data (Some n) = table (namespace_fields n)
namespace_data None = table []
