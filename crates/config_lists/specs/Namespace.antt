-- What a namespace may hold (Base 2.0, section 3.2.1).
use Rattle.std.specs.Prelude.{ℕ, ◌==◌, Bool, true, false, ◌&&◌, nat_le, List, Option, Some, None, if◌then◌else◌}
use Rattle.std.specs.Str.{bytes_eq}
use Rattle.config_lists.specs.declared.namespace.BlockSize.{BlockSize}
use Rattle.config_lists.specs.declared.namespace.BlockSize.TheVariants.{Bytes512, Bytes4096}
use Rattle.config_lists.specs.declared.namespace.Namespace.{Namespace}
use Rattle.config_lists.specs.declared.namespace.Setting.{Setting}
use Rattle.config_lists.specs.declared.namespace.Setting.TheVariants.{Blocks, Group, Visibility as VisibilitySet}
use Rattle.config_lists.specs.declared.namespace.Visibility.{Visibility}
use Rattle.config_lists.specs.declared.namespace.Visibility.TheVariants.{All, Named}

-- the greatest identifier that a namespace may have
abbrev pub nsid_max : ℕ
nsid_max = 4096

-- a namespace's identifier
abbrev pub is_nsid : ℕ → Bool
is_nsid n = nat_le 1 n && nat_le n nsid_max

-- the identifier of an ANA group
abbrev pub is_group : ℕ → Bool
is_group n = nat_le 1 n && nat_le n 32

-- a block is one unit of a disk, or eight; `block_size_of` reads it back
abbrev pub bytes_of : BlockSize → ℕ
bytes_of Bytes512 = 512
bytes_of Bytes4096 = 4096

-- the block size of so many bytes
abbrev pub block_size_of : ℕ → Option BlockSize
block_size_of n = if n == 512 then Some Bytes512 else if n == 4096 then Some Bytes4096 else None

-- whether each host sees it, whatever shows there are
abbrev pub is_for_all : Visibility → Bool
is_for_all All = true
is_for_all Named = false

-- whether it is the namespace of this subsystem and this identifier
abbrev pub is_named : List ℕ → ℕ → Namespace → Bool
is_named subsystem nsid n = bytes_eq n.subsystem subsystem && (n.nsid == nsid)

-- the namespace after one of its values is set
abbrev pub with_setting : Setting → Namespace → Namespace
with_setting (Blocks blocks) n = record n { blocks = blocks }
with_setting (Group group) n = record n { group = group }
with_setting (VisibilitySet visibility) n = record n { visibility = visibility }
