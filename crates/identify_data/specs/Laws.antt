-- Laws of the data structures, in the words of the subject.
use Rattle.std.specs.Prelude.{◌≡◌, ℕ, ◌+◌, ◌*◌, ◌^◌, ◌<◌, ◌≤◌, ◌⊎◌, List, length, replicate, slice_index, slice_range, Some, None}
use Rattle.std.specs.List.{AllByRecursion}
use Rattle.config_lists.specs.declared.namespace.Namespace.{Namespace}
use Rattle.config_lists.specs.Namespace.{bytes_of}
use Rattle.nvt_fields.specs.Field.{field_at}
use Rattle.nvt_fields.specs.Name.{IsName, up_to_zero}
use Rattle.identify_data.specs.Controller.{Controller, TextsFit, by_kind, cntlid_of, controller_data, controller_fields, subnqn_of}
use Rattle.identify_data.specs.Descriptors.{descriptor_fields, descriptor_list}
use Rattle.identify_data.specs.Fields.{Field}
use Rattle.identify_data.specs.Namespace.{namespace_data, namespace_fields}

-- the bytes at the field's place are the field's
abbrev pub IsFound : List ℕ → Field → Type 0
IsFound structure f = slice_range structure f.offset (f.offset + length f.bytes) ≡ f.bytes

-- the place is not the field's
abbrev pub IsOutside : ℕ → Field → Type 0
IsOutside place f = (place < f.offset) ⊎ (f.offset + length f.bytes ≤ place)

-- the structure has 4,096 bytes; each field is found at its place, and each byte outside all of them is zero
pub record Shows (fields : List Field) (structure : List ℕ) : Type 0 where
  pub size : length structure ≡ 4096
  pub found : AllByRecursion (IsFound structure) fields
  pub zeros : (place : ℕ) → AllByRecursion (IsOutside place) fields → slice_index structure place ≡ 0

-- each data structure shows its fields, and nothing else
pub record FieldsAreFound : Type 0 where
  pub controllers : (c : Controller) → TextsFit c → Shows (controller_fields c) (controller_data c)
  pub namespaces : (n : Namespace) → Shows (namespace_fields n) (namespace_data (Some n))
  pub no_namespace : namespace_data None ≡ replicate 4096 0
  pub descriptors : (n : Namespace) → length n.uuid ≡ 16 → Shows (descriptor_fields n) (descriptor_list n)

-- What a host reads where the standards say: of a controller its identifier, its kind and its subsystem's name; of a
-- namespace its size, NSZE blocks of 2 to the power LBADS bytes, its ANA group and its UUID.
pub record HostsReadBack : Type 0 where
  pub cntlid : (c : Controller) → TextsFit c → cntlid_of c < 2 ^ 16 → field_at 2 78 (controller_data c) ≡ cntlid_of c
  pub cntrltype : (c : Controller) → TextsFit c → slice_index (controller_data c) 111 ≡ by_kind c 1 2
  pub subnqn : (c : Controller) → TextsFit c → IsName (subnqn_of c) → up_to_zero (slice_range (controller_data c) 768 1024) ≡ subnqn_of c
  pub size : (n : Namespace) → n.blocks < 2 ^ 64
      → field_at 8 0 (namespace_data (Some n)) * 2 ^ slice_index (namespace_data (Some n)) 130 ≡ n.blocks * bytes_of n.block_size
  pub group : (n : Namespace) → n.group < 2 ^ 32 → field_at 4 92 (namespace_data (Some n)) ≡ n.group
  pub uuid : (n : Namespace) → length n.uuid ≡ 16 → slice_range (descriptor_list n) 4 20 ≡ n.uuid
