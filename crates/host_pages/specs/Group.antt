-- One group of an Asymmetric Namespace Access log page (Base 2.0, section 5.16.1.13, ANA group descriptor).
use Rattle.std.specs.Prelude.{◌≡◌, ℕ, ◌+◌, ◌*◌, ◌%◌, List, length, drop, slice_index}
use Rattle.nvt_fields.specs.Field.{field_at}
use Rattle.host_pages.specs.Numbers.{numbers_of}

-- the identifier of the ANA group, which a namespace tells as ANAGRPID
abbrev pub id_of : List ℕ → ℕ
id_of group = field_at 4 0 group

-- how many identifiers follow: none in a read of groups only (RGO), whatever the group holds
abbrev pub nsid_count : List ℕ → ℕ
nsid_count group = field_at 4 4 group

-- the group's own count: a change of another group does not move it
abbrev pub change_of : List ℕ → ℕ
change_of group = field_at 8 8 group

-- bits 3:0 of byte 16
abbrev pub state_of : List ℕ → ℕ
state_of group = slice_index group 16 % 16

-- behind the 32 bytes of its head
abbrev pub nsids_of : List ℕ → List ℕ
nsids_of group = numbers_of (nsid_count group) (drop 32 group)

-- its length, or that of the group in front of more bytes
abbrev pub group_len : List ℕ → ℕ
group_len bytes = 32 + 4 * nsid_count bytes

-- as many bytes as it says
abbrev pub IsGroup : List ℕ → Type 0
IsGroup group = length group ≡ group_len group
