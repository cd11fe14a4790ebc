-- The Asymmetric Namespace Access log page (Base 2.0, section 5.16.1.13).
use Rattle.std.specs.Prelude.{ℕ, Bool, List, [], ◌∷◌, ◌++◌, length, replicate, if◌then◌else◌}
use Rattle.std.specs.Int.{w16, w32, w64, to_le_bytes}
use Rattle.std.specs.List.{flat_map}
use Rattle.ana_view.specs.Counts.{Counts, count_in}
use Rattle.ana_view.specs.Group.{Descriptor, state_code}

-- the first 32 bytes of a descriptor: the group, its number of identifiers, its change count, and its state
unfoldable pub descriptor_head : ℕ → ℕ → ℕ → ℕ → List ℕ
descriptor_head id count changes state =
    to_le_bytes w32 id ++ to_le_bytes w32 count ++ to_le_bytes w64 changes ++ state ∷ replicate 15 0

-- 4 bytes for each identifier
abbrev pub nsid_bytes : List ℕ → List ℕ
nsid_bytes nsids = flat_map (to_le_bytes w32) nsids

-- the identifiers that a descriptor has: none where groups alone are asked for (Return Groups Only)
abbrev pub nsids_told : Bool → List ℕ → List ℕ
nsids_told groups_only nsids = if groups_only then [] else nsids

abbrev pub descriptor_bytes : Bool → Counts → Descriptor → List ℕ
descriptor_bytes groups_only counts g =
    descriptor_head g.id (length (nsids_told groups_only g.nsids)) (count_in counts.groups g.id) (state_code g.state) ++ nsid_bytes (nsids_told groups_only g.nsids)

-- a header of 16 bytes, with the change count and the number of descriptors, and the descriptors after it
unfoldable pub ana_page : Bool → Counts → List Descriptor → List ℕ
ana_page groups_only counts groups =
    to_le_bytes w64 counts.changes ++ to_le_bytes w16 (length groups) ++ replicate 6 0 ++ flat_map (descriptor_bytes groups_only counts) groups
