-- What follows from the definitions of this crate, in the words of the subject.
use Rattle.std.specs.Prelude.{◌≡◌, ◌==◌, ◌<◌, ◌^◌, ℕ, Bool, true, false, List, [], ◌∷◌, ◌++◌, All, length, replicate, take}
use Rattle.std.specs.Int.{w32, to_le_bytes}
use Rattle.std.specs.List.{flat_map}
use Rattle.host_pages.specs.DiscoveryPage.{IsDiscoveryPage, records_of}
use Rattle.host_pages.specs.Group.{IsGroup}
use Rattle.host_pages.specs.Groups.{groups_in, holds_groups}
use Rattle.host_pages.specs.NsList.{all_namespaces, is_overflowed, nsids_listed}

-- the bytes of these, one after another
abbrev pub joined : List (List ℕ) → List ℕ
joined parts = flat_map (λ part. part) parts

-- ---- records

-- a page is its header, its records, and what stands behind them
pub record IsItsParts (page : List ℕ) : Type 0 where
  pub each : All (λ r. length r ≡ 1024) (records_of page)
  pub whole : (behind : List ℕ) × (page ≡ take 1024 page ++ (joined (records_of page) ++ behind))

abbrev pub RecordsAreJoined : Type 0
RecordsAreJoined = (page : List ℕ) → IsDiscoveryPage page → IsItsParts page

-- ---- groups

-- the bytes begin with these groups, each as long as it says
pub record BeginsWith (bytes : List ℕ) (groups : List (List ℕ)) : Type 0 where
  pub each : All IsGroup groups
  pub whole : (behind : List ℕ) × (bytes ≡ joined groups ++ behind)

-- Bytes that hold so many groups begin with them; and bytes that begin with some hold so many, and no others.
pub record GroupsAreTheSplit : Type 0 where
  pub held : (count : ℕ) (bytes : List ℕ) → holds_groups count bytes ≡ true → (length (groups_in count bytes) ≡ count) × BeginsWith bytes (groups_in count bytes)
  pub only : (bytes : List ℕ) (groups : List (List ℕ)) → BeginsWith bytes groups → (holds_groups (length groups) bytes ≡ true) × (groups_in (length groups) bytes ≡ groups)

-- ---- lists

-- what is written of identifiers, 4 bytes each, and zeros after them
abbrev pub list_of : List ℕ → ℕ → List ℕ
list_of nsids zeros = flat_map (to_le_bytes w32) nsids ++ replicate zeros 0

abbrev pub IsNsid : ℕ → Type 0
IsNsid n = (0 < n) × (n < 2 ^ 32)

-- the first of them is FFFFFFFFh
abbrev pub begins_with_all : List ℕ → Bool
begins_with_all [] = false
begins_with_all (nsid ∷ later) = nsid == all_namespaces

abbrev pub ListsAreReadBack : Type 0
ListsAreReadBack = (nsids : List ℕ) (zeros : ℕ) → All IsNsid nsids → begins_with_all nsids ≡ false → nsids_listed (list_of nsids zeros) ≡ nsids

-- FFFFFFFFh, and whatever stands behind it: what is written where more changed than a list has room for, with zeros behind
abbrev pub overflow_of : List ℕ → List ℕ
overflow_of rest = to_le_bytes w32 all_namespaces ++ rest

-- A list that overflowed says so, and lists no namespace; one that was written, and does not begin with FFFFFFFFh, says no such thing.
pub record OverflowsAreTold : Type 0 where
  pub told : (rest : List ℕ) → (is_overflowed (overflow_of rest) ≡ true) × (nsids_listed (overflow_of rest) ≡ [])
  pub only : (nsids : List ℕ) (zeros : ℕ) → All IsNsid nsids → begins_with_all nsids ≡ false → is_overflowed (list_of nsids zeros) ≡ false
