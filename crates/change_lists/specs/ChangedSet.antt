-- The set of namespaces that changed, and the Changed Namespace List (Base 2.0, section 5.16.1.5). A set is the list of
-- its identifiers, rising.
use Rattle.std.specs.Prelude.{◌≡◌, ◌<◌, ◌≤◌, ℕ, ◌*◌, ◌-◌, Bool, ◌==◌, ◌&&◌, ◌||◌, List, [], ◌∷◌, ◌++◌, length, nat_eq, nat_le, nat_lt, replicate, if◌then◌else◌}
use Rattle.std.specs.List.{list_any}
use Rattle.config_lists.specs.NsidSet.{with_nsid}
use Rattle.config_lists.specs.Numbered.{nsids_where}
use Rattle.nvt_fields.specs.Field.{padded}
use Rattle.change_lists.specs.ActiveList.{list_page}

-- a set with each of these more
abbrev pub with_nsids : List ℕ → List ℕ → List ℕ
with_nsids [] set = set
with_nsids (nsid ∷ nsids) set = with_nsids nsids (with_nsid nsid set)

-- a set with each identifier of another
abbrev pub with_all : List ℕ → List ℕ → List ℕ
with_all nsids set = nsids_where (λ n. list_any (nat_eq n) nsids || list_any (nat_eq n) set)

-- the entries of the list: the identifiers, or, where they are more than 1,024, FFFFFFFFh alone
abbrev pub nsids_told : List ℕ → List ℕ
nsids_told set = if nat_lt 1024 (length set) then 0xFFFFFFFF ∷ [] else set

-- the log page: 4,096 bytes, of which 4 are for each entry, and zeros after them
abbrev pub changed_page : List ℕ → List ℕ
changed_page set = padded 4096 0 (list_page (nsids_told set))

-- whether a read of so many bytes from an offset on empties the set: one of the whole page
abbrev pub empties : ℕ → ℕ → Bool
empties offset len = (offset == 0) && nat_le 4096 len

-- Whatever identifiers changed: up to 1,024 are listed, each of them, with zeros behind them; of more none is, and the
-- first 4 bytes of the list say so, which no identifier of a namespace does.
pub record IsChangedList (set : List ℕ) : Type 0 where
  pub whole : length (changed_page set) ≡ 4096
  pub listed : length set ≤ 1024 → changed_page set ≡ list_page set ++ replicate (4096 - 4 * length set) 0
  pub overflowed : 1024 < length set → changed_page set ≡ list_page (0xFFFFFFFF ∷ []) ++ replicate (4096 - 4) 0

abbrev pub ChangedIsListed : Type 0
ChangedIsListed = (test : ℕ → Bool) → IsChangedList (nsids_where test)
