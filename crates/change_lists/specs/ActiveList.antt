-- The Active Namespace ID list (Base 2.0, section 5.17.2.2).
use Rattle.std.specs.Prelude.{◌≡◌, ◌<◌, ◌≤◌, ◌↔◌, ℕ, List, AllPairs, Contains, filter, length, nat_lt}
use Rattle.std.specs.Int.{w32, to_le_bytes}
use Rattle.std.specs.List.{flat_map}
use Rattle.config_lists.specs.declared.namespace.Namespace.{Namespace}
use Rattle.nvt_config.specs.Configuration.{Configuration}
use Rattle.nvt_config.specs.SeenBy.{SeesNamespace, seen_by}
use Rattle.nvt_config.specs.Valid.{IsValid}
use Rattle.config_lists.specs.Numbered.{active_nsids}

-- those of these identifiers that are above one
abbrev pub nsids_above : ℕ → List ℕ → List ℕ
nsids_above above nsids = filter (λ nsid. nat_lt above nsid) nsids

-- the bytes of a list, 4 for each identifier
abbrev pub list_page : List ℕ → List ℕ
list_page nsids = flat_map (to_le_bytes w32) nsids

-- the configuration has a namespace of that subsystem and that identifier, and the host sees it
abbrev pub IsActive : Configuration → List ℕ → List ℕ → ℕ → Type 0
IsActive c host subsystem nsid =
    (n : Namespace) × Contains c.namespaces n × SeesNamespace c host n × (n.subsystem ≡ subsystem) × (n.nsid ≡ nsid)

-- each identifier is below the ones after it, and so none is there twice; there are those of the
-- subsystem's namespaces that the host sees and that are above that one, and no others; the 4,096 bytes of an Identify hold them
pub record IsActiveList (c : Configuration) (host subsystem : List ℕ) (above : ℕ) (nsids : List ℕ) : Type 0 where
  pub rising : AllPairs ◌<◌ nsids
  pub listed : (nsid : ℕ) → Contains nsids nsid ↔ ((above < nsid) × IsActive c host subsystem nsid)
  pub fits : length (list_page nsids) ≤ 4096

abbrev pub NsidsAreListed : Type 0
NsidsAreListed =
    (c : Configuration) (host subsystem : List ℕ) (above : ℕ) → IsValid c
    → let seen = seen_by c host in IsActiveList c host subsystem above (nsids_above above (active_nsids seen.namespaces subsystem))
