-- What a host sees of a configuration.
use Rattle.std.specs.Prelude.{◌≡◌, ◌⊎◌, ◌↔◌, List, [], ℕ, Contains, filter}
use Rattle.config_lists.specs.declared.namespace.Namespace.{Namespace}
use Rattle.config_lists.specs.declared.namespace.Visibility.TheVariants.{All}
use Rattle.config_lists.specs.Show.{is_seen}
use Rattle.nvt_config.specs.Configuration.{Configuration}
use Rattle.nvt_config.specs.Valid.{IsValid}

-- The configuration as a host sees it: with the namespaces that it sees alone, and all else as it is. All that a host is
-- told of namespaces is told of this one. Who sees them is told to nobody, so there are no shows in it.
abbrev pub seen_by : Configuration → List ℕ → Configuration
seen_by c host = record c { namespaces = filter (is_seen c.shows host) c.namespaces; shows = [] }

-- .. as a stranger sees it, which is shown nothing
abbrev pub seen_by_strangers : Configuration → Configuration
seen_by_strangers c = record c { namespaces = filter (is_seen [] []) c.namespaces; shows = [] }

-- each host sees the namespace, or a show names it and this host
abbrev pub SeesNamespace : Configuration → List ℕ → Namespace → Type 0
SeesNamespace c host n =
    (n.visibility ≡ All) ⊎ Contains c.shows (record { subsystem = n.subsystem; nsid = n.nsid; host = host })

-- A host sees exactly the namespaces that each host sees, and those that it is shown; and what it sees is a configuration.
pub record SeesWhatIsShown : Type 0 where
  pub namespaces : (c : Configuration) (host : List ℕ) (n : Namespace)
      → let seen = seen_by c host in Contains seen.namespaces n ↔ (Contains c.namespaces n × SeesNamespace c host n)
  pub valid : (c : Configuration) (host : List ℕ) → IsValid c → IsValid (seen_by c host)
