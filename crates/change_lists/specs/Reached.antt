-- What an edit makes of the lists of the subsystem that it reaches.
use Rattle.std.specs.Prelude.{◌≡◌, ℕ, List, ◌++◌}
use Rattle.config_lists.specs.Show.{is_shown_of}
use Rattle.nvt_config.specs.Configuration.{Configuration}
use Rattle.nvt_config.specs.SeenBy.{seen_by, seen_by_strangers}
use Rattle.config_lists.specs.Numbered.{active_nsids, nsids_where}
use Rattle.nvt_config.specs.Viewers.{AreOwnOf}
use Rattle.change_lists.specs.ActiveView.{EveryoneReached, HostReached}
use Rattle.change_lists.specs.Changes.{changes_namespace}

-- it is the list of what a host sees in a configuration
abbrev pub IsListFor : Configuration → List ℕ → List ℕ → List ℕ → Type 0
IsListFor c subsystem host list = let seen = seen_by c host in list ≡ active_nsids seen.namespaces subsystem

-- they are what changes as a host sees it
abbrev pub AreChangesFor : Configuration → Configuration → List ℕ → List ℕ → List ℕ → Type 0
AreChangesFor old new subsystem host changed = changed ≡ nsids_where (changes_namespace (seen_by old host) (seen_by new host) subsystem)

-- For every host: strangers have theirs, and each host its own that is shown a namespace of the subsystem, of the changes also
-- one that was shown some before.
pub record IsOfEveryone (old new : Configuration) (subsystem : List ℕ) (r : EveryoneReached) : Type 0 where
  pub subsystem_is : r.subsystem ≡ subsystem
  pub strangers : let seen = seen_by_strangers new in r.lists.common ≡ active_nsids seen.namespaces subsystem
  pub own : AreOwnOf new.shows subsystem (IsListFor new subsystem) r.lists.own
  pub strangers_changed : r.changed.common ≡ nsids_where (changes_namespace (seen_by_strangers old) (seen_by_strangers new) subsystem)
  pub own_changed : AreOwnOf (old.shows ++ new.shows) subsystem (AreChangesFor old new subsystem) r.changed.own

-- for one host
pub record IsOfHost (old new : Configuration) (host subsystem : List ℕ) (r : HostReached) : Type 0 where
  pub subsystem_is : r.subsystem ≡ subsystem
  pub host_is : r.host ≡ host
  pub nsids : IsListFor new subsystem host r.nsids
  pub changed : AreChangesFor old new subsystem host r.changed
  pub is_own : r.is_own ≡ is_shown_of new.shows subsystem host
