-- What an edit makes of the groups of the subsystem that it reaches.
use Rattle.std.specs.Prelude.{◌≡◌, ℕ, List}
use Rattle.config_lists.specs.Show.{is_shown_of}
use Rattle.nvt_config.specs.Configuration.{Configuration}
use Rattle.nvt_config.specs.SeenBy.{seen_by, seen_by_strangers}
use Rattle.nvt_config.specs.Viewers.{AreOwnOf}
use Rattle.tables.specs.Variants.{VariantsState}
use Rattle.ana_view.specs.View.{AreGroupsOf, EveryoneReached, HostReached, OfSubsystem}

-- they are the groups of what a host sees in a configuration
abbrev pub AreGroupsFor : Configuration → List ℕ → List ℕ → OfSubsystem → Type 0
AreGroupsFor c subsystem host groups = AreGroupsOf (seen_by c host) subsystem groups

-- strangers have theirs, and each host its own that is shown a namespace of the subsystem
pub record AreVariantsOf (c : Configuration) (subsystem : List ℕ) (groups : VariantsState OfSubsystem) : Type 0 where
  pub strangers : AreGroupsOf (seen_by_strangers c) subsystem groups.common
  pub own : AreOwnOf c.shows subsystem (AreGroupsFor c subsystem) groups.own

-- for every host
pub record IsOfEveryone (old new : Configuration) (subsystem : List ℕ) (r : EveryoneReached) : Type 0 where
  pub subsystem_is : r.subsystem ≡ subsystem
  pub before : AreVariantsOf old subsystem r.before
  pub after : AreVariantsOf new subsystem r.after

-- for one host
pub record IsOfHost (old new : Configuration) (host subsystem : List ℕ) (r : HostReached) : Type 0 where
  pub subsystem_is : r.subsystem ≡ subsystem
  pub host_is : r.host ≡ host
  pub before : AreGroupsFor old subsystem host r.before
  pub after : AreGroupsFor new subsystem host r.after
  pub is_own : r.is_own ≡ is_shown_of new.shows subsystem host
