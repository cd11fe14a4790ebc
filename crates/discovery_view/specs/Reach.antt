-- Whose records an edit can change.
use Rattle.std.specs.Prelude.{◌≡◌, ℕ, Bool, false, List, Ok}
use Rattle.config_lists.specs.declared.edit.Edit.{Edit}
use Rattle.nvt_config.specs.Accept.{accept}
use Rattle.nvt_config.specs.Configuration.{Configuration}
use Rattle.discovery_view.specs.Allowed.{edit_of}
use Rattle.discovery_view.specs.declared.reach.Reach.{Reach}
use Rattle.discovery_view.specs.declared.reach.Reach.TheVariants.{Nobody, Host, Records, Anybody}
use Rattle.discovery_view.specs.Catalog.{catalog_of, places_of}

-- from one configuration to another no record changes, nor which of them a host is shown, but the hosts that pass
pub record Leaves (changes : List ℕ → Bool) (c d : Configuration) : Type 0 where
  pub catalog : catalog_of d ≡ catalog_of c
  pub places : (host : List ℕ) → changes host ≡ false → places_of d host ≡ places_of c host

abbrev pub no_host : List ℕ → Bool
no_host host = false

-- what an edit that is accepted reaches
abbrev pub Reaches : Edit → Reach → Type 0
Reaches edit Nobody = (c d : Configuration) → accept c edit ≡ Ok d → Leaves no_host c d
Reaches edit (Host allowance) = (edit ≡ edit_of allowance)
Reaches edit Records = (c d : Configuration) → accept c edit ≡ Ok d → (host : List ℕ) → places_of d host ≡ places_of c host
Reaches edit Anybody = (edit ≡ edit)
