-- An edit leaves the configuration with the disks that it had.
use Rattle.std.proofs.Common.{◌≡◌, Ok, ap, refl, ◌∙◌}
use Rattle.config_lists.specs.declared.edit.Edit.{Edit}
use Rattle.config_lists.specs.declared.edit.Edit.TheVariants.{HostAdd, AnaSet}
use Rattle.nvt_config.specs.Accept.{accept, effect}
use Rattle.nvt_config.specs.Configuration.{Configuration}
use Rattle.nvt_config.proofs.Hosts.{hosts_alone}
use Rattle.nvt_config.proofs.Refusals.{is_effect}
use Rattle.nvt_config.proofs.States.{states_alone}

units_stay : (c : Configuration) (edit : Edit) → (effect c edit).units ≡ c.units
units_stay c (HostAdd nqn) = ap (λ d. d.units) (hosts_alone c nqn)
units_stay c (AnaSet port nqn group state) = ap (λ d. d.units) (states_alone c port nqn group state)
units_stay c edit = refl

-- an accepted edit leaves the configuration with the disks that it had
pub edit_keeps_units : (c d : Configuration) (edit : Edit) → accept c edit ≡ Ok d → d.units ≡ c.units
edit_keeps_units c d edit accepted = ap (λ e. e.units) (is_effect c d edit accepted) ∙ units_stay c edit
