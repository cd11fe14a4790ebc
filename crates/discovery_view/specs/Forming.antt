-- How many records an edit may form anew: its reach.
use Rattle.std.specs.Prelude.{◌≡◌, ◌≤◌, ◌==◌, ℕ, List, Ok, filter, length}
use Rattle.std.specs.Str.{bytes_eq}
use Rattle.config_lists.specs.declared.edit.Edit.{Edit}
use Rattle.config_lists.specs.declared.edit.Edit.TheVariants.{SubsystemSet, PortSet, LinkAdd, AllowAdd, ReferralAdd, ReferralSet}
use Rattle.nvt_config.specs.Accept.{accept}
use Rattle.nvt_config.specs.Configuration.{Configuration}
use Rattle.nvt_config.specs.Valid.{IsValid}
use Rattle.discovery_view.specs.Catalog.{catalog_of}
use Rattle.discovery_view.specs.Plan.{IsLeast, Planned}

-- the number of links of a port
abbrev pub links_of_port : Configuration → ℕ → ℕ
links_of_port c id = length (filter (λ link. link.port == id) c.links)

-- .. of a subsystem
abbrev pub links_of_subsystem : Configuration → List ℕ → ℕ
links_of_subsystem c nqn = length (filter (λ link. bytes_eq link.subsystem nqn) c.links)

-- a link and a referral are one record; a port has one for each of its links; whom a subsystem is shown may change the
-- records of its links; every other edit forms none
abbrev pub reach : Configuration → Edit → ℕ
reach c (LinkAdd port nqn) = 1
reach c (PortSet endpoint) = links_of_port c endpoint.id
reach c (SubsystemSet nqn access) = links_of_subsystem c nqn
reach c (AllowAdd nqn host) = links_of_subsystem c nqn
reach c (ReferralAdd endpoint) = 1
reach c (ReferralSet endpoint) = 1
reach c _ = 0

-- Whatever edit is accepted, a plan that leads from the records of one configuration to those of the next with the least
-- change forms no more records anew than the edit reaches
abbrev pub EditsFormTheirReach : Type 0
EditsFormTheirReach = (c d : Configuration) (edit : Edit) (plan : Planned) → IsValid c → accept c edit ≡ Ok d
    → IsLeast (catalog_of c) (catalog_of d) plan → length plan.fresh ≤ reach c edit
