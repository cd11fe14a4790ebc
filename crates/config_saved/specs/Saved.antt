-- The saved configuration: the edits that make an equal one of a new one.
use Rattle.std.specs.Prelude.{◌≡◌, List, [], ◌∷◌, ◌++◌, flat_map, Result, Ok, Err, if◌then◌else◌}
use Rattle.config_lists.specs.declared.allow.Allow.{Allow}
use Rattle.config_lists.specs.declared.group_state.GroupState.{GroupState}
use Rattle.config_lists.specs.declared.host.Host.{Host}
use Rattle.config_lists.specs.declared.link.Link.{Link}
use Rattle.config_lists.specs.declared.namespace.Namespace.{Namespace}
use Rattle.config_lists.specs.declared.port.Port.{Port}
use Rattle.config_lists.specs.declared.show.Show.{Show}
use Rattle.config_lists.specs.declared.subsystem.Subsystem.{Subsystem}
use Rattle.config_lists.specs.Namespace.{bytes_of, is_for_all}
use Rattle.config_lists.specs.declared.edit.Edit.{Edit}
use Rattle.config_lists.specs.declared.edit.Edit.TheVariants.{SubsystemAdd, NamespaceAdd, NamespaceView, NamespaceShow, PortAdd, LinkAdd, HostAdd, HostDel, AllowAdd, AnaSet, ReferralAdd}
use Rattle.config_lists.specs.declared.edit.Endpoint.{Endpoint}
use Rattle.config_lists.specs.declared.edit.NewNamespace.{NewNamespace}
use Rattle.config_lists.specs.declared.fault.EditFault.{EditFault}
use Rattle.nvt_config.specs.Accept.{accept}
use Rattle.nvt_config.specs.Configuration.{Configuration, disks_alone}
use Rattle.nvt_config.specs.Valid.{IsValid}

abbrev pub edits_of_subsystem : Subsystem → List Edit
edits_of_subsystem s = SubsystemAdd s.nqn s.serial s.access ∷ []

-- the namespace as it is added
abbrev pub added_namespace : Namespace → NewNamespace
added_namespace n = record {
  subsystem = n.subsystem;
  nsid = n.nsid;
  disk = n.disk;
  blocks = n.blocks;
  block_size = bytes_of n.block_size;
  uuid = n.uuid;
  group = n.group;
}

-- each host sees a namespace that is added, so one that only named hosts see is made that at once
abbrev pub edits_of_namespace : Namespace → List Edit
edits_of_namespace n =
    NamespaceAdd (added_namespace n)
    ∷ (if is_for_all n.visibility then [] else NamespaceView n.subsystem n.nsid n.visibility ∷ [])

-- where a port listens, or a referral leads
abbrev pub endpoint_of : Port → Endpoint
endpoint_of p = record { id = p.id; family = p.family; address = p.address; service = p.service }

abbrev pub edits_of_port : Port → List Edit
edits_of_port p = PortAdd (endpoint_of p) ∷ []

abbrev pub edits_of_link : Link → List Edit
edits_of_link l = LinkAdd l.port l.subsystem ∷ []

abbrev pub edits_of_state : GroupState → List Edit
edits_of_state s = AnaSet s.port s.subsystem s.group s.state ∷ []

-- a host that is added is live, so one that is not is deleted at once, while nothing names it
abbrev pub edits_of_host : Host → List Edit
edits_of_host h = HostAdd h.nqn ∷ (if h.live then [] else HostDel h.nqn ∷ [])

abbrev pub edits_of_allow : Allow → List Edit
edits_of_allow a = AllowAdd a.subsystem a.host ∷ []

abbrev pub edits_of_show : Show → List Edit
edits_of_show s = NamespaceShow s.subsystem s.nsid s.host ∷ []

abbrev pub edits_of_referral : Port → List Edit
edits_of_referral p = ReferralAdd (endpoint_of p) ∷ []

-- the edits that add each item of each list, in the list's order; what an item names is added before it
abbrev pub saved_edits : Configuration → List Edit
saved_edits c =
    flat_map edits_of_subsystem c.subsystems
    ++ (flat_map edits_of_namespace c.namespaces
    ++ (flat_map edits_of_port c.ports
    ++ (flat_map edits_of_link c.links
    ++ (flat_map edits_of_state c.states
    ++ (flat_map edits_of_host c.hosts
    ++ (flat_map edits_of_allow c.allows
    ++ (flat_map edits_of_show c.shows
    ++ flat_map edits_of_referral c.referrals)))))))

-- what comes of a configuration, where there is one
abbrev pub then_after : (Configuration → Result Configuration EditFault) → Result Configuration EditFault → Result Configuration EditFault
then_after next (Ok c) = next c
then_after next (Err fault) = Err fault

-- the configuration after all of the edits, one after another, or the first fault
abbrev pub after_all : Configuration → List Edit → Result Configuration EditFault
after_all c [] = Ok c
after_all c (edit ∷ edits) = then_after (λ next. after_all next edits) (accept c edit)

-- Each of the saved edits is accepted, and all of them make of a new configuration of the same disks one that is equal, the
-- order of each list included.
abbrev pub SavedIsEqual : Type 0
SavedIsEqual = (c : Configuration) → IsValid c → after_all (disks_alone c.units) (saved_edits c) ≡ Ok c
