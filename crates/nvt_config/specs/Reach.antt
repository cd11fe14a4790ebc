-- What of a configuration an edit reaches, as hosts see it.
use Rattle.std.specs.Prelude.{◌≡◌, ℕ, Bool, true, false, ◌&&◌, List, Option, Some, None, IfOk, filter}
use Rattle.std.specs.Str.{bytes_eq}
use Rattle.config_lists.specs.declared.group_state.GroupState.{GroupState}
use Rattle.config_lists.specs.declared.namespace.Namespace.{Namespace}
use Rattle.config_lists.specs.declared.edit.Edit.{Edit}
use Rattle.config_lists.specs.declared.edit.Edit.TheVariants.{SubsystemAdd, SubsystemSet, SubsystemDel, NamespaceAdd, NamespaceSize, NamespaceGroup, NamespaceDel, NamespaceView, NamespaceShow, NamespaceHide, PortAdd, PortSet, PortDel, LinkAdd, LinkDel, HostAdd, HostDel, AllowAdd, AllowDel, AnaSet, ReferralAdd, ReferralSet, ReferralDel}
use Rattle.nvt_config.specs.Accept.{accept}
use Rattle.nvt_config.specs.Configuration.{Configuration}
use Rattle.nvt_config.specs.SeenBy.{seen_by}

-- the namespaces of a subsystem, in the order in which they were added
abbrev pub namespaces_of : Configuration → List ℕ → List Namespace
namespaces_of c subsystem = filter (λ n. bytes_eq n.subsystem subsystem) c.namespaces

-- .. its ANA states
abbrev pub states_of : Configuration → List ℕ → List GroupState
states_of c subsystem = filter (λ s. bytes_eq s.subsystem subsystem) c.states

-- the subsystem whose namespaces, or whose ANA states, an edit may change, or of which it changes who sees a namespace
abbrev pub subsystem_reached : Edit → Option (List ℕ)
subsystem_reached (NamespaceAdd n) = Some n.subsystem
subsystem_reached (NamespaceSize nqn nsid blocks) = Some nqn
subsystem_reached (NamespaceGroup nqn nsid group) = Some nqn
subsystem_reached (NamespaceDel nqn nsid) = Some nqn
subsystem_reached (NamespaceView nqn nsid visibility) = Some nqn
subsystem_reached (NamespaceShow nqn nsid host) = Some nqn
subsystem_reached (NamespaceHide nqn nsid host) = Some nqn
subsystem_reached (LinkDel port nqn) = Some nqn
subsystem_reached (AnaSet port nqn group state) = Some nqn
subsystem_reached (SubsystemAdd nqn serial access) = None
subsystem_reached (SubsystemSet nqn access) = None
subsystem_reached (SubsystemDel nqn) = None
subsystem_reached (PortAdd e) = None
subsystem_reached (PortSet e) = None
subsystem_reached (PortDel id) = None
subsystem_reached (LinkAdd port nqn) = None
subsystem_reached (HostAdd nqn) = None
subsystem_reached (HostDel nqn) = None
subsystem_reached (AllowAdd nqn host) = None
subsystem_reached (AllowDel nqn host) = None
subsystem_reached (ReferralAdd e) = None
subsystem_reached (ReferralSet e) = None
subsystem_reached (ReferralDel id) = None

-- whether that is the subsystem of this name
abbrev pub is_reached : Option (List ℕ) → List ℕ → Bool
is_reached None subsystem = false
is_reached (Some nqn) subsystem = bytes_eq nqn subsystem

-- the one host to which alone an edit changes what is seen, where there is one: that to which a namespace is shown, or
-- from which it is hidden
abbrev pub host_reached : Edit → Option (List ℕ)
host_reached (NamespaceShow nqn nsid host) = Some host
host_reached (NamespaceHide nqn nsid host) = Some host
host_reached _ = None

-- whether the host of this name is one of those: where there is no such one, each host is
abbrev pub is_host_reached : Option (List ℕ) → List ℕ → Bool
is_host_reached None host = true
is_host_reached (Some name) host = bytes_eq name host

-- whether an edit may change what a host sees of a subsystem
abbrev pub reaches : Edit → List ℕ → List ℕ → Bool
reaches edit host subsystem = is_reached (subsystem_reached edit) subsystem && is_host_reached (host_reached edit) host

-- a subsystem has the namespaces and the ANA states that it had
pub record StaysAsItWas (old new : Configuration) (subsystem : List ℕ) : Type 0 where
  pub namespaces : namespaces_of new subsystem ≡ namespaces_of old subsystem
  pub states : states_of new subsystem ≡ states_of old subsystem

-- Whatever edit is accepted, each host sees of every subsystem that the edit does not reach for it the namespaces that it saw,
-- and the ANA states are what they were.
abbrev pub OthersStay : Type 0
OthersStay = (c : Configuration) (edit : Edit) (host subsystem : List ℕ) → reaches edit host subsystem ≡ false
    → IfOk (accept c edit) (λ next. StaysAsItWas (seen_by c host) (seen_by next host) subsystem)
