-- The configuration as callers see it, and how edits change it.
use Rattle.std.specs.Prelude.{ℕ, Bool, true, false, ◌^◌, ◌==◌, ◌&&◌, nat_le, List, [], ◌∷◌, ◌++◌, length, if◌then◌else◌}
use Rattle.std.specs.List.{list_all, list_any}
use Rattle.std.specs.Str.{bytes_eq}
use Rattle.config_lists.specs.declared.allow.Allow.{Allow}
use Rattle.config_lists.specs.declared.group_state.AnaState.{AnaState}
use Rattle.config_lists.specs.declared.group_state.GroupState.{GroupState}
use Rattle.config_lists.specs.declared.host.Host.{Host}
use Rattle.config_lists.specs.declared.link.Link.{Link}
use Rattle.config_lists.specs.declared.namespace.Namespace.{Namespace}
use Rattle.config_lists.specs.declared.namespace.Setting.{Setting}
use Rattle.config_lists.specs.declared.port.Port.{Port}
use Rattle.config_lists.specs.declared.show.Show.{Show}
use Rattle.config_lists.specs.declared.subsystem.Access.{Access}
use Rattle.config_lists.specs.declared.subsystem.Subsystem.{Subsystem}
use Rattle.config_lists.specs.GroupState.{is_optimized, is_state_for, is_state_on, with_state}
use Rattle.config_lists.specs.Lists.{changed_where, without}
use Rattle.config_lists.specs.Namespace.{is_named, with_setting}
use Rattle.config_lists.specs.Show.{is_show_of, is_show_to}

-- The disks' sizes in units of 512 bytes, and the lists, each in the order in which its items were
-- added. A referral is the port of a discovery controller elsewhere.
pub record Configuration : Type 0 where
  pub units : List ℕ
  pub subsystems : List Subsystem
  pub namespaces : List Namespace
  pub ports : List Port
  pub links : List Link
  pub hosts : List Host
  pub allows : List Allow
  pub states : List GroupState
  pub referrals : List Port
  pub shows : List Show

abbrev pub disks_alone : List ℕ → Configuration
disks_alone units = record {
  units = units;
  subsystems = [];
  namespaces = [];
  ports = [];
  links = [];
  hosts = [];
  allows = [];
  states = [];
  referrals = [];
  shows = [];
}

-- at most 256 disks of at most 2^40 units
abbrev pub are_disks : List ℕ → Bool
are_disks units = nat_le (length units) 256 && list_all (λ n. nat_le n (2 ^ 40)) units

abbrev pub has_subsystem : List Subsystem → List ℕ → Bool
has_subsystem subsystems nqn = list_any (λ subsystem. bytes_eq subsystem.nqn nqn) subsystems

abbrev pub with_subsystem : Configuration → Subsystem → Configuration
with_subsystem c subsystem = record c { subsystems = c.subsystems ++ subsystem ∷ [] }

-- the subsystem of that name has this access
abbrev pub with_access : Configuration → List ℕ → Access → Configuration
with_access c nqn access =
    let set : Subsystem → Subsystem = λ subsystem. record subsystem { access = access } in
    record c { subsystems = changed_where (λ subsystem. bytes_eq subsystem.nqn nqn) set c.subsystems }

abbrev pub without_subsystem : Configuration → List ℕ → Configuration
without_subsystem c nqn = record c { subsystems = without (λ subsystem. bytes_eq subsystem.nqn nqn) c.subsystems }

abbrev pub has_namespace : List Namespace → List ℕ → ℕ → Bool
has_namespace namespaces nqn nsid = list_any (is_named nqn nsid) namespaces

-- whether a namespace is one of the subsystem
abbrev pub has_namespaces : List Namespace → List ℕ → Bool
has_namespaces namespaces nqn = list_any (λ n. bytes_eq n.subsystem nqn) namespaces

abbrev pub has_uuid : List Namespace → List ℕ → Bool
has_uuid namespaces uuid = list_any (λ n. bytes_eq n.uuid uuid) namespaces

-- whether a namespace is on the disk
abbrev pub is_disk_used : List Namespace → ℕ → Bool
is_disk_used namespaces disk = list_any (λ n. n.disk == disk) namespaces

abbrev pub with_namespace : Configuration → Namespace → Configuration
with_namespace c namespace = record c { namespaces = c.namespaces ++ namespace ∷ [] }

-- the namespace of that subsystem and identifier has this size, is in this group, or is seen by these hosts
abbrev pub with_namespace_set : Configuration → List ℕ → ℕ → Setting → Configuration
with_namespace_set c nqn nsid value =
    record c { namespaces = changed_where (is_named nqn nsid) (with_setting value) c.namespaces }

-- the namespace goes, and with it its shows
abbrev pub without_namespace : Configuration → List ℕ → ℕ → Configuration
without_namespace c nqn nsid = record c {
  namespaces = without (is_named nqn nsid) c.namespaces;
  shows = without (is_show_of nqn nsid) c.shows;
}

-- whether the host is shown a namespace
abbrev pub is_host_shown : List Show → List ℕ → Bool
is_host_shown shows host = list_any (λ s. bytes_eq s.host host) shows

abbrev pub with_show : Configuration → Show → Configuration
with_show c show = record c { shows = c.shows ++ show ∷ [] }

abbrev pub without_show : Configuration → List ℕ → ℕ → List ℕ → Configuration
without_show c nqn nsid host = record c { shows = without (is_show_to nqn nsid host) c.shows }

-- whether a port, or a referral, of that number is there
abbrev pub has_port : List Port → ℕ → Bool
has_port ports id = list_any (λ port. port.id == id) ports

-- this port in place of the one of its number
abbrev pub ports_set : List Port → Port → List Port
ports_set ports port = changed_where (λ old. old.id == port.id) (λ _. port) ports

abbrev pub ports_without : List Port → ℕ → List Port
ports_without ports id = without (λ port. port.id == id) ports

abbrev pub with_port : Configuration → Port → Configuration
with_port c port = record c { ports = c.ports ++ port ∷ [] }

abbrev pub with_port_set : Configuration → Port → Configuration
with_port_set c port = record c { ports = ports_set c.ports port }

abbrev pub without_port : Configuration → ℕ → Configuration
without_port c id = record c { ports = ports_without c.ports id }

abbrev pub has_link : List Link → ℕ → List ℕ → Bool
has_link links port nqn = list_any (λ link. link.port == port && bytes_eq link.subsystem nqn) links

-- whether a link names the port
abbrev pub is_port_linked : List Link → ℕ → Bool
is_port_linked links port = list_any (λ link. link.port == port) links

-- whether a link names the subsystem
abbrev pub is_subsystem_linked : List Link → List ℕ → Bool
is_subsystem_linked links nqn = list_any (λ link. bytes_eq link.subsystem nqn) links

abbrev pub with_link : Configuration → Link → Configuration
with_link c link = record c { links = c.links ++ link ∷ [] }

-- the link goes, and with it the states that were set on it
abbrev pub without_link : Configuration → ℕ → List ℕ → Configuration
without_link c port nqn = record c {
  links = without (λ link. link.port == port && bytes_eq link.subsystem nqn) c.links;
  states = without (is_state_on port nqn) c.states;
}

-- whether a host of that name was ever added
abbrev pub has_host : List Host → List ℕ → Bool
has_host hosts nqn = list_any (λ host. bytes_eq host.nqn nqn) hosts

abbrev pub has_live_host : List Host → List ℕ → Bool
has_live_host hosts nqn = list_any (λ host. bytes_eq host.nqn nqn && host.live) hosts

-- the host of that name is live, or is not
abbrev pub with_live : Configuration → List ℕ → Bool → Configuration
with_live c nqn live =
    let set : Host → Host = λ host. record host { live = live } in
    record c { hosts = changed_where (λ host. bytes_eq host.nqn nqn) set c.hosts }

abbrev pub with_new_host : Configuration → Host → Configuration
with_new_host c host = record c { hosts = c.hosts ++ host ∷ [] }

-- a host that was added before comes back in its place
abbrev pub with_host : Configuration → List ℕ → Configuration
with_host c nqn =
    if has_host c.hosts nqn then with_live c nqn true
    else with_new_host c (record { nqn = nqn; live = true })

-- a host keeps its place when it goes
abbrev pub without_host : Configuration → List ℕ → Configuration
without_host c nqn = with_live c nqn false

abbrev pub has_allow : List Allow → List ℕ → List ℕ → Bool
has_allow allows nqn host = list_any (λ a. bytes_eq a.subsystem nqn && bytes_eq a.host host) allows

-- whether the subsystem allows a host
abbrev pub is_subsystem_allowing : List Allow → List ℕ → Bool
is_subsystem_allowing allows nqn = list_any (λ a. bytes_eq a.subsystem nqn) allows

-- whether a subsystem allows the host
abbrev pub is_host_allowed : List Allow → List ℕ → Bool
is_host_allowed allows host = list_any (λ a. bytes_eq a.host host) allows

abbrev pub with_allow : Configuration → Allow → Configuration
with_allow c allow = record c { allows = c.allows ++ allow ∷ [] }

abbrev pub without_allow : Configuration → List ℕ → List ℕ → Configuration
without_allow c nqn host =
    record c { allows = without (λ a. bytes_eq a.subsystem nqn && bytes_eq a.host host) c.allows }

-- whether a state was set on the port for that group of the subsystem
abbrev pub has_state : List GroupState → ℕ → List ℕ → ℕ → Bool
has_state states port nqn group = list_any (is_state_for port nqn group) states

abbrev pub with_new_state : Configuration → GroupState → Configuration
with_new_state c state = record c { states = c.states ++ state ∷ [] }

-- another state in place of the one that was set
abbrev pub with_state_set : Configuration → ℕ → List ℕ → ℕ → AnaState → Configuration
with_state_set c port nqn group state =
    record c { states = changed_where (is_state_for port nqn group) (with_state state) c.states }

abbrev pub without_state : Configuration → ℕ → List ℕ → ℕ → Configuration
without_state c port nqn group = record c { states = without (is_state_for port nqn group) c.states }

-- optimized is the state where none is set
abbrev pub with_ana_state : Configuration → ℕ → List ℕ → ℕ → AnaState → Configuration
with_ana_state c port nqn group state =
    if is_optimized state then without_state c port nqn group
    else if has_state c.states port nqn group then with_state_set c port nqn group state
    else with_new_state c (record { port = port; subsystem = nqn; group = group; state = state })

abbrev pub with_referral : Configuration → Port → Configuration
with_referral c referral = record c { referrals = c.referrals ++ referral ∷ [] }

abbrev pub with_referral_set : Configuration → Port → Configuration
with_referral_set c referral = record c { referrals = ports_set c.referrals referral }

abbrev pub without_referral : Configuration → ℕ → Configuration
without_referral c id = record c { referrals = ports_without c.referrals id }
