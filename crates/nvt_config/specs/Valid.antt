-- What is true of each configuration.
use Rattle.std.specs.Prelude.{◌≡◌, ◌≢◌, ℕ, ◌*◌, ◌≤◌, Bool, false, ◌&&◌, nat_le, List, length, Option, Some, None, slice_get, All, AllPairs, IsTrue, IsFalse}
use Rattle.uuid.specs.Parts.{is_nil_bytes}
use Rattle.config_lists.specs.declared.allow.Allow.{Allow}
use Rattle.config_lists.specs.declared.group_state.GroupState.{GroupState}
use Rattle.config_lists.specs.declared.host.Host.{Host}
use Rattle.config_lists.specs.declared.link.Link.{Link}
use Rattle.config_lists.specs.declared.namespace.Namespace.{Namespace}
use Rattle.config_lists.specs.declared.port.Port.{Port}
use Rattle.config_lists.specs.declared.show.Show.{Show}
use Rattle.config_lists.specs.declared.subsystem.Subsystem.{Subsystem}
use Rattle.config_lists.specs.GroupState.{is_optimized}
use Rattle.config_lists.specs.Namespace.{bytes_of, is_group, is_nsid}
use Rattle.config_lists.specs.Port.{is_port}
use Rattle.config_lists.specs.Subsystem.{is_subsystem}
use Rattle.nvt_config.specs.Configuration.{Configuration, are_disks, has_link, has_live_host, has_namespace, has_port, has_subsystem}

-- at most 32, with sound values, and no two with the same name
pub record AreSubsystems (subsystems : List Subsystem) : Type 0 where
  pub count : length subsystems ≤ 32
  pub sound : All (λ subsystem. IsTrue (is_subsystem subsystem)) subsystems
  pub distinct : AllPairs (λ s t. s.nqn ≢ t.nqn) subsystems

-- whether so many blocks of so many bytes, 1 or more, are on a disk of so many units, where that is there
abbrev pub is_size_on : Option ℕ → ℕ → ℕ → Bool
is_size_on None blocks bytes = false
is_size_on (Some units) blocks bytes = nat_le 1 blocks && nat_le (blocks * bytes) (units * 512)

-- sound values, a subsystem and a disk that are there, and a size that the disk has
pub record IsNamespace (units : List ℕ) (subsystems : List Subsystem) (n : Namespace) : Type 0 where
  pub subsystem : IsTrue (has_subsystem subsystems n.subsystem)
  pub nsid : IsTrue (is_nsid n.nsid)
  pub size : IsTrue (is_size_on (slice_get units n.disk) n.blocks (bytes_of n.block_size))
  pub uuid : IsFalse (is_nil_bytes n.uuid)
  pub group : IsTrue (is_group n.group)

-- no two with the same subsystem and identifier, on the same disk, or with the same UUID
pub record AreNamespaces (units : List ℕ) (subsystems : List Subsystem) (namespaces : List Namespace) : Type 0 where
  pub sound : All (IsNamespace units subsystems) namespaces
  pub distinct : AllPairs (λ m n. ¬ ((m.subsystem ≡ n.subsystem) × (m.nsid ≡ n.nsid))) namespaces
  pub disks : AllPairs (λ m n. m.disk ≢ n.disk) namespaces
  pub uuids : AllPairs (λ m n. m.uuid ≢ n.uuid) namespaces

-- at most 16, with sound values, and no two with the same number
pub record ArePorts (ports : List Port) : Type 0 where
  pub count : length ports ≤ 16
  pub sound : All (λ port. IsTrue (is_port port)) ports
  pub distinct : AllPairs (λ p q. p.id ≢ q.id) ports

-- the link's port and subsystem are there
pub record IsLink (ports : List Port) (subsystems : List Subsystem) (link : Link) : Type 0 where
  pub port : IsTrue (has_port ports link.port)
  pub subsystem : IsTrue (has_subsystem subsystems link.subsystem)

-- no two links with the same port and subsystem
pub record AreLinks (ports : List Port) (subsystems : List Subsystem) (links : List Link) : Type 0 where
  pub sound : All (IsLink ports subsystems) links
  pub distinct : AllPairs (λ k l. ¬ ((k.port ≡ l.port) × (k.subsystem ≡ l.subsystem))) links

-- at most 256 names, and no name twice
pub record AreHosts (hosts : List Host) : Type 0 where
  pub count : length hosts ≤ 256
  pub distinct : AllPairs (λ g h. g.nqn ≢ h.nqn) hosts

-- the allow's subsystem is there, and its host is live
pub record IsAllow (subsystems : List Subsystem) (hosts : List Host) (allow : Allow) : Type 0 where
  pub subsystem : IsTrue (has_subsystem subsystems allow.subsystem)
  pub host : IsTrue (has_live_host hosts allow.host)

-- at most 1,024, and no two with the same subsystem and host
pub record AreAllows (subsystems : List Subsystem) (hosts : List Host) (allows : List Allow) : Type 0 where
  pub count : length allows ≤ 1024
  pub sound : All (IsAllow subsystems hosts) allows
  pub distinct : AllPairs (λ a b. ¬ ((a.subsystem ≡ b.subsystem) × (a.host ≡ b.host))) allows

-- the state's link is there, and it is another state than that which stands where none is set
pub record IsGroupState (links : List Link) (s : GroupState) : Type 0 where
  pub link : IsTrue (has_link links s.port s.subsystem)
  pub group : IsTrue (is_group s.group)
  pub state : IsFalse (is_optimized s.state)

-- no two for the same port, subsystem and group
pub record AreStates (links : List Link) (states : List GroupState) : Type 0 where
  pub sound : All (IsGroupState links) states
  pub distinct : AllPairs (λ s t. ¬ ((s.port ≡ t.port) × (s.subsystem ≡ t.subsystem) × (s.group ≡ t.group))) states

-- the show's namespace is there, and its host is live
pub record IsShow (namespaces : List Namespace) (hosts : List Host) (show : Show) : Type 0 where
  pub named_namespace : IsTrue (has_namespace namespaces show.subsystem show.nsid)
  pub host : IsTrue (has_live_host hosts show.host)

-- at most 1,024, and no two of the same namespace to the same host
pub record AreShows (namespaces : List Namespace) (hosts : List Host) (shows : List Show) : Type 0 where
  pub count : length shows ≤ 1024
  pub sound : All (IsShow namespaces hosts) shows
  pub distinct : AllPairs (λ s t. ¬ ((s.subsystem ≡ t.subsystem) × (s.nsid ≡ t.nsid) × (s.host ≡ t.host))) shows

-- what is true of each configuration
pub record IsValid (c : Configuration) : Type 0 where
  pub disks : IsTrue (are_disks c.units)
  pub subsystems : AreSubsystems c.subsystems
  pub namespaces : AreNamespaces c.units c.subsystems c.namespaces
  pub ports : ArePorts c.ports
  pub links : AreLinks c.ports c.subsystems c.links
  pub hosts : AreHosts c.hosts
  pub allows : AreAllows c.subsystems c.hosts c.allows
  pub states : AreStates c.links c.states
  pub referrals : ArePorts c.referrals
  pub shows : AreShows c.namespaces c.hosts c.shows

-- each namespace has a disk of its own, so they are as few as disks may be
abbrev pub NamespacesAreFew : Type 0
NamespacesAreFew = (c : Configuration) → IsValid c → length c.namespaces ≤ 256
