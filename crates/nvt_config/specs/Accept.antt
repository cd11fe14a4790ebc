-- Which edits a configuration accepts, and what it is after them.
use Rattle.std.specs.Prelude.{ℕ, ◌*◌, ◌==◌, Bool, false, not, ◌&&◌, ◌||◌, nat_le, nat_lt, List, [], ◌∷◌, length, slice_get, find, Option, Some, None, is_none, Result, Ok, Err, IfOk, unwrap_or, if◌then◌else◌}
use Rattle.uuid.specs.Parts.{is_nil_bytes}
use Rattle.config_lists.specs.declared.namespace.BlockSize.{BlockSize}
use Rattle.config_lists.specs.declared.namespace.BlockSize.TheVariants.{Bytes4096}
use Rattle.config_lists.specs.declared.namespace.Namespace.{Namespace}
use Rattle.config_lists.specs.declared.namespace.Setting.TheVariants.{Blocks, Group, Visibility}
use Rattle.config_lists.specs.declared.namespace.Visibility.TheVariants.{All}
use Rattle.config_lists.specs.declared.port.Port.{Port}
use Rattle.config_lists.specs.Namespace.{block_size_of, bytes_of, is_group, is_named, is_nsid}
use Rattle.config_lists.specs.Port.{is_port_number, is_address}
use Rattle.config_lists.specs.Show.{has_show}
use Rattle.config_lists.specs.Subsystem.{is_discovery, is_serial}
use Rattle.config_lists.specs.declared.edit.Edit.{Edit}
use Rattle.config_lists.specs.declared.edit.Edit.TheVariants.{SubsystemAdd, SubsystemSet, SubsystemDel, NamespaceAdd, NamespaceSize, NamespaceGroup, NamespaceDel, NamespaceView, NamespaceShow, NamespaceHide, PortAdd, PortSet, PortDel, LinkAdd, LinkDel, HostAdd, HostDel, AllowAdd, AllowDel, AnaSet, ReferralAdd, ReferralSet, ReferralDel}
use Rattle.config_lists.specs.declared.edit.Endpoint.{Endpoint}
use Rattle.config_lists.specs.declared.edit.NewNamespace.{NewNamespace}
use Rattle.config_lists.specs.declared.fault.EditFault.{EditFault}
use Rattle.config_lists.specs.declared.fault.EditFault.TheVariants.{BadValue, NoSuch, Exists, DiskInUse, InUse, Full}
use Rattle.config_lists.specs.declared.fault.Value.TheVariants as value
use Rattle.config_lists.specs.declared.fault.Item.TheVariants as item
use Rattle.nvt_config.specs.Configuration.{Configuration, has_subsystem, with_subsystem, with_access, without_subsystem, has_namespace, has_namespaces, has_uuid, is_disk_used, with_namespace, with_namespace_set, without_namespace, is_host_shown, with_show, without_show, has_port, with_port, with_port_set, without_port, has_link, is_port_linked, is_subsystem_linked, with_link, without_link, has_host, has_live_host, with_host, without_host, has_allow, is_subsystem_allowing, is_host_allowed, with_allow, without_allow, with_ana_state, with_referral, with_referral_set, without_referral}
use Rattle.nvt_config.specs.Valid.{IsValid}

-- the fault if the test passes, and else what comes next
abbrev pub refuse : {T E : Type 0} → Bool → E → Result T E → Result T E
refuse test fault next = if test then Err fault else next

-- whether so many blocks of so many bytes are more than the disk has, where that is there
abbrev pub is_over : Option ℕ → ℕ → ℕ → Bool
is_over None blocks bytes = false
is_over (Some units) blocks bytes = nat_lt (units * 512) (blocks * bytes)

-- whether these are no size for a namespace on that disk, where the disk is there
abbrev pub are_bad_blocks : Configuration → ℕ → ℕ → ℕ → Bool
are_bad_blocks c disk blocks bytes = (blocks == 0) || is_over (slice_get c.units disk) blocks bytes

-- .. for that namespace, where it is there
abbrev pub are_bad_blocks_of : Configuration → Option Namespace → ℕ → Bool
are_bad_blocks_of c None blocks = blocks == 0
are_bad_blocks_of c (Some n) blocks = are_bad_blocks c n.disk blocks (bytes_of n.block_size)

-- the block size of so many bytes, which is one of the two
abbrev pub block_size_named : ℕ → BlockSize
block_size_named bytes = unwrap_or (block_size_of bytes) Bytes4096

-- the namespace that is added
abbrev pub namespace_of : NewNamespace → Namespace
namespace_of n = record {
  subsystem = n.subsystem;
  nsid = n.nsid;
  disk = n.disk;
  blocks = n.blocks;
  block_size = block_size_named n.block_size;
  uuid = n.uuid;
  group = n.group;
  visibility = All;
}

-- the port, or the referral, that is added or set
abbrev pub port_of : Endpoint → Port
port_of e = record { id = e.id; family = e.family; address = e.address; service = e.service }

-- a reason against an edit: a test, and the fault where that passes
abbrev pub Refusal : Type 0
Refusal = Bool × EditFault

-- the reasons against an edit, in the order in which they count
abbrev pub refusals : Configuration → Edit → List Refusal
refusals c (SubsystemAdd nqn serial access) =
    (is_discovery nqn, BadValue value.Nqn)
    ∷ (not (is_serial serial), BadValue value.Serial)
    ∷ (has_subsystem c.subsystems nqn, Exists item.Subsystem)
    ∷ (nat_le 32 (length c.subsystems), Full item.Subsystem)
    ∷ []
refusals c (SubsystemSet nqn access) = (not (has_subsystem c.subsystems nqn), NoSuch item.Subsystem) ∷ []
refusals c (SubsystemDel nqn) =
    (not (has_subsystem c.subsystems nqn), NoSuch item.Subsystem)
    ∷ (has_namespaces c.namespaces nqn, InUse item.Namespace)
    ∷ (is_subsystem_linked c.links nqn, InUse item.Link)
    ∷ (is_subsystem_allowing c.allows nqn, InUse item.Allow)
    ∷ []
refusals c (NamespaceAdd n) =
    (not (is_nsid n.nsid), BadValue value.Nsid)
    ∷ (are_bad_blocks c n.disk n.blocks n.block_size, BadValue value.Blocks)
    ∷ (is_none (block_size_of n.block_size), BadValue value.BlockSize)
    ∷ (is_nil_bytes n.uuid, BadValue value.Uuid)
    ∷ (not (is_group n.group), BadValue value.Group)
    ∷ (not (has_subsystem c.subsystems n.subsystem), NoSuch item.Subsystem)
    ∷ (nat_le (length c.units) n.disk, NoSuch item.Disk)
    ∷ (has_namespace c.namespaces n.subsystem n.nsid, Exists item.Namespace)
    ∷ (has_uuid c.namespaces n.uuid, Exists item.Uuid)
    ∷ (is_disk_used c.namespaces n.disk, DiskInUse)
    ∷ []
refusals c (NamespaceSize nqn nsid blocks) =
    (are_bad_blocks_of c (find (is_named nqn nsid) c.namespaces) blocks, BadValue value.Blocks)
    ∷ (not (has_subsystem c.subsystems nqn), NoSuch item.Subsystem)
    ∷ (not (has_namespace c.namespaces nqn nsid), NoSuch item.Namespace)
    ∷ []
refusals c (NamespaceGroup nqn nsid group) =
    (not (is_group group), BadValue value.Group)
    ∷ (not (has_subsystem c.subsystems nqn), NoSuch item.Subsystem)
    ∷ (not (has_namespace c.namespaces nqn nsid), NoSuch item.Namespace)
    ∷ []
refusals c (NamespaceDel nqn nsid) =
    (not (has_subsystem c.subsystems nqn), NoSuch item.Subsystem)
    ∷ (not (has_namespace c.namespaces nqn nsid), NoSuch item.Namespace)
    ∷ []
refusals c (NamespaceView nqn nsid visibility) =
    (not (has_subsystem c.subsystems nqn), NoSuch item.Subsystem)
    ∷ (not (has_namespace c.namespaces nqn nsid), NoSuch item.Namespace)
    ∷ []
refusals c (NamespaceShow nqn nsid host) =
    (not (has_subsystem c.subsystems nqn), NoSuch item.Subsystem)
    ∷ (not (has_namespace c.namespaces nqn nsid), NoSuch item.Namespace)
    ∷ (not (has_live_host c.hosts host), NoSuch item.Host)
    ∷ (has_show c.shows nqn nsid host, Exists item.Show)
    ∷ (nat_le 1024 (length c.shows), Full item.Show)
    ∷ []
refusals c (NamespaceHide nqn nsid host) =
    (not (has_subsystem c.subsystems nqn), NoSuch item.Subsystem)
    ∷ (not (has_namespace c.namespaces nqn nsid), NoSuch item.Namespace)
    ∷ (not (has_live_host c.hosts host), NoSuch item.Host)
    ∷ (not (has_show c.shows nqn nsid host), NoSuch item.Show)
    ∷ []
refusals c (PortAdd e) =
    (not (is_port_number e.id), BadValue value.Port)
    ∷ (not (is_address e.address), BadValue value.Address)
    ∷ (not (is_port_number e.service), BadValue value.Service)
    ∷ (has_port c.ports e.id, Exists item.Port)
    ∷ (nat_le 16 (length c.ports), Full item.Port)
    ∷ []
refusals c (PortSet e) =
    (not (is_port_number e.id), BadValue value.Port)
    ∷ (not (is_address e.address), BadValue value.Address)
    ∷ (not (is_port_number e.service), BadValue value.Service)
    ∷ (not (has_port c.ports e.id), NoSuch item.Port)
    ∷ []
refusals c (PortDel id) =
    (not (has_port c.ports id), NoSuch item.Port)
    ∷ (is_port_linked c.links id, InUse item.Link)
    ∷ []
refusals c (LinkAdd port nqn) =
    (not (has_port c.ports port), NoSuch item.Port)
    ∷ (not (has_subsystem c.subsystems nqn), NoSuch item.Subsystem)
    ∷ (has_link c.links port nqn, Exists item.Link)
    ∷ []
refusals c (LinkDel port nqn) =
    (not (has_port c.ports port), NoSuch item.Port)
    ∷ (not (has_subsystem c.subsystems nqn), NoSuch item.Subsystem)
    ∷ (not (has_link c.links port nqn), NoSuch item.Link)
    ∷ []
refusals c (HostAdd nqn) =
    (has_live_host c.hosts nqn, Exists item.Host)
    ∷ (not (has_host c.hosts nqn) && nat_le 256 (length c.hosts), Full item.Host)
    ∷ []
refusals c (HostDel nqn) =
    (not (has_live_host c.hosts nqn), NoSuch item.Host)
    ∷ (is_host_allowed c.allows nqn, InUse item.Allow)
    ∷ (is_host_shown c.shows nqn, InUse item.Show)
    ∷ []
refusals c (AllowAdd nqn host) =
    (not (has_subsystem c.subsystems nqn), NoSuch item.Subsystem)
    ∷ (not (has_live_host c.hosts host), NoSuch item.Host)
    ∷ (has_allow c.allows nqn host, Exists item.Allow)
    ∷ (nat_le 1024 (length c.allows), Full item.Allow)
    ∷ []
refusals c (AllowDel nqn host) =
    (not (has_subsystem c.subsystems nqn), NoSuch item.Subsystem)
    ∷ (not (has_live_host c.hosts host), NoSuch item.Host)
    ∷ (not (has_allow c.allows nqn host), NoSuch item.Allow)
    ∷ []
refusals c (AnaSet port nqn group state) =
    (not (is_group group), BadValue value.Group)
    ∷ (not (has_port c.ports port), NoSuch item.Port)
    ∷ (not (has_subsystem c.subsystems nqn), NoSuch item.Subsystem)
    ∷ (not (has_link c.links port nqn), NoSuch item.Link)
    ∷ []
refusals c (ReferralAdd e) =
    (not (is_port_number e.id), BadValue value.Port)
    ∷ (not (is_address e.address), BadValue value.Address)
    ∷ (not (is_port_number e.service), BadValue value.Service)
    ∷ (has_port c.referrals e.id, Exists item.Referral)
    ∷ (nat_le 16 (length c.referrals), Full item.Referral)
    ∷ []
refusals c (ReferralSet e) =
    (not (is_port_number e.id), BadValue value.Port)
    ∷ (not (is_address e.address), BadValue value.Address)
    ∷ (not (is_port_number e.service), BadValue value.Service)
    ∷ (not (has_port c.referrals e.id), NoSuch item.Referral)
    ∷ []
refusals c (ReferralDel id) = (not (has_port c.referrals id), NoSuch item.Referral) ∷ []

-- what an edit makes of the configuration, where nothing is against it
abbrev pub effect : Configuration → Edit → Configuration
effect c (SubsystemAdd nqn serial access) = with_subsystem c (record { nqn = nqn; serial = serial; access = access })
effect c (SubsystemSet nqn access) = with_access c nqn access
effect c (SubsystemDel nqn) = without_subsystem c nqn
effect c (NamespaceAdd n) = with_namespace c (namespace_of n)
effect c (NamespaceSize nqn nsid blocks) = with_namespace_set c nqn nsid (Blocks blocks)
effect c (NamespaceGroup nqn nsid group) = with_namespace_set c nqn nsid (Group group)
effect c (NamespaceDel nqn nsid) = without_namespace c nqn nsid
effect c (NamespaceView nqn nsid visibility) = with_namespace_set c nqn nsid (Visibility visibility)
effect c (NamespaceShow nqn nsid host) = with_show c (record { subsystem = nqn; nsid = nsid; host = host })
effect c (NamespaceHide nqn nsid host) = without_show c nqn nsid host
effect c (PortAdd e) = with_port c (port_of e)
effect c (PortSet e) = with_port_set c (port_of e)
effect c (PortDel id) = without_port c id
effect c (LinkAdd port nqn) = with_link c (record { port = port; subsystem = nqn })
effect c (LinkDel port nqn) = without_link c port nqn
effect c (HostAdd nqn) = with_host c nqn
effect c (HostDel nqn) = without_host c nqn
effect c (AllowAdd nqn host) = with_allow c (record { subsystem = nqn; host = host })
effect c (AllowDel nqn host) = without_allow c nqn host
effect c (AnaSet port nqn group state) = with_ana_state c port nqn group state
effect c (ReferralAdd e) = with_referral c (port_of e)
effect c (ReferralSet e) = with_referral_set c (port_of e)
effect c (ReferralDel id) = without_referral c id

-- the fault of the first reason whose test passes, and else the value
abbrev pub unless_refused : List Refusal → Configuration → Result Configuration EditFault
unless_refused [] next = Ok next
unless_refused (refusal ∷ others) next = refuse refusal.0 refusal.1 (unless_refused others next)

-- the configuration after the edit, or the first reason against it
abbrev pub accept : Configuration → Edit → Result Configuration EditFault
accept c edit = unless_refused (refusals c edit) (effect c edit)

-- the reason against the edit, if there is one
abbrev pub verdict : Result Configuration EditFault → Result (Unit {0}) EditFault
verdict (Ok c) = Ok tt
verdict (Err fault) = Err fault

-- an accepted edit keeps what is true of each configuration
abbrev pub AcceptedStaysValid : Type 0
AcceptedStaysValid = (c : Configuration) (edit : Edit) → IsValid c → IfOk (accept c edit) IsValid
