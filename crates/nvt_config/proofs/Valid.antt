-- What an accepted edit keeps.
use Rattle.std.proofs.Common.{◌≡◌, ◌&&◌, false, not, IsTrue, IfOk, nat_le, length, slice_get, subst, sym}
use Rattle.std.proofs.lemmas.Bool.{and_from, not-false, not_from_false}
use Rattle.std.specs.Option.{is_none}
use Rattle.uuid.specs.Parts.{is_nil_bytes}
use Rattle.config_lists.specs.declared.edit.Edit.{Edit}
use Rattle.config_lists.specs.declared.edit.Edit.TheVariants.{SubsystemAdd, SubsystemSet, SubsystemDel, NamespaceAdd, NamespaceSize, NamespaceGroup, NamespaceDel, NamespaceView, NamespaceShow, NamespaceHide, PortAdd, PortSet, PortDel, LinkAdd, LinkDel, HostAdd, HostDel, AllowAdd, AllowDel, AnaSet, ReferralAdd, ReferralSet, ReferralDel}
use Rattle.config_lists.specs.declared.edit.Endpoint.{Endpoint}
use Rattle.config_lists.specs.declared.edit.NewNamespace.{NewNamespace}
use Rattle.config_lists.specs.declared.subsystem.Subsystem.{Subsystem}
use Rattle.config_lists.specs.Namespace.{block_size_of, is_group, is_nsid}
use Rattle.config_lists.specs.Port.{is_port, is_port_number, is_address}
use Rattle.config_lists.specs.Subsystem.{is_discovery, is_serial}
use Rattle.nvt_config.specs.Accept.{accept, are_bad_blocks, effect, namespace_of, port_of, refusals}
use Rattle.nvt_config.specs.Configuration.{Configuration, has_link, has_live_host, has_namespace, has_port, has_subsystem}
use Rattle.nvt_config.specs.Valid.{IsNamespace, IsValid, is_size_on}
use Rattle.nvt_config.proofs.Refusals.{IfOk-accept, Unless}
use Rattle.nvt_config.proofs.Subsystems.{IsValid-with_subsystem, IsValid-with_access, IsValid-without_subsystem}
use Rattle.nvt_config.proofs.Namespaces.{IsValid-with_blocks, IsValid-with_group, IsValid-with_namespace, IsValid-with_visibility, IsValid-without_namespace, bytes_of-named, sound_size}
use Rattle.nvt_config.proofs.Ports.{IsValid-with_port, IsValid-with_port_set, IsValid-with_referral, IsValid-with_referral_set, IsValid-without_port, IsValid-without_referral}
use Rattle.nvt_config.proofs.Links.{IsValid-with_link, IsValid-without_link}
use Rattle.nvt_config.proofs.Hosts.{IsValid-with_host, IsValid-without_host}
use Rattle.nvt_config.proofs.Allows.{IsValid-with_allow, IsValid-without_allow}
use Rattle.nvt_config.proofs.Shows.{IsValid-with_show, IsValid-without_show}
use Rattle.nvt_config.proofs.States.{IsValid-with_ana_state}

sound_port : (e : Endpoint) → not (is_port_number e.id) ≡ false → not (is_address e.address) ≡ false → not (is_port_number e.service) ≡ false → IsTrue (is_port (port_of e))
sound_port e number text listens =
    and_from (is_port_number e.id) (is_address e.address && is_port_number e.service) (not-false (is_port_number e.id) number)
    (and_from (is_address e.address) (is_port_number e.service) (not-false (is_address e.address) text) (not-false (is_port_number e.service) listens))

sound_namespace : (c : Configuration) (n : NewNamespace) → not (is_nsid n.nsid) ≡ false → are_bad_blocks c n.disk n.blocks n.block_size ≡ false → is_none (block_size_of n.block_size) ≡ false → is_nil_bytes n.uuid ≡ false → not (is_group n.group) ≡ false → not (has_subsystem c.subsystems n.subsystem) ≡ false → nat_le (length c.units) n.disk ≡ false → IsNamespace c.units c.subsystems (namespace_of n)
sound_namespace c n nsid fits named uuid group subsystem disk = record {
  subsystem = not-false (has_subsystem c.subsystems n.subsystem) subsystem;
  nsid = not-false (is_nsid n.nsid) nsid;
  size = subst (λ bytes. IsTrue (is_size_on (slice_get c.units n.disk) n.blocks bytes)) (sym (bytes_of-named n.block_size named)) (sound_size c n.disk n.blocks n.block_size disk fits);
  uuid = uuid;
  group = not-false (is_group n.group) group;
}

-- the effect is valid where nothing is against the edit
IsValid-effect : (c : Configuration) (edit : Edit) → IsValid c → Unless (refusals c edit) (IsValid (effect c edit))
IsValid-effect c (SubsystemAdd nqn serial access) valid = λ ordinary text absent room.
    let subsystem : Subsystem = record { nqn = nqn; serial = serial; access = access } in
    IsValid-with_subsystem c subsystem valid (and_from (not (is_discovery nqn)) (is_serial serial) (not_from_false (is_discovery nqn) ordinary) (not-false (is_serial serial) text)) absent room
IsValid-effect c (SubsystemSet nqn access) valid = λ there. IsValid-with_access c nqn access valid
IsValid-effect c (SubsystemDel nqn) valid = λ there empty unlinked unallowed. IsValid-without_subsystem c nqn valid empty unlinked unallowed
IsValid-effect c (NamespaceAdd n) valid = λ nsid fits named uuid group subsystem disk absent own free.
    IsValid-with_namespace c (namespace_of n) valid (sound_namespace c n nsid fits named uuid group subsystem disk) absent own free
IsValid-effect c (NamespaceSize nqn nsid blocks) valid = λ fits subsystem there. IsValid-with_blocks c nqn nsid blocks valid fits
IsValid-effect c (NamespaceGroup nqn nsid group) valid = λ sound subsystem there. IsValid-with_group c nqn nsid group valid (not-false (is_group group) sound)
IsValid-effect c (NamespaceDel nqn nsid) valid = λ subsystem there. IsValid-without_namespace c nqn nsid valid
IsValid-effect c (NamespaceView nqn nsid visibility) valid = λ subsystem there. IsValid-with_visibility c nqn nsid visibility valid
IsValid-effect c (NamespaceShow nqn nsid host) valid = λ subsystem there live absent room.
    IsValid-with_show c (record { subsystem = nqn; nsid = nsid; host = host }) valid (not-false (has_namespace c.namespaces nqn nsid) there) (not-false (has_live_host c.hosts host) live) absent room
IsValid-effect c (NamespaceHide nqn nsid host) valid = λ subsystem there live shown. IsValid-without_show c nqn nsid host valid
IsValid-effect c (PortAdd e) valid = λ number text listens absent room. IsValid-with_port c (port_of e) valid (sound_port e number text listens) absent room
IsValid-effect c (PortSet e) valid = λ number text listens there. IsValid-with_port_set c (port_of e) valid (sound_port e number text listens)
IsValid-effect c (PortDel id) valid = λ there free. IsValid-without_port c id valid free
IsValid-effect c (LinkAdd port nqn) valid = λ there subsystem absent.
    IsValid-with_link c (record { port = port; subsystem = nqn }) valid (not-false (has_port c.ports port) there) (not-false (has_subsystem c.subsystems nqn) subsystem) absent
IsValid-effect c (LinkDel port nqn) valid = λ port_there subsystem there. IsValid-without_link c port nqn valid
IsValid-effect c (HostAdd nqn) valid = λ absent fits. IsValid-with_host c nqn valid fits
IsValid-effect c (HostDel nqn) valid = λ there free unshown. IsValid-without_host c nqn valid free unshown
IsValid-effect c (AllowAdd nqn host) valid = λ subsystem live absent room.
    IsValid-with_allow c (record { subsystem = nqn; host = host }) valid (not-false (has_subsystem c.subsystems nqn) subsystem) (not-false (has_live_host c.hosts host) live) absent room
IsValid-effect c (AllowDel nqn host) valid = λ subsystem live there. IsValid-without_allow c nqn host valid
IsValid-effect c (AnaSet port nqn group state) valid = λ sound port_there subsystem linked.
    IsValid-with_ana_state c port nqn group state valid (not-false (is_group group) sound) (not-false (has_link c.links port nqn) linked)
IsValid-effect c (ReferralAdd e) valid = λ number text listens absent room. IsValid-with_referral c (port_of e) valid (sound_port e number text listens) absent room
IsValid-effect c (ReferralSet e) valid = λ number text listens there. IsValid-with_referral_set c (port_of e) valid (sound_port e number text listens)
IsValid-effect c (ReferralDel id) valid = λ there. IsValid-without_referral c id valid

pub IsValid-accept : (c : Configuration) (edit : Edit) → IsValid c → IfOk (accept c edit) IsValid
IsValid-accept c edit valid = IfOk-accept c edit IsValid (IsValid-effect c edit valid)
