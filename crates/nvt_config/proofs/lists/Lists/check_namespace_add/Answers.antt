use Rattle.std.proofs.Common.{rules, ◌≡◌, nat_le, not, is_none, length, ap, sym, ◌∙◌}
use Rattle.uuid.specs.Parts.{is_nil_bytes}
use Rattle.config_lists.specs.Namespace.{block_size_of, is_group, is_nsid}
use Rattle.config_lists.specs.declared.fault.EditFault.TheVariants.{BadValue, DiskInUse, Exists, NoSuch}
use Rattle.config_lists.specs.declared.fault.Item.TheVariants as item
use Rattle.config_lists.specs.declared.fault.Value.TheVariants as value
use Rattle.nvt_config.specs.Accept.{are_bad_blocks, namespace_of, refuse, verdict}
use Rattle.nvt_config.specs.Configuration.{has_namespace, has_subsystem, has_uuid, is_disk_used, with_namespace}
use Rattle.nvt_config.proofs.Checks.{passed, past, verdict_of}
use Rattle.nvt_config.proofs.lists.Lists.check_namespace_add.Goals as goal

pub returns : goal.returns
returns c =
    let n = c.args.namespace.now in
    let configuration = c.args.self.now in
    let nsid : refuse (not (is_nsid n.nsid)) (BadValue value.Nsid) passed ≡ passed = search rules in
    let blocks : refuse (are_bad_blocks configuration n.disk n.blocks n.block_size) (BadValue value.Blocks) passed ≡ passed = search rules in
    let block_size : refuse (is_none (block_size_of n.block_size)) (BadValue value.BlockSize) passed ≡ passed = search rules in
    let uuid : refuse (is_nil_bytes n.uuid) (BadValue value.Uuid) passed ≡ passed = search rules in
    let group : refuse (not (is_group n.group)) (BadValue value.Group) passed ≡ passed = search rules in
    let subsystem : refuse (not (has_subsystem configuration.subsystems n.subsystem)) (NoSuch item.Subsystem) passed ≡ passed = search rules in
    let disk : refuse (nat_le (length configuration.units) n.disk) (NoSuch item.Disk) passed ≡ passed = search rules in
    let there = has_namespace configuration.namespaces n.subsystem n.nsid in
    let named = has_uuid configuration.namespaces n.uuid in
    let used = is_disk_used configuration.namespaces n.disk in
    c.check_namespace_names.ensures ∙ sym (
    ap verdict (past _ _ _ nsid ∙ past _ _ _ blocks ∙ past _ _ _ block_size ∙ past _ _ _ uuid ∙ past _ _ _ group ∙ past _ _ _ subsystem ∙ past _ _ _ disk)
    ∙ verdict_of there named used (Exists item.Namespace) (Exists item.Uuid) DiskInUse (with_namespace configuration (namespace_of n)))
