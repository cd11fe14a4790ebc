use Rattle.std.proofs.Common.{◌≡◌, ◌∙◌}
use Rattle.config_lists.specs.Numbered.{active_nsids}
use Rattle.change_lists.proofs.Ready.{table_active}
use Rattle.change_lists.proofs.nsid_list.NsidList.of.Goals as goal

pub returns : goal.returns
returns c =
    let seen = c.args.seen.now in
    let all : c.nsids.result ≡ active_nsids seen.namespaces c.args.subsystem.now =
    c.nsids.ensures.all ∙ table_active seen.namespaces c.args.subsystem.now c.table-table.result c.table-table.ensures.found in
    rw all at c.listed.ensures
