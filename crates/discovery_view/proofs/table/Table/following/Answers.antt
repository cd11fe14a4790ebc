use Rattle.std.specs.Option.{option_copied}
use Rattle.discovery_view.specs.Ready.{shown_before}
use Rattle.discovery_view.proofs.Rows.{rows_strangers}
use Rattle.discovery_view.proofs.Strangers.{table_follows}
use Rattle.discovery_view.proofs.table.Table.following.Goals as goal

pub returns-clause-rows : goal.returns-clause-rows
returns-clause-rows c =
    let before = shown_before (option_copied c.args.before) in
    let config = c.args.catalog.now in
    let first = rw c.strangers_of-last.ensures at c.in_ok-strangers.ensures in
    let known = rw c.new.ensures.empty at c.in_ok-add_known.ensures in
    let rows = rw known at c.in_ok-add_hosts.ensures.rows in
    table_follows before config c.in_ok-strangers.strangers c.add_hosts.new.self c.in_ok-add_hosts.ensures.valid c.in_ok-add_hosts.ensures.short first rows

pub returns-clause-strangers : goal.returns-clause-strangers
returns-clause-strangers c =
    let before = shown_before (option_copied c.args.before) in
    let config = c.args.catalog.now in
    let first = rw c.strangers_of-last.ensures at c.in_ok-strangers.ensures in
    rw (c.in_ok-add_hosts.ensures.rows, rows_strangers, c.in_ok-add_known.ensures, rows_strangers) first
