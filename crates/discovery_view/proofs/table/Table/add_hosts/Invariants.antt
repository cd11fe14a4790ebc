use Rattle.std.proofs.Common.{◌≡◌, drop, map}
use Rattle.std.specs.Option.{option_copied}
use Rattle.nvt_config.specs.Configuration.{has_host}
use Rattle.discovery_view.specs.Ready.{next_places, shown_before, stranger, with_rows}
use Rattle.discovery_view.proofs.table.Table.add_hosts.Given as goal

-- with the rows of the hosts that are left the table is the one with those of all, and no host so far has the long name
abbrev pub invariant-loop-host : goal.invariant-loop-host
invariant-loop-host l =
    record {
      rows : with_rows (next_places (shown_before (option_copied l.before)) l.catalog) l.self (map (λ host. host.nqn) (drop l.host-index l.host-items))
          ≡ with_rows (next_places (shown_before (option_copied l.before)) l.catalog) l.fn.self (map (λ host. host.nqn) l.host-items);
      short : has_host l.host-items stranger ≡ has_host (drop l.host-index l.host-items) stranger;
    }
