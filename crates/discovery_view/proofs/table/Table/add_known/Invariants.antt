use Rattle.std.proofs.Common.{◌≡◌, map}
use Rattle.std.specs.Option.{option_copied}
use Rattle.discovery_view.specs.Ready.{names_before, next_places, shown_before, with_rows}
use Rattle.discovery_view.proofs.table.Table.add_known.Given as goal

-- with the rows of the names that are left the table is the one with those of all
abbrev pub invariant-loop-name : goal.invariant-loop-name
invariant-loop-name l =
    record {
      next : (goal.iterator-loop-name).can_next l.name-iterator;
      finite : (goal.iterator-loop-name).is_finite l.name-iterator;
      rows : with_rows (next_places (shown_before (option_copied l.before)) l.catalog) l.self (map (λ e. e.0.items) l.name-iterator)
          ≡ with_rows (next_places (shown_before (option_copied l.before)) l.catalog) l.fn.self (names_before (shown_before (option_copied l.before)));
    }
