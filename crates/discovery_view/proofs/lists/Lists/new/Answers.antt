use Rattle.std.proofs.Common.{None, ap, ◌∙◌}
use Rattle.discovery_view.specs.Ready.{Places}
use Rattle.discovery_view.proofs.Strangers.{rows_within, shows_first}
use Rattle.discovery_view.proofs.lists.Lists.new.Goals as goal

pub invariant_of-result : goal.invariant_of-result
invariant_of-result c =
    let slots = c.in_ok-slots.ensures ∙ c.entries.ensures.same in
    rw (slots, c.in_ok-catalog.ensures) (rows_within None c.args.config.now c.in_ok-table.table (rw c.in_ok-catalog.ensures at c.entries.ensures.ready) (rw c.in_ok-catalog.ensures at c.in_ok-table.ensures.rows) (rw c.in_ok-catalog.ensures at c.in_ok-table.ensures.strangers))

pub returns-clause-of : goal.returns-clause-of
returns-clause-of c =
    let slots = c.in_ok-slots.ensures ∙ c.entries.ensures.same in
    record {
      table = rw c.in_ok-catalog.ensures at slots;
      places = λ host. ap (λ (r : Places). r.places) (rw c.in_ok-catalog.ensures at (c.in_ok-table.ensures.rows host));
    }

pub returns-clause-shown : goal.returns-clause-shown
returns-clause-shown c =
    let slots = c.in_ok-slots.ensures ∙ c.entries.ensures.same in
    rw (slots, c.in_ok-catalog.ensures) (shows_first c.args.config.now c.in_ok-table.table (rw c.in_ok-catalog.ensures at c.in_ok-table.ensures.rows))
