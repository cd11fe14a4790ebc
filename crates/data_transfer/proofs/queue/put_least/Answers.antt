use Rattle.std.proofs.Common.{◌<◌, unwrap_or, ap, ◌∙◌, arith}
use Rattle.tables.specs.NumberTable.{place}
use Rattle.data_transfer.proofs.Counts.{count_of-begun}
use Rattle.data_transfer.proofs.Tags.{free_tag-found, free_within, nothing-found}
use Rattle.data_transfer.proofs.queue.put_least.Goals as goal

pub returns-clause-least : goal.returns-clause-least
returns-clause-least g c =
    free_tag-found c.args.table.now _ c.requires.tags c.requires.room (c.unwrap_or-ttag.ensures ∙ ap (λ o. unwrap_or o 0) c.least_free.ensures)

pub put-requires-clause-empty : goal.put-requires-clause-empty
put-requires-clause-empty g c =
    nothing-found c.args.table.now _ c.requires.room
    (free_tag-found c.args.table.now _ c.requires.tags c.requires.room (c.unwrap_or-ttag.ensures ∙ ap (λ o. unwrap_or o 0) c.least_free.ensures))

pub returns-clause-counted : goal.returns-clause-counted
returns-clause-counted g c =
    let table = c.args.table.now in
    let first = free_tag-found table _ c.requires.tags c.requires.room (c.unwrap_or-ttag.ensures ∙ ap (λ o. unwrap_or o 0) c.least_free.ensures) in
    let within : c.unwrap_or-ttag.result < 63 = omega (arith, free_within (place table) c.requires.room, first) in
    count_of-begun table _ _ _ c.requires.tags within (nothing-found table _ c.requires.room first) c.put.ensures
