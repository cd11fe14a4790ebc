use Rattle.std.proofs.Common.{sym}
use Rattle.tables.specs.NumberTable.{place}
use Rattle.target_state.proofs.Staying.{nothing_gone}
use Rattle.target_core.proofs.Settling.{nothing_drops, nothing_settles}
use Rattle.target_core.proofs.settle.settle.Goals as goal

pub returns-in-Nothing-clause-connections : goal.returns-in-Nothing-clause-connections
returns-in-Nothing-clause-connections c =
    rw c.in-Nothing.is (sym (nothing_settles _
    (λ n. nothing_gone c.args.config.now n (place c.args.tables.now.rows n) (place c.args.tables.now.own n)) c.args.connections.now))

pub returns-in-Nothing-clause-parts : goal.returns-in-Nothing-clause-parts
returns-in-Nothing-clause-parts c k t =
    rw c.in-Nothing.is (nothing_drops _
    (λ n. nothing_gone c.args.config.now n (place c.args.tables.now.rows n) (place c.args.tables.now.own n)) (place c.args.connections.now k) _)
