use Rattle.std.proofs.Common.{inr}
use Rattle.io_queue.proofs.Sending.{goes_on}
use Rattle.admin_queue.specs.Controller.{controller_in}
use Rattle.target_decision.specs.World.{world_in}
use Rattle.target_decision.proofs.Pieces.{given_done, is_long, next_part}
use Rattle.target_decision.proofs.wire.write_pieces.Goals as goal

pub write_piece-requires-clause-part : goal.write_piece-requires-clause-part
write_piece-requires-clause-part c = (next_part _ _ _ _ _ _ _ _ _ (rw c.in-Some.ensures.steps at c.loop-piece.invariant.sending)).part

pub write_piece-requires-clause-room : goal.write_piece-requires-clause-room
write_piece-requires-clause-room c = (next_part _ _ _ _ _ _ _ _ _ (rw c.in-Some.ensures.steps at c.loop-piece.invariant.sending)).room

pub write_piece-requires-clause-bound : goal.write_piece-requires-clause-bound
write_piece-requires-clause-bound c = (next_part _ _ _ _ _ _ _ _ _ (rw c.in-Some.ensures.steps at c.loop-piece.invariant.sending)).bound

pub loop-piece-preserved : goal.loop-piece-preserved
loop-piece-preserved c =
    record {
      sending = goes_on _ _ _ _ _ _ _ _ _ _ _ (rw c.in-Some.ensures.steps at c.loop-piece.invariant.sending) c.write_piece.ensures.items c.write_piece.ensures.spare;
      long = inr c.write_piece.ensures.len;
    }

pub returns-clause-items : goal.returns-clause-items
returns-clause-items c =
    let rest = c.in-None.ensures.steps.0 in
    let payload = c.args.payload.now in
    let world = world_in payload.world.now in
    given_done _ _ _ _ _ _ _
    (is_long payload.payload world.pages world.config (controller_in payload.controller) _ c.loop-piece.invariant.long rest)
    (rw rest at c.loop-piece.invariant.sending)
