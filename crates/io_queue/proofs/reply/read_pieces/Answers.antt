use Rattle.std.proofs.Common.{◌∙◌, [], arith}
use Rattle.io_queue.proofs.Pieces.{can_read, front_stays, next_part, part_room, spare_begun}
use Rattle.io_queue.proofs.Readings.{all_read, front_read, next_read, spare_read}
use Rattle.io_queue.proofs.reply.read_pieces.Goals as goal

pub part_of-part-requires : goal.part_of-part-requires
part_of-part-requires g c =
    let part = next_part _ _ _ _ _ _ _ _ _ ((rw c.in-Some.ensures.steps at c.loop-piece.invariant.reading).going []) in
    let bound = c.blocks-2.ensures.blocks in
    record { within = omega (arith, part.within, c.requires.within, bound) }

pub read_piece-requires-clause-within : goal.read_piece-requires-clause-within
read_piece-requires-clause-within g c =
    let part = next_part _ _ _ _ _ _ _ _ _ ((rw c.in-Some.ensures.steps at c.loop-piece.invariant.reading).going []) in
    (can_read c.args.extent.now c.part_of-part.result c.args.store.now c.loop-piece.store _ _ part c.part_of-part.ensures c.loop-piece.invariant.contents c.requires.within c.requires.bound).within

pub read_piece-requires-clause-bound : goal.read_piece-requires-clause-bound
read_piece-requires-clause-bound g c =
    let part = next_part _ _ _ _ _ _ _ _ _ ((rw c.in-Some.ensures.steps at c.loop-piece.invariant.reading).going []) in
    (can_read c.args.extent.now c.part_of-part.result c.args.store.now c.loop-piece.store _ _ part c.part_of-part.ensures c.loop-piece.invariant.contents c.requires.within c.requires.bound).bound

pub read_piece-requires-clause-room : goal.read_piece-requires-clause-room
read_piece-requires-clause-room g c =
    let part = next_part _ _ _ _ _ _ _ _ _ ((rw c.in-Some.ensures.steps at c.loop-piece.invariant.reading).going []) in
    (can_read c.args.extent.now c.part_of-part.result c.args.store.now c.loop-piece.store _ _ part c.part_of-part.ensures c.loop-piece.invariant.contents c.requires.within c.requires.bound).room

pub loop-piece-preserved : goal.loop-piece-preserved
loop-piece-preserved g c =
    record {
      reading = next_read _ _ _ _ _ _ _ _ _ _ _ _ _ _ c.blocks-2.ensures.units c.requires.within
          (rw c.in-Some.ensures.steps at c.loop-piece.invariant.reading) c.part_of-part.ensures c.loop-piece.invariant.contents
          c.in_ok-read_piece.ensures.placed c.in_ok-read_piece.ensures.spare;
      contents = c.read_piece.ensures.contents ∙ c.loop-piece.invariant.contents;
      faults = c.in_ok-read_piece.ensures.faults ∙ c.loop-piece.invariant.faults;
    }

pub returns-in_err-read_piece-clause-front : goal.returns-in_err-read_piece-clause-front
returns-in_err-read_piece-clause-front g c =
    let going = c.loop-piece.invariant.reading.going [] in
    front_stays c.args.output.now.items c.loop-piece.output.items going.done _ going.behind c.read_piece.ensures.front

pub returns-in_err-read_piece-clause-spare : goal.returns-in_err-read_piece-clause-spare
returns-in_err-read_piece-clause-spare g c =
    let going = (rw c.in-Some.ensures.steps at c.loop-piece.invariant.reading).going [] in
    let part = next_part _ _ _ _ _ _ _ _ _ going in
    spare_begun _ _ _ _ _ _ _ _ _ _ c.requires.bound going (part_room c.args.extent.now c.part_of-part.result _ _ _ part c.part_of-part.ensures c.read_piece.ensures.spare)

pub returns-clause-placed : goal.returns-clause-placed
returns-clause-placed g c =
    all_read _ _ _ _ _ _ _ _ c.blocks-2.ensures.units c.requires.within (rw c.in-None.ensures.steps.0 at c.loop-piece.invariant.reading)

pub returns-clause-front : goal.returns-clause-front
returns-clause-front g c = front_read _ _ _ _ _ _ _ _ _ c.loop-piece.invariant.reading

pub returns-clause-spare : goal.returns-clause-spare
returns-clause-spare g c = spare_read _ _ _ _ _ _ _ _ _ c.requires.bound c.loop-piece.invariant.reading
