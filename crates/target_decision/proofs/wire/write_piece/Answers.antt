use Rattle.std.proofs.Common.{◌≡◌, ◌∙◌, ◌+◌, ◌-◌, ◌++◌, ap, sym, length, replicate, arith}
use Rattle.std.specs.List.{slice_range}
use Rattle.io_queue.specs.Reply.{pdu_with}
use Rattle.io_queue.proofs.Pieces.{front_of, has_room, lent_len, over_end}
use Rattle.target_decision.specs.Data.{bytes_of}
use Rattle.target_decision.proofs.Pieces.{part_long}
use Rattle.target_decision.proofs.wire.write_piece.Goals as goal

pub returns-clause-items : goal.returns-clause-items
returns-clause-items c =
    let n = c.args.piece.now.len in
    let at = c.args.piece.now.offset in
    let bytes = bytes_of c.args.payload.now in
    let over = rw c.unwrap.ensures at c.write.ensures.written_over in
    let appended = (rw c.unwrap.ensures at c.write.ensures.room).1 in
    let fits = has_room c.write.new.out.items c.args.output.now.items (front_of c.args.format c.args.piece.now (length (replicate n 0))) n appended in
    let within : c.len.result - n + n ≡ length c.write.new.out.items = omega (arith, c.len.ensures.value, fits) in
    let lent = lent_len c.as_mut_slice.result.now (c.len.result - n) n (within ∙ ap length (sym c.as_mut_slice.ensures.value)) in
    let same : c.write_part.new.out ≡ slice_range bytes at (at + n) = c.write_part.ensures.part ∙ ap (λ k. slice_range bytes at (at + k)) lent in
    over_end c.write.new.out.items c.as_mut_slice.result.now c.write_part.new.out c.args.output.now.items (c.len.result - n) n _ (pdu_with c.args.format c.args.piece.now)
    c.as_mut_slice.ensures.value within (ap length same ∙ part_long c.args.payload.now.payload bytes at n c.write_part.ensures.len c.requires.part) over
    ∙ ap (λ payload. c.args.output.now.items ++ pdu_with c.args.format c.args.piece.now payload) same
