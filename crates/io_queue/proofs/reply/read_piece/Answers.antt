use Rattle.std.proofs.Common.{◌≡◌, ◌∙◌, ◌+◌, ◌-◌, ◌*◌, ap, sym, length, replicate, arith}
use Rattle.std.proofs.lemmas.Result.{on_ok_weaker}
use Rattle.io_queue.specs.Reply.{pdu_with}
use Rattle.io_queue.proofs.Pieces.{front_of, has_room, lent_len, over_end}
use Rattle.io_queue.proofs.Readings.{found_in}
use Rattle.io_queue.proofs.reply.read_piece.Goals as goal

pub returns-clause-placed : goal.returns-clause-placed
returns-clause-placed g c =
    let n = c.args.part.now.units * 512 in
    let over = rw c.unwrap.ensures at c.write.ensures.written_over in
    let appended = (rw c.unwrap.ensures at c.write.ensures.room).1 in
    let fits = has_room c.write.new.out.items c.args.output.now.items (front_of c.args.format c.args.piece.now (length (replicate n 0))) n appended in
    let within : c.len.result - n + n ≡ length c.write.new.out.items = omega (arith, c.len.ensures.value, fits) in
    let lent = lent_len c.as_mut_slice.result.now (c.len.result - n) n (within ∙ ap length (sym c.as_mut_slice.ensures.value)) in
    let long : length c.read.new.out ≡ n = c.read.auto.out ∙ lent in
    on_ok_weaker c.read.result
    (λ read. record {
      bytes = c.read.new.out;
      long = omega (arith, long);
      sends = over_end c.write.new.out.items c.as_mut_slice.result.now c.read.new.out c.args.output.now.items (c.len.result - n) n _
          (pdu_with c.args.format c.args.piece.now) c.as_mut_slice.ensures.value within long over;
      strays = found_in c.read.new.out c.args.store.now.contents c.args.part.now.first _ c.args.part.now.units _ _ lent read;
    })
    c.read.ensures.found
