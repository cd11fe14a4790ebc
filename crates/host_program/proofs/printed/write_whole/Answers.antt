use Rattle.std.proofs.Common.{◌++◌, take, drop, length-drop, arith}
use Rattle.std.proofs.KnownBytes.{Appends-kept, Appends-trans}
use Rattle.std.proofs.lemmas.List.{take_all}
use Rattle.host_program.proofs.Printing.{moves_front}
use Rattle.host_program.proofs.printed.write_whole.Goals as goal
use Rattle.host_program.proofs.printed.write_whole.Goals.{in-Ok, in-Err}

pub loop-preserved : goal.loop-preserved
loop-preserved g c =
    let i = c.loop.invariant in
    let rest = c.loop.rest.now in
    elim c.match-write.branch [
      | in-Ok w ↦ rw w.rest-is (
        i.0 ++ take w.in-Ok.taken rest,
        moves_front c.args.text.now i.0 rest _ w.in-Ok.taken i.1 (take_all _ (drop w.in-Ok.taken rest) (omega (arith, length-drop w.in-Ok.taken rest))),
        Appends-trans (g.W.Write.contents c.args.out.now) (g.W.Write.contents c.loop.out) (g.W.Write.contents c.write.new.self) i.0 (take w.in-Ok.taken rest) i.2 w.in-Ok.ensures.bytes,
      )
      | in-Err w ↦ rw w.rest-is (
        i.0,
        i.1,
        Appends-kept (g.W.Write.contents c.args.out.now) (g.W.Write.contents c.loop.out) (g.W.Write.contents c.write.new.self) i.0 i.2 w.in-Err.ensures.bytes,
      )
    ]
