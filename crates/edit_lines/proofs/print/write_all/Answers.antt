use Rattle.std.proofs.Common.{◌++◌, drop, length-drop, take, arith}
use Rattle.std.proofs.KnownBytes.{Appends-trans}
use Rattle.std.proofs.lemmas.List.{take_all}
use Rattle.edit_lines.proofs.Fronts.{moves_front}
use Rattle.edit_lines.proofs.print.write_all.Goals as goal

pub loop-rest-preserved : goal.loop-rest-preserved
loop-rest-preserved g c =
    let before = c.loop-rest.invariant in
    let rest = c.loop-rest.rest.now in
    let n = c.in_ok-taken.taken in (
      before.0 ++ take n rest,
      moves_front c.args.text.now before.0 rest _ n before.1 (take_all _ (drop n rest) (omega (arith, length-drop n rest))),
      Appends-trans (g.W.Write.contents c.args.out.now) (g.W.Write.contents c.loop-rest.out) (g.W.Write.contents c.write_some.new.out) before.0
          (take n rest) before.2 c.in_ok-taken.ensures.taken,
    )
