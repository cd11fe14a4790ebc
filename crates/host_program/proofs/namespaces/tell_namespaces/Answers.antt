use Rattle.std.proofs.Common.{◌∷◌, refl, inr, arith}
use Rattle.std.proofs.lemmas.Result.{err_from_is_err_and}
use Rattle.host_program.proofs.namespaces.tell_namespaces.Goals as goal

pub returns-in_err-last : goal.returns-in_err-last
returns-in_err-last g c =
    let i = c.loop.invariant in
    let r = c.from_residual in
    let p = err_from_is_err_and r.result r.ensures.1 in
    rw (p.1, p.2) (record {
      above = i.0;
      stands = c.loop.session;
      printed = g.W.Write.contents c.loop.out;
      before = i.3;
      after = c.tell_namespaces_above.new.session;
      ends = inr (rw i.2 at c.in_err-last.ensures);
    })

pub loop-preserved : goal.loop-preserved
loop-preserved g c =
    let i = c.loop.invariant in
    (c.in-Some.last ∷ i.0, omega (arith, i.1), refl, (c.loop.session, g.W.Write.contents c.loop.out, i.3, rw (i.2, c.in-Some.is) at c.in_ok-last.ensures))
