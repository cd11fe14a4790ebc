use Rattle.std.proofs.Common.{◌≡◌, ◌<◌, ◌++◌, [], length, refl, sym, ◌∙◌, arith}
use Rattle.std.proofs.lemmas.Bool.{eqb-true}
use Rattle.std.proofs.lemmas.Result.{err_from_is_err_and}
use Rattle.std.proofs.KnownBytes.{Appends-nil, Appends-trans}
use Rattle.edit_lines.specs.Printed.{output_lines, pdu_length, pdu_line}
use Rattle.edit_lines.proofs.PduLemmas.{all_of, printed_all, printed_more, printed_part}
use Rattle.edit_lines.proofs.print.Printer.pdus.Goals as goal

pub loop-rest-init : goal.loop-rest-init
loop-rest-init g c = ([], refl, Appends-nil (g.W.Write.contents c.args.out.now))

pub returns-in_err-pdu-clause-begun : goal.returns-in_err-pdu-clause-begun
returns-in_err-pdu-clause-begun g c =
    let before = c.loop-rest.invariant in
    let k = c.args.connection in
    let rest = c.loop-rest.rest.now in
    let some : 0 < length rest = omega (arith, c.pdu_len.ensures.positive, c.pdu_len.ensures.within) in
    let len : c.pdu_len.result ≡ pdu_length rest = c.pdu_len.ensures.len in
    let p = err_from_is_err_and c.from_residual.result c.from_residual.ensures.1 in
    rw p.1 (printed_part k (output_lines k c.args.output.now) rest c.split_at.result.0.now c.split_at.result.1.now before.0
    (g.W.Write.contents c.args.out.now) (g.W.Write.contents c.loop-rest.out) (g.W.Write.contents c.pdu.new.out) some
    (rw len at c.split_at.ensures.front) (rw len at c.split_at.ensures.back) before.1 before.2 c.in_err-pdu.ensures.begun)

pub returns-in_err-pdu-clause-cut : goal.returns-in_err-pdu-clause-cut
returns-in_err-pdu-clause-cut g c = all_of c.args.output.now

pub loop-rest-preserved : goal.loop-rest-preserved
loop-rest-preserved g c =
    let before = c.loop-rest.invariant in
    let k = c.args.connection in
    let rest = c.loop-rest.rest.now in
    let pdu = c.split_at.result.0.now in
    let some : 0 < length rest = omega (arith, c.pdu_len.ensures.positive, c.pdu_len.ensures.within) in
    let len : c.pdu_len.result ≡ pdu_length rest = c.pdu_len.ensures.len in (
      before.0 ++ pdu_line k pdu,
      printed_more k (output_lines k c.args.output.now) rest pdu c.split_at.result.1.now before.0 some
          (rw len at c.split_at.ensures.front) (rw len at c.split_at.ensures.back) before.1,
      Appends-trans (g.W.Write.contents c.args.out.now) (g.W.Write.contents c.loop-rest.out) (g.W.Write.contents c.pdu.new.out) before.0
          (pdu_line k pdu) before.2 c.in_ok-pdu.ensures.printed,
    )

pub returns-clause-printed : goal.returns-clause-printed
returns-clause-printed g c =
    let before = c.loop-rest.invariant in
    let k = c.args.connection in
    let rest = c.loop-rest.rest.now in
    let none : length rest ≡ 0 = eqb-true (length rest) 0 (sym c.is_empty.ensures ∙ c.loop-rest-test.false) in
    printed_all k (output_lines k c.args.output.now) rest before.0 (g.W.Write.contents c.args.out.now) (g.W.Write.contents c.loop-rest.out)
    none before.1 before.2

pub returns-clause-cut : goal.returns-clause-cut
returns-clause-cut g c = all_of c.args.output.now
