use Rattle.std.proofs.Common.{ℕ, List, [], ◌++◌, ◌<◌, length, refl, sym, ap, ◌∙◌, arith}
use Rattle.std.proofs.lemmas.Bool.{eqb-true}
use Rattle.std.proofs.lemmas.Result.{err_from_is_err_and}
use Rattle.std.proofs.KnownBytes.{Appends-nil}
use Rattle.host_program.specs.Lines.{hex_line}
use Rattle.host_program.specs.Printed.{blocks_text}
use Rattle.host_program.proofs.Cutting.{next_block, text_nil}
use Rattle.host_program.proofs.Printing.{all_printed, fails, more}
use Rattle.host_program.proofs.reading.print_blocks.Goals as goal

pub loop-rest-init : goal.loop-rest-init
loop-rest-init g c = ([], refl, Appends-nil (g.W.Write.contents c.args.out.now))

pub returns-in_err-print_block : goal.returns-in_err-print_block
returns-in_err-print_block g c =
    let i = c.loop-rest.invariant in
    let len = c.args.block_len in
    let rest = c.loop-rest.rest.now in
    let some : 0 < length rest = grind (arith, c.is_empty.ensures, c.loop-rest-test.true) in
    let r = c.from_residual in
    let p = err_from_is_err_and r.result r.ensures.1 in
    rw (p.1, p.2) (fails _ i.0 (hex_line c.split_at.result.0.now) (blocks_text len c.split_at.result.1.now) _ (g.W.Write.contents c.args.out.now) (g.W.Write.contents c.loop-rest.out)
    (g.W.Write.contents c.print_block.new.out)
    (i.1 ∙ ap (λ (l : List ℕ). i.0 ++ l) (next_block len c.min.result rest c.split_at.result.0.now c.split_at.result.1.now c.requires some c.min.ensures
    c.split_at.ensures.front c.split_at.ensures.back)) i.2 c.in_err-print_block.ensures)

pub loop-rest-preserved : goal.loop-rest-preserved
loop-rest-preserved g c =
    let i = c.loop-rest.invariant in
    let len = c.args.block_len in
    let rest = c.loop-rest.rest.now in
    let some : 0 < length rest = grind (arith, c.is_empty.ensures, c.loop-rest-test.true) in
    let m = more _ i.0 (hex_line c.split_at.result.0.now) (blocks_text len c.split_at.result.1.now) (g.W.Write.contents c.args.out.now) (g.W.Write.contents c.loop-rest.out)
    (g.W.Write.contents c.print_block.new.out)
    (i.1 ∙ ap (λ (l : List ℕ). i.0 ++ l) (next_block len c.min.result rest c.split_at.result.0.now c.split_at.result.1.now c.requires some c.min.ensures
    c.split_at.ensures.front c.split_at.ensures.back)) i.2 c.in_ok-print_block.ensures in
    (i.0 ++ hex_line c.split_at.result.0.now, m.0, m.1)

pub returns : goal.returns
returns g c =
    let i = c.loop-rest.invariant in
    all_printed _ i.0 _ _ _ i.1 (text_nil c.args.block_len c.loop-rest.rest.now (eqb-true (length c.loop-rest.rest.now) 0 (sym c.is_empty.ensures ∙ c.loop-rest-test.false))) i.2
