use Rattle.std.proofs.Common.{◌≡◌, ◌∙◌, arith, subst}
use Rattle.std.proofs.lemmas.List.{length-set}
use Rattle.std.specs.Prelude.{◌<◌, ℕ, false, is_some, slice_index_or}
use Rattle.tables.specs.NumberTable.{place}
use Rattle.target_core.proofs.Knowing.{all_marked, marked_more}
use Rattle.target_core.proofs.marks.Marks.of.Goals as goal

pub loop-k-preserved : goal.loop-k-preserved
loop-k-preserved g c = record {
  marked = marked_more c.args.target.now c.loop-k.known c.loop-k.k c.is_known.result (omega (arith, c.loop-k.invariant.whole)) c.is_known.ensures.known c.loop-k.invariant.marked;
  whole = length-set c.loop-k.known c.loop-k.k c.is_known.result ∙ c.loop-k.invariant.whole;
  most = λ some. c.is_known.ensures.most;
}

pub returns : goal.returns
returns g c =
    let all : c.loop-k.k ≡ 64 = omega arith in
    all_marked c.args.target.now c.loop-k.known c.loop-k.invariant.whole (c.loop-k.invariant.most (omega arith))
    (subst (λ (n : ℕ). (j : ℕ) → j < n → slice_index_or c.loop-k.known j false ≡ is_some (place c.args.target.now.connections j)) all c.loop-k.invariant.marked)
