use Rattle.std.proofs.Common.{sym, ◌∙◌}
use Rattle.nvt_serve.proofs.Looking.{alive_all, alive_more}
use Rattle.nvt_serve.proofs.closing.some_ended.Goals as goal

pub loop-k-preserved : goal.loop-k-preserved
loop-k-preserved g c = record {
  none = alive_more c.loop-k.least c.in-Some.k c.args.ties.now.ending.bits c.args.target.now c.in-Some.ensures c.requires (sym c.ended.ensures.value ∙ c.if-ended.false)
      c.loop-k.invariant.none;
}

pub returns : goal.returns
returns g c = λ no. alive_all c.loop-k.least c.args.ties.now.ending.bits c.args.target.now c.in_default.ensures c.requires c.loop-k.invariant.none
