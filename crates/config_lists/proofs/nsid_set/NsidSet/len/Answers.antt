use Rattle.std.proofs.Common.{ℕ, ap, ◌∙◌, inl, arith, length}
use Rattle.std.proofs.lemmas.Iterator.Consumers.{YieldsList-from_first, count_from_yields_List}
use Rattle.config_lists.proofs.nsid_set.NsidSet.len.Goals as goal

pub count-requires-clause-fits : goal.count-requires-clause-fits
count-requires-clause-fits c =
    inl (omega (arith, c.iter.ensures.few))

pub returns : goal.returns
returns c =
    count_from_yields_List c.iter.result c.count.result c.count.ensures.ran (YieldsList-from_first (λ (x : ℕ). x) (λ nsids. nsids) c.iter.result (λ i. c.iter.result))
    ∙ ap length c.iter.ensures.all
