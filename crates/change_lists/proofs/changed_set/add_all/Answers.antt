use Rattle.std.proofs.Common.{ap, sym, ◌∙◌}
use Rattle.change_lists.specs.ChangedSet.{with_nsids}
use Rattle.change_lists.proofs.Changed.{all_joined}
use Rattle.change_lists.proofs.changed_set.add_all.Goals as goal

pub returns-clause-all : goal.returns-clause-all
returns-clause-all c =
    let set = c.loop-nsid.set in
    sym (ap (λ l. with_nsids l set) c.in-None.ensures.steps.0) ∙ c.loop-nsid.invariant.all ∙ all_joined c.args.more.now c.args.set.now c.requires
