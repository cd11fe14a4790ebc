use Rattle.std.proofs.Common.{◌≡◌, sym, ◌∙◌, rules}
use Rattle.data_transfer.specs.Queue.{no_tags}
use Rattle.data_transfer.proofs.Counts.{uncounted_in}
use Rattle.data_transfer.proofs.queue.Queue.release.Goals as goal

pub returns-then-self-eq0 : goal.returns-then-self-eq0
returns-then-self-eq0 g c =
    let emptied : c.match-self.self ≡ no_tags = search rules in
    emptied ∙ sym (uncounted_in c.self.inside.count c.self.inside.table c.self.invariant c.if-self-eq0.true) ∙ c.self.view_is
