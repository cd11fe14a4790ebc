use Rattle.std.proofs.Common.{rules, ◌≡◌, ◌∙◌}
use Rattle.host_pages.specs.Discover.{asked}
use Rattle.host_pages.proofs.Ordered.{asks_in_order}
use Rattle.host_pages.proofs.discover.Discover.ask.Goals as goal

pub returns-in-Asking-clause-order : goal.returns-in-Asking-clause-order
returns-in-Asking-clause-order c given a failed bytes is under =
    let next = asks_in_order c.args.self.now given a failed bytes is under in
    let same : c.next_read.result ≡ asked c.args.self.now = search rules in
    (next.0, same ∙ next.1)
