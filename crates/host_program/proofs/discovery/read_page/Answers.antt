use Rattle.std.proofs.Common.{suc, Ok, subst}
use Rattle.host_program.specs.Discovering.{ReadsPart}
use Rattle.host_program.proofs.discovery.read_page.Goals as goal

pub loop-preserved : goal.loop-preserved
loop-preserved g c =
    let i = c.loop.invariant in
    let read = subst (λ p. ReadsPart c.loop.reading (Ok p) c.read_part.new.reading c.loop.session c.read_part.new.session) c.in-Asking.is c.in_ok-read_part.ensures.reads in
    (suc i.0, (c.loop.reading, c.loop.session, i.1, read))
