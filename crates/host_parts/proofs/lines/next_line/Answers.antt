use Rattle.std.proofs.Common.{arith}
use Rattle.std.proofs.lemmas.Grind.{common_steps}
use Rattle.host_parts.proofs.Taking.{line_ended, nothing_left, stream_ended}
use Rattle.host_parts.proofs.lines.next_line.Goals as goal
use Rattle.host_parts.proofs.lines.next_line.Goals.{then-is_empty, else-is_empty}

pub returns-in-None : goal.returns-in-None
returns-in-None g c =
    let i = c.loop.invariant in
    let old = g.S.Read.remaining c.args.stream.now in
    let mid = g.S.Read.remaining c.loop.stream in
    let new = g.S.Read.remaining c.next_byte.new.stream in
    let none = rw c.in-None.is at c.in_ok-next_byte.ensures in
    elim c.if-is_empty.branch [
      | then-is_empty w ↦ rw w.result-is (nothing_left c.loop.line.items old mid new (grind (arith, common_steps, c.is_empty.ensures, w.if-is_empty)) i.2 none)
      | else-is_empty w ↦ rw w.result-is (stream_ended c.loop.line.items old mid new i.1 i.2 none)
    ]

pub returns-in-Some-eq10 : goal.returns-in-Some-eq10
returns-in-Some-eq10 g c =
    let i = c.loop.invariant in
    let taken = c.in-Some-eq10 in
    line_ended c.loop.line.items taken.field-0 (g.S.Read.remaining c.args.stream.now) (g.S.Read.remaining c.loop.stream)
    (g.S.Read.remaining c.next_byte.new.stream) (grind (arith, taken.field-0-test)) i.1 i.2 (rw taken.is at c.in_ok-next_byte.ensures)
