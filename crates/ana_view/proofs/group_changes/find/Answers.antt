use Rattle.std.proofs.Common.{◌≡◌, ◌==◌, true, false, sym, ◌∙◌, arith}
use Rattle.std.proofs.lemmas.Bool.Decides.{nat_tests}
use Rattle.ana_view.specs.Group.{Descriptor}
use Rattle.ana_view.proofs.Listed.{found_here, found_later, found_never}
use Rattle.ana_view.proofs.group_changes.find.Goals as goal

pub returns-then-id : goal.returns-then-id
returns-then-id c =
    let i = c.loop-group.group-index in
    let g : Descriptor = c.group-item.result in
    let own = c.id.ensures in
    let tested = c.if-id.true in
    let same : g.id == c.args.id ≡ true = grind (arith, nat_tests, own, tested) in
    sym (found_here c.args.groups.now i c.args.id g c.loop-group-test.true c.group-item.is same) ∙ c.loop-group.invariant

pub loop-group-preserved : goal.loop-group-preserved
loop-group-preserved c =
    let i = c.loop-group.group-index in
    let g : Descriptor = c.group-item.result in
    let own = c.id.ensures in
    let tested = c.if-id.false in
    let apart : g.id == c.args.id ≡ false = grind (arith, nat_tests, own, tested) in
    found_later c.args.groups.now i c.args.id g c.loop-group-test.true c.group-item.is apart ∙ c.loop-group.invariant

pub returns : goal.returns
returns c = sym (found_never c.args.groups.now c.loop-group.group-index c.args.id c.loop-group-test.false) ∙ c.loop-group.invariant
