use Rattle.std.proofs.Common.{List, ◌++◌, ap, ◌∙◌}
use Rattle.std.specs.Prelude.{flat_map}
use Rattle.std.proofs.lemmas.Result.{err_from_is_err_and}
use Rattle.host_program.specs.Lines.{group_line}
use Rattle.host_program.proofs.Printing.{all_printed, fails, more}
use Rattle.host_program.proofs.access.print_groups.Goals as goal

pub returns-in_err-print_group : goal.returns-in_err-print_group
returns-in_err-print_group g c =
    let i = c.loop-group.invariant.printed in
    let r = c.from_residual in
    let p = err_from_is_err_and r.result r.ensures.1 in
    rw (p.1, p.2) (fails _ i.0 (group_line c.in-Some.group) (flat_map group_line c.next.new.self) _ (g.W.Write.contents c.args.out.now) (g.W.Write.contents c.loop-group.out) (g.W.Write.contents c.print_group.new.out)
    (i.1 ∙ ap (λ (l : List (List _)). i.0 ++ flat_map group_line l) c.in-Some.ensures.steps) i.2 c.in_err-print_group.ensures)

pub loop-group-preserved : goal.loop-group-preserved
loop-group-preserved g c =
    let i = c.loop-group.invariant.printed in
    let m = more _ i.0 (group_line c.in-Some.group) (flat_map group_line c.next.new.self) (g.W.Write.contents c.args.out.now) (g.W.Write.contents c.loop-group.out) (g.W.Write.contents c.print_group.new.out)
    (i.1 ∙ ap (λ (l : List (List _)). i.0 ++ flat_map group_line l) c.in-Some.ensures.steps) i.2 c.in_ok-print_group.ensures in
    record { next = tt; finite = tt; printed = (i.0 ++ group_line c.in-Some.group, m.0, m.1) }

pub returns : goal.returns
returns g c =
    let i = c.loop-group.invariant.printed in
    all_printed _ i.0 _ _ _ i.1 (ap (λ (l : List (List _)). flat_map group_line l) c.in-None.ensures.steps.0) i.2
