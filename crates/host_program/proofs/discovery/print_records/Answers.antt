use Rattle.std.proofs.Common.{List, ◌++◌, ap, ◌∙◌}
use Rattle.std.specs.Prelude.{flat_map}
use Rattle.std.proofs.lemmas.Result.{err_from_is_err_and}
use Rattle.host_program.specs.Lines.{record_line}
use Rattle.host_program.proofs.Printing.{all_printed, fails, more}
use Rattle.host_program.proofs.discovery.print_records.Goals as goal

pub returns-in_err-print_record : goal.returns-in_err-print_record
returns-in_err-print_record g c =
    let i = c.loop-found.invariant.printed in
    let r = c.from_residual in
    let p = err_from_is_err_and r.result r.ensures.1 in
    rw (p.1, p.2) (fails _ i.0 (record_line c.in-Some.found) (flat_map record_line c.next.new.self) _ (g.W.Write.contents c.args.out.now) (g.W.Write.contents c.loop-found.out) (g.W.Write.contents c.print_record.new.out)
    (i.1 ∙ ap (λ (l : List (List _)). i.0 ++ flat_map record_line l) c.in-Some.ensures.steps) i.2 c.in_err-print_record.ensures)

pub loop-found-preserved : goal.loop-found-preserved
loop-found-preserved g c =
    let i = c.loop-found.invariant.printed in
    let m = more _ i.0 (record_line c.in-Some.found) (flat_map record_line c.next.new.self) (g.W.Write.contents c.args.out.now) (g.W.Write.contents c.loop-found.out) (g.W.Write.contents c.print_record.new.out)
    (i.1 ∙ ap (λ (l : List (List _)). i.0 ++ flat_map record_line l) c.in-Some.ensures.steps) i.2 c.in_ok-print_record.ensures in
    record { next = tt; finite = tt; printed = (i.0 ++ record_line c.in-Some.found, m.0, m.1) }

pub returns : goal.returns
returns g c =
    let i = c.loop-found.invariant.printed in
    all_printed _ i.0 _ _ _ i.1 (ap (λ (l : List (List _)). flat_map record_line l) c.in-None.ensures.steps.0) i.2
