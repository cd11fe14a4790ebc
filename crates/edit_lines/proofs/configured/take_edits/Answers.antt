use Rattle.std.proofs.Common.{◌≡◌, ◌∷◌, drop, subst, ◌∙◌, arith}
use Rattle.std.proofs.lemmas.Result.{err_from_is_err_and}
use Rattle.config_text.specs.Lines.{lines_of}
use Rattle.edit_lines.specs.Configured.{Configures, TransitionsByLines}
use Rattle.config_text.proofs.LineLemmas.{length-lines_of}
use Rattle.edit_lines.proofs.Taking.{IsNext, all_taken, before_more, moved_more, next_line, refused_at}
use Rattle.edit_lines.proofs.configured.take_edits.Goals as goal

pub overflow_add-number : goal.overflow_add-number
overflow_add-number g c =
    let left : drop c.loop-line.number (lines_of c.args.edits.now) ≡ c.in-Some.line.now ∷ c.next.new.self = c.loop-line.invariant.rest ∙ c.in-Some.ensures.steps in
    let next : IsNext (lines_of c.args.edits.now) c.loop-line.number c.in-Some.line.now c.next.new.self = next_line (lines_of c.args.edits.now) c.loop-line.number c.in-Some.line.now c.next.new.self left in
    omega (arith, length-lines_of c.args.edits.now)

pub loop-line-preserved : goal.loop-line-preserved
loop-line-preserved g c =
    let left : drop c.loop-line.number (lines_of c.args.edits.now) ≡ c.in-Some.line.now ∷ c.next.new.self = c.loop-line.invariant.rest ∙ c.in-Some.ensures.steps in
    let next : IsNext (lines_of c.args.edits.now) c.loop-line.number c.in-Some.line.now c.next.new.self = next_line (lines_of c.args.edits.now) c.loop-line.number c.in-Some.line.now c.next.new.self left in
    record {
      rest = next.after;
      counted = omega (arith, next.below);
      before = before_more (lines_of c.args.edits.now) c.loop-line.number c.in-Some.line.now c.next.new.self _ _ _ left c.loop-line.invariant.before c.in_ok-take_edit.ensures.takes;
      transition = moved_more (lines_of c.args.edits.now) c.loop-line.number c.in-Some.line.now c.next.new.self _ _ _ left c.loop-line.invariant.transition c.in_ok-take_edit.ensures.transition;
    }

pub returns-in_err-take_edit-clause-fault : goal.returns-in_err-take_edit-clause-fault
returns-in_err-take_edit-clause-fault g c =
    let left : drop c.loop-line.number (lines_of c.args.edits.now) ≡ c.in-Some.line.now ∷ c.next.new.self = c.loop-line.invariant.rest ∙ c.in-Some.ensures.steps in
    let p = err_from_is_err_and c.from_residual.result c.from_residual.ensures.1 in
    rw (p.1, p.2) (refused_at _ c.args.edits.now c.loop-line.number c.in-Some.line.now c.next.new.self _ _ left c.loop-line.invariant.before c.in_err-take_edit.ensures.takes)

pub returns-clause-ok : goal.returns-clause-ok
returns-clause-ok g c =
    let all = all_taken (lines_of c.args.edits.now) c.loop-line.number (c.loop-line.invariant.rest ∙ c.in-None.ensures.steps.0) in
    subst (λ lines. Configures lines c.args.target.now.config c.loop-line.target.config) all c.loop-line.invariant.before

pub returns-clause-transition : goal.returns-clause-transition
returns-clause-transition g c =
    let all = all_taken (lines_of c.args.edits.now) c.loop-line.number (c.loop-line.invariant.rest ∙ c.in-None.ensures.steps.0) in
    subst (λ lines. TransitionsByLines lines c.args.target.now c.loop-line.target) all c.loop-line.invariant.transition
