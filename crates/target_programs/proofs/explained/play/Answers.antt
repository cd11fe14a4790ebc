use Rattle.std.proofs.Common.{◌≡◌, ◌||◌, ◌∷◌, drop, subst, ◌∙◌, arith}
use Rattle.std.proofs.lemmas.Result.{err_from_is_err_and}
use Rattle.std.specs.List.{All}
use Rattle.config_text.specs.Lines.{lines_of}
use Rattle.config_text.proofs.LineLemmas.{length-lines_of}
use Rattle.edit_lines.proofs.Taking.{IsNext, all_taken, next_line}
use Rattle.nvt_replay.proofs.ReplayLemmas.{well_formed_more}
use Rattle.edit_lines.specs.StreamLine.{IsStreamLine}
use Rattle.target_programs.proofs.Lines.{ends_at}
use Rattle.target_programs.proofs.explained.play.Goals as goal

pub overflow_add-number : goal.overflow_add-number
overflow_add-number g c =
    let left : drop c.loop-line.number (lines_of c.args.stream.now) ≡ c.in-Some.line.now ∷ c.next.new.self = c.loop-line.invariant.rest ∙ c.in-Some.ensures.steps in
    let next : IsNext (lines_of c.args.stream.now) c.loop-line.number c.in-Some.line.now c.next.new.self = next_line (lines_of c.args.stream.now) c.loop-line.number c.in-Some.line.now c.next.new.self left in
    omega (arith, next.below, length-lines_of c.args.stream.now)

pub loop-line-preserved : goal.loop-line-preserved
loop-line-preserved g c =
    let left : drop c.loop-line.number (lines_of c.args.stream.now) ≡ c.in-Some.line.now ∷ c.next.new.self = c.loop-line.invariant.rest ∙ c.in-Some.ensures.steps in
    let next : IsNext (lines_of c.args.stream.now) c.loop-line.number c.in-Some.line.now c.next.new.self = next_line (lines_of c.args.stream.now) c.loop-line.number c.in-Some.line.now c.next.new.self left in
    record {
      rest = next.after;
      counted = omega (arith, next.below);
      before = well_formed_more (lines_of c.args.stream.now) c.loop-line.number c.in-Some.line.now c.next.new.self left c.loop-line.invariant.before c.in_ok-play_line.ensures.ok;
    }

pub returns-in_err-play_line-clause-fault : goal.returns-in_err-play_line-clause-fault
returns-in_err-play_line-clause-fault g c =
    let left : drop c.loop-line.number (lines_of c.args.stream.now) ≡ c.in-Some.line.now ∷ c.next.new.self = c.loop-line.invariant.rest ∙ c.in-Some.ensures.steps in
    let p = err_from_is_err_and c.from_residual.result c.from_residual.ensures.1 in
    rw (p.1, p.2) (ends_at (c.play_line.new.playback.printer.writes.has_failed || c.play_line.new.has_failed) _ (lines_of c.args.stream.now) c.loop-line.number c.in-Some.line.now c.next.new.self left c.loop-line.invariant.before c.in_err-play_line.ensures.fault)

pub returns-clause-ok : goal.returns-clause-ok
returns-clause-ok g c =
    let all = all_taken (lines_of c.args.stream.now) c.loop-line.number (c.loop-line.invariant.rest ∙ c.in-None.ensures.steps.0) in
    subst (All IsStreamLine) all c.loop-line.invariant.before
