use Rattle.std.proofs.Common.{◌≡◌, ℕ, List, ◌∷◌, drop, subst, ◌∙◌, arith}
use Rattle.std.proofs.lemmas.Result.{err_from_is_err_and}
use Rattle.std.specs.List.{All}
use Rattle.config_text.specs.Lines.{lines_of}
use Rattle.edit_lines.specs.StreamLine.{IsStreamLine}
use Rattle.config_text.proofs.LineLemmas.{length-lines_of}
use Rattle.nvt_replay.specs.Played.{PlaysAll, Prints}
use Rattle.nvt_replay.proofs.Cutting.{script_cut}
use Rattle.nvt_replay.proofs.Faulting.{ends_script, plays_before}
use Rattle.nvt_replay.proofs.Playing.{played_before, played_more}
use Rattle.edit_lines.proofs.Taking.{IsNext, all_taken, next_line}
use Rattle.nvt_replay.proofs.ReplayLemmas.{is_stream_line, malformed_at, well_formed_more}
use Rattle.nvt_replay.proofs.playback.Playback.run.Goals as goal

pub overflow_add-number : goal.overflow_add-number
overflow_add-number g c =
    let left : drop c.loop-line.number (lines_of c.args.stream.now) ≡ c.in-Some.line.now ∷ c.next.new.self = c.loop-line.invariant.rest ∙ c.in-Some.ensures.steps in
    let next : IsNext (lines_of c.args.stream.now) c.loop-line.number c.in-Some.line.now c.next.new.self = next_line (lines_of c.args.stream.now) c.loop-line.number c.in-Some.line.now c.next.new.self left in
    omega (arith, length-lines_of c.args.stream.now)

pub loop-line-preserved : goal.loop-line-preserved
loop-line-preserved g c =
    let left : drop c.loop-line.number (lines_of c.args.stream.now) ≡ c.in-Some.line.now ∷ c.next.new.self = c.loop-line.invariant.rest ∙ c.in-Some.ensures.steps in
    let next : IsNext (lines_of c.args.stream.now) c.loop-line.number c.in-Some.line.now c.next.new.self = next_line (lines_of c.args.stream.now) c.loop-line.number c.in-Some.line.now c.next.new.self left in
    record {
      rest = next.after;
      counted = omega (arith, next.below);
      before = well_formed_more (lines_of c.args.stream.now) c.loop-line.number c.in-Some.line.now c.next.new.self left c.loop-line.invariant.before (is_stream_line c.in-Some.line.now c.in-Some-read_stream_line.line c.in-Some-read_stream_line.ensures.some);
      played = played_more (lines_of c.args.stream.now) c.loop-line.number c.in-Some.line.now c.next.new.self c.in-Some-read_stream_line.line
          c.args.self.now.connections c.loop-line.self.connections c.play.new.self.connections
          (g.W.Write.contents c.args.out.now) (g.W.Write.contents c.loop-line.out) (g.W.Write.contents c.play.new.out)
          left c.in-Some-read_stream_line.ensures.some c.loop-line.invariant.played c.in_ok-play-in-Some-read_stream_line.ensures.played;
    }

pub returns-in-None-read_stream_line-clause-fault : goal.returns-in-None-read_stream_line-clause-fault
returns-in-None-read_stream_line-clause-fault g c =
    let left : drop c.loop-line.number (lines_of c.args.stream.now) ≡ c.in-Some.line.now ∷ c.next.new.self = c.loop-line.invariant.rest ∙ c.in-Some.ensures.steps in
    malformed_at (lines_of c.args.stream.now) c.loop-line.number c.in-Some.line.now c.next.new.self left c.loop-line.invariant.before c.in-None-read_stream_line.ensures.none

pub returns-in-None-read_stream_line-clause-before : goal.returns-in-None-read_stream_line-clause-before
returns-in-None-read_stream_line-clause-before g c =
    played_before (lines_of c.args.stream.now) c.loop-line.number c.args.self.now.connections c.loop-line.self.connections
    (g.W.Write.contents c.args.out.now) (g.W.Write.contents c.loop-line.out) c.loop-line.invariant.played

pub returns-clause-played : goal.returns-clause-played
returns-clause-played g c =
    let all = all_taken (lines_of c.args.stream.now) c.loop-line.number (c.loop-line.invariant.rest ∙ c.in-None.ensures.steps.0) in
    subst (λ (lines : List (List ℕ)). Prints (g.W.Write.contents c.args.out.now) (g.W.Write.contents c.loop-line.out)
    (λ text. PlaysAll lines c.args.self.now.connections text c.loop-line.self.connections)) all c.loop-line.invariant.played

pub returns-clause-ok : goal.returns-clause-ok
returns-clause-ok g c =
    let all = all_taken (lines_of c.args.stream.now) c.loop-line.number (c.loop-line.invariant.rest ∙ c.in-None.ensures.steps.0) in
    subst (All IsStreamLine) all c.loop-line.invariant.before

pub returns-in_err-play-in-Some-read_stream_line-clause-fault : goal.returns-in_err-play-in-Some-read_stream_line-clause-fault
returns-in_err-play-in-Some-read_stream_line-clause-fault g c =
    let p = err_from_is_err_and c.from_residual.result c.from_residual.ensures.1 in
    rw (p.1, p.2) (ends_script _ c.play.new.self.printer.writes.has_failed (lines_of c.args.stream.now) c.in_err-play-in-Some-read_stream_line.ensures.fault)

pub returns-in_err-play-in-Some-read_stream_line-clause-before : goal.returns-in_err-play-in-Some-read_stream_line-clause-before
returns-in_err-play-in-Some-read_stream_line-clause-before g c =
    let left : drop c.loop-line.number (lines_of c.args.stream.now) ≡ c.in-Some.line.now ∷ c.next.new.self = c.loop-line.invariant.rest ∙ c.in-Some.ensures.steps in
    let p = err_from_is_err_and c.from_residual.result c.from_residual.ensures.1 in
    rw (p.1, p.2) (plays_before _ c.play.new.self.printer.writes.has_failed (lines_of c.args.stream.now) c.args.self.now.connections
    (g.W.Write.contents c.args.out.now) (g.W.Write.contents c.play.new.out) c.in_err-play-in-Some-read_stream_line.ensures.fault
    (script_cut (lines_of c.args.stream.now) c.loop-line.number c.in-Some.line.now c.next.new.self c.in-Some-read_stream_line.line
    c.args.self.now.connections c.loop-line.self.connections c.play.new.self.connections
    (g.W.Write.contents c.args.out.now) (g.W.Write.contents c.loop-line.out) (g.W.Write.contents c.play.new.out)
    left c.in-Some-read_stream_line.ensures.some c.loop-line.invariant.played c.in_err-play-in-Some-read_stream_line.ensures.begun))
