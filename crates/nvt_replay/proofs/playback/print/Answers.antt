use Rattle.std.proofs.Common.{sym, ◌∙◌}
use Rattle.std.proofs.lemmas.Result.{err_from_is_err_and}
use Rattle.tables.specs.NumberTable.{place}
use Rattle.nvt_replay.proofs.Closing.{closed_left}
use Rattle.nvt_replay.proofs.Cutting.{closing_begun, lines_begun}
use Rattle.nvt_replay.proofs.Prints.{closed_lines, open_left, printed_lines, still_ended}
use Rattle.nvt_replay.proofs.playback.print.Goals as goal

pub returns-in_ok-event-clause-printed : goal.returns-in_ok-event-clause-printed
returns-in_ok-event-clause-printed g c =
    let old = c.args.connections.now in
    closed_lines c.args.k (place old.connections c.args.k) (g.W.Write.contents c.args.out.now) (g.W.Write.contents c.pdus.new.out)
    (g.W.Write.contents c.event.new.out) c.output.result.now c.output.ensures
    (sym (still_ended c.args.k old c.take_output.new.self c.take_output.ensures) ∙ sym c.if-is_ended.ensures)
    c.in_ok-pdus.ensures.printed c.in_ok-event.ensures.printed

pub returns-in_ok-event-clause-left : goal.returns-in_ok-event-clause-left
returns-in_ok-event-clause-left g c =
    let old = c.args.connections.now in
    closed_left c.args.k old c.take_output.new.self c.end.new.self c.take_output.ensures
    (sym (still_ended c.args.k old c.take_output.new.self c.take_output.ensures) ∙ sym c.if-is_ended.ensures) c.end.ensures

pub returns-else-is_ended-clause-printed : goal.returns-else-is_ended-clause-printed
returns-else-is_ended-clause-printed g c =
    let old = c.args.connections.now in
    printed_lines c.args.k (place old.connections c.args.k) (g.W.Write.contents c.args.out.now) (g.W.Write.contents c.pdus.new.out) c.output.result.now
    c.output.ensures (sym (still_ended c.args.k old c.take_output.new.self c.take_output.ensures) ∙ sym c.if-is_ended.ensures)
    c.in_ok-pdus.ensures.printed

pub returns-else-is_ended-clause-left : goal.returns-else-is_ended-clause-left
returns-else-is_ended-clause-left g c =
    let old = c.args.connections.now in
    open_left c.args.k old c.take_output.new.self c.take_output.ensures
    (sym (still_ended c.args.k old c.take_output.new.self c.take_output.ensures) ∙ sym c.if-is_ended.ensures)

pub returns-in_err-pdus-clause-begun : goal.returns-in_err-pdus-clause-begun
returns-in_err-pdus-clause-begun g c =
    let old = c.args.connections.now in
    let p = err_from_is_err_and c.from_residual.result c.from_residual.ensures.1 in
    rw p.1 (lines_begun c.args.k (place old.connections c.args.k) (g.W.Write.contents c.args.out.now) (g.W.Write.contents c.pdus.new.out)
    c.output.result.now c.output.ensures c.in_err-pdus.ensures.begun)

pub returns-in_err-event-clause-begun : goal.returns-in_err-event-clause-begun
returns-in_err-event-clause-begun g c =
    let old = c.args.connections.now in
    let p = err_from_is_err_and c.from_residual-in_err-event.result c.from_residual-in_err-event.ensures.1 in
    rw p.1 (closing_begun c.args.k (place old.connections c.args.k) (g.W.Write.contents c.args.out.now) (g.W.Write.contents c.pdus.new.out)
    (g.W.Write.contents c.event.new.out) c.output.result.now c.output.ensures
    (sym (still_ended c.args.k old c.take_output.new.self c.take_output.ensures) ∙ sym c.if-is_ended.ensures)
    c.in_ok-pdus.ensures.printed c.in_err-event.ensures.begun)
