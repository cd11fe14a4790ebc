use Rattle.std.proofs.Common.{Ok, inr}
use Rattle.std.proofs.lemmas.Result.{err_from_is_err_and}
use Rattle.host_program.proofs.Held.{awaits_err, awaits_ok}
use Rattle.host_program.proofs.writing.hold_data.Goals as goal

pub returns-in_err-await_answer : goal.returns-in_err-await_answer
returns-in_err-await_answer g c =
    let r = c.from_residual-in_err-await_answer in
    let p = err_from_is_err_and r.result r.ensures.1 in
    rw (p.1, p.2) (record {
      held = Ok tt;
      printed = g.W.Write.contents c.print_text.new.out;
      prints = c.in_ok-print_text.ensures;
      awaits = record {
        shown = g.W.Write.contents c.flush.new.self;
        keeps = c.flush.ensures.bytes;
        ends = inr (c.in_ok-pass_line.ensures.passes, awaits_err _ c.args.io.now c.await_answer.new.io _ c.in_err-await_answer.ensures);
      };
    })

pub returns : goal.returns
returns g c = record {
  held = Ok tt;
  printed = g.W.Write.contents c.print_text.new.out;
  prints = c.in_ok-print_text.ensures;
  awaits = record {
    shown = g.W.Write.contents c.flush.new.self;
    keeps = c.flush.ensures.bytes;
    ends = inr (c.in_ok-pass_line.ensures.passes, awaits_ok c.in_ok-await_answer.field-0 c.args.io.now c.await_answer.new.io _ _ _ c.in_ok-await_answer.ensures c.«print_text-2».ensures);
  };
}
