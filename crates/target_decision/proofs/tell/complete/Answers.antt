use Rattle.std.proofs.Common.{◌≡◌, ◌<◌, ◌++◌, [], List, length, drop, append-nil, ap, sym, ◌∙◌, arith}
use Rattle.std.proofs.lemmas.List.{drop_all}
use Rattle.event_queue.specs.declared.completion.Completion.{Completion}
use Rattle.target_decision.specs.Tell.{completed_in, completion_pdus}
use Rattle.target_decision.proofs.Telling.{sent_next, session_next}
use Rattle.target_decision.proofs.tell.complete.Goals as goal

pub loop-completion-preserved : goal.loop-completion-preserved
loop-completion-preserved c =
    let all = c.args.completions.now in
    let i = c.loop-completion.completion-index in
    let below : i < length all = c.loop-completion-test.true in
    record {
      session = session_next all i c.loop-completion.session _ _ below c.respond.ensures c.loop-completion.invariant.session;
      items = sent_next all i _ c.loop-completion.session _ c.loop-completion.output.items c.write_completion.new.output.items _ below c.respond.ensures
          c.write_completion.ensures.items c.loop-completion.invariant.items;
      room = omega (arith, below, c.loop-completion.invariant.room, c.write_completion.ensures.spare);
      spare = omega (arith, c.loop-completion.invariant.spare, c.write_completion.ensures.spare);
    }

pub returns-clause-session : goal.returns-clause-session
returns-clause-session c =
    let none : drop c.loop-completion.completion-index c.args.completions.now ≡ [] = drop_all c.loop-completion.completion-index c.args.completions.now (omega (arith, c.loop-completion-test.false)) in
    ap (completed_in c.loop-completion.session) (sym none) ∙ c.loop-completion.invariant.session

pub returns-clause-items : goal.returns-clause-items
returns-clause-items c =
    let none : drop c.loop-completion.completion-index c.args.completions.now ≡ [] = drop_all c.loop-completion.completion-index c.args.completions.now (omega (arith, c.loop-completion-test.false)) in
    sym (append-nil c.loop-completion.output.items)
    ∙ ap (λ (l : List Completion). c.loop-completion.output.items ++ completion_pdus c.loop-completion.session l) (sym none)
    ∙ c.loop-completion.invariant.items
