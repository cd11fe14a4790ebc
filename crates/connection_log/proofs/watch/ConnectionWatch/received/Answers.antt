use Rattle.std.proofs.Common.{refl, subst, sym, ◌∙◌, ap, ◌+◌, drop}
use Rattle.connection_log.specs.declared.stage.Stage.{Stage}
use Rattle.connection_log.specs.Watching.{HasReadSome, heard}
use Rattle.connection_log.proofs.Watches.{heard_step, passed_step, read_some, stream_step, within_step, watch_of}
use Rattle.connection_log.proofs.watch.ConnectionWatch.received.Goals as goal

pub loop-at-preserved : goal.loop-at-preserved
loop-at-preserved c =
    let bytes = c.args.bytes.now in
    let at = c.loop-at.at in
    let n = c.read-at.result in
    record {
      within = within_step bytes at n c.loop-at.self.requests c.read-at.new.self c.read-at.ensures.reads c.loop-at-test.true;
      heard = ap (λ (stage : Stage). heard (watch_of c.read-at.new.self c.loop-at.self.replies stage) (drop (at + n) bytes)) c.requested-self.ensures
          ∙ heard_step bytes at n c.loop-at.self.requests c.read-at.new.self c.read-at.ensures.reads c.loop-at-test.true c.loop-at.self c.in-Before.ahead refl c.in-Before.is
          ∙ c.loop-at.invariant.heard;
      stream = λ before read. stream_step bytes at n before c.read-at.new.self (c.read-at.ensures.stream _ (c.loop-at.invariant.stream before read));
    }

pub returns-in_default : goal.returns-in_default
returns-in_default c =
    let bytes = c.args.bytes.now in
    let w = c.loop-at.self in
    record {
      after = ap (λ (stage : Stage). watch_of w.requests w.replies stage) c.passed_over-self.ensures
          ∙ sym (passed_step w bytes c.loop-at.at c.loop-at-test.true c.in_default.not-Before)
          ∙ c.loop-at.invariant.heard;
      stream = λ before read. subst (λ (stage : Stage). HasReadSome (watch_of w.requests w.replies stage) before bytes) (sym c.passed_over-self.ensures)
          (read_some w.requests w.replies w.stage before bytes c.loop-at.at c.loop-at-test.true c.in_default.not-Before (c.loop-at.invariant.stream before read));
    }
