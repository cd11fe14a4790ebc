use Rattle.std.proofs.Common.{◌≡◌, ℕ, refl, sym, subst, ◌∙◌, ap, ◌+◌, ◌++◌, List, Option, drop, take}
use Rattle.std.specs.Option.{option_or}
use Rattle.pdu_words.specs.declared.explanation.ResponseFields.{ResponseFields}
use Rattle.connection_log.specs.declared.watch.ConnectionWatch.{ConnectionWatch}
use Rattle.connection_log.specs.Reading.{HasRead}
use Rattle.connection_log.specs.Stages.{after_reply, told_by}
use Rattle.connection_log.specs.Watching.{answered, response_at, told}
use Rattle.connection_log.proofs.Watches.{answered_step, told_step, stream_step, within_step, watch_of}
use Rattle.connection_log.proofs.watch.ConnectionWatch.given.Goals as goal

pub loop-at-preserved : goal.loop-at-preserved
loop-at-preserved c =
    let bytes = c.args.bytes.now in
    let at = c.loop-at.at in
    let n = c.read-at.result in
    let old = c.loop-at.self in
    let new = c.read-at.new.self in
    let rest : List ℕ = drop (at + n) bytes in
    let stage = after_reply (response_at new) old.stage in
    let after : c.take_reply.new.self ≡ watch_of old.requests new stage =
    c.take_reply.ensures.stays ∙ ap (watch_of old.requests new) c.take_reply.ensures.stage
    in
    let tells : c.or-told.result ≡ option_or c.loop-at.told (told_by (response_at new) old.stage) =
    c.or-told.ensures ∙ ap (option_or c.loop-at.told) c.take_reply.ensures.told
    in
    record {
      within = within_step bytes at n c.loop-at.self.replies c.read-at.new.self c.read-at.ensures.reads c.loop-at-test.true;
      told = ap (λ (o : Option ResponseFields). option_or o (told c.take_reply.new.self rest)) tells
          ∙ ap (λ (w : ConnectionWatch). option_or (option_or c.loop-at.told (told_by (response_at new) old.stage)) (told w rest)) after
          ∙ told_step bytes at n old.replies new c.read-at.ensures.reads c.loop-at-test.true old refl c.loop-at.told
          ∙ c.loop-at.invariant.told;
      answered = ap (λ (w : ConnectionWatch). answered w rest) after
          ∙ answered_step bytes at n old.replies new c.read-at.ensures.reads c.loop-at-test.true old refl
          ∙ c.loop-at.invariant.answered;
      stream = λ before read. subst (λ (w : ConnectionWatch). HasRead w.replies (before ++ take (at + n) bytes)) (sym after)
          (stream_step bytes at n before c.read-at.new.self (c.read-at.ensures.stream _ (c.loop-at.invariant.stream before read)));
    }
