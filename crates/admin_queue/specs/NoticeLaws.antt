-- A law of what the host of one controller is told, over all that happened to the controller.
use Rattle.std.specs.Prelude.{◌≡◌, ℕ, List, [], ◌∷◌}
use Rattle.event_queue.specs.Events.{request_answer}
use Rattle.event_queue.specs.Told.{IsAnswered}
use Rattle.nvt_config.specs.Configuration.{Configuration}
use Rattle.admin_queue.specs.Notices.{NoticeState, enabled, notices_at_connect, reset, tell_answers, told}
use Rattle.admin_queue.specs.Told.{Occurrence, edit_owed, edited, events_happened, notices_of, request_owed, update, was_enabled, was_reset}
use Rattle.admin_queue.specs.Update.{updated}
use Rattle.admin_queue.specs.Viewer.{Views}

-- what the call of an occurrence makes of what is told
abbrev pub called : Views → Occurrence → NoticeState → NoticeState
called views (edited old new) s = told old new views s
called views (update u) s = updated s u
called views was_reset s = reset s
called views was_enabled s = enabled s

-- what is told after calls, the newest of them first
abbrev pub notices_after : Views → List Occurrence → NoticeState
notices_after views [] = notices_at_connect
notices_after views (call ∷ before) = called views call (notices_after views before)

-- Whatever happened to a controller: what its host is told after the calls is what the look-backs over its events, its
-- counts and its set say; each completion in the first of these is owed where it was sent; and what one more edit
-- completes, and one more request is answered, is what is owed then.
pub record NoticesLookBack : Type 0 where
  pub after : (views : Views) (happened : List Occurrence) → notices_of views happened ≡ notices_after views happened
  pub next : (views : Views) (x : Occurrence) (before : List Occurrence) → notices_of views (x ∷ before) ≡ called views x (notices_of views before)
  pub answered : (views : Views) (happened : List Occurrence) → IsAnswered (events_happened views happened)
  pub completes : (views : Views) (before : List Occurrence) (old new : Configuration)
      → edit_owed views before old new ≡ tell_answers old new views (notices_of views before)
  pub requested : (views : Views) (before : List Occurrence) (cid : ℕ)
      → request_owed views before cid ≡ request_answer (notices_of views before).events cid
