-- Asynchronous Event Request (Base 2.0, section 5.2).
use Rattle.std.specs.Prelude.{ℕ, List, Option, Some, None, Result, Ok, Err}
use Rattle.event_queue.specs.declared.completion.Completion.{Completion}
use Rattle.event_queue.specs.declared.events.LimitExceeded.{LimitExceeded}
use Rattle.event_queue.specs.Events.{request_answer}
use Rattle.admin_queue.specs.declared.update.NoticeUpdate.TheVariants as update
use Rattle.nvt_fields.specs.Status.{asynchronous_event_request_limit_exceeded}
use Rattle.pdu_codec.specs.Sqe.{cid_of}
use Rattle.admin_queue.specs.declared.outcome.Accepted.TheVariants.{Waits}
use Rattle.admin_queue.specs.declared.outcome.Effect.TheVariants as effect
use Rattle.admin_queue.specs.Controller.{AdminController}
use Rattle.admin_queue.specs.Outcome.{Outcome, done}

-- a request of this identifier that is answered so by the events: completed at once, or waiting, or one too many
abbrev pub request_by : Result (Option Completion) LimitExceeded → ℕ → Outcome
request_by (Ok (Some completion)) cid = done completion.result (effect.Notices (update.Requested cid))
request_by (Ok None) cid = Ok Waits
request_by (Err e) cid = Err asynchronous_event_request_limit_exceeded

abbrev pub event_request : AdminController → List ℕ → Outcome
event_request c entry = request_by (request_answer c.notices.events (cid_of entry)) (cid_of entry)
