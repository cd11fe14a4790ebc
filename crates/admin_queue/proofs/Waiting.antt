-- Which event requests wait after a command.
use Rattle.std.proofs.Common.{◌≡◌, ◌==◌, ℕ, Bool, true, false, not, ◌+◌, List, [], ◌∷◌, ◌++◌, Option, Some, None, Result, Ok, Err, IfOk, refl}
use Rattle.std.specs.Prelude.{if◌then◌else◌}
use Rattle.event_queue.specs.declared.completion.Completion.{Completion}
use Rattle.event_queue.specs.declared.events.LimitExceeded.{LimitExceeded}
use Rattle.event_queue.specs.declared.kind.EventKind.{EventKind}
use Rattle.event_queue.specs.declared.kind.EventKind.TheVariants.{Namespace, Ana, Discovery}
use Rattle.event_queue.specs.Events.{EventState, after_read, first_pending, is_full, request_answer, requested}
use Rattle.admin_queue.specs.declared.update.NoticeUpdate.TheVariants as update
use Rattle.admin_queue.specs.Notices.{NoticeState}
use Rattle.nvt_fields.specs.declared.status.Status.{Status}
use Rattle.nvt_fields.specs.Status.{data_sgl_length_invalid, invalid_field, sgl_type_invalid}
use Rattle.pdu_codec.specs.declared.command.GetLogPage.{GetLogPage}
use Rattle.pdu_codec.specs.Sqe.{cid_of, get_log_page_of, identify_of, opcode_of, sgl1_of}
use Rattle.admin_queue.specs.declared.log.LogPage.{LogPage}
use Rattle.admin_queue.specs.declared.outcome.Effect.{Effect}
use Rattle.admin_queue.specs.declared.outcome.Effect.TheVariants as effect
use Rattle.admin_queue.specs.declared.payload.Payload.{Payload}
use Rattle.admin_queue.specs.declared.payload.Payload.TheVariants as payload
use Rattle.admin_queue.specs.declared.payload.Structure.{Structure}
use Rattle.admin_queue.specs.Controller.{AdminController}
use Rattle.admin_queue.specs.EventRequest.{event_request, request_by}
use Rattle.admin_queue.specs.Features.{get_features, queues_on, set_features}
use Rattle.admin_queue.specs.Identify.{identified, identify, structure_asked}
use Rattle.admin_queue.specs.Laws.{AnsweredOnce, LeavesWaiting, waiting_after}
use Rattle.admin_queue.specs.Log.{kind_of, page_of_lid}
use Rattle.admin_queue.specs.LogPage.{get_log_page, read_known, read_update}
use Rattle.admin_queue.specs.Outcome.{Outcome, done, is_transport, returned}
use Rattle.admin_queue.specs.Pages.{Pages}
use Rattle.admin_queue.specs.Payload.{payload_len}

abbrev Leaves : NoticeState → List ℕ → Outcome → Type 0
Leaves s entry o = IfOk o (LeavesWaiting s (cid_of entry))

either_leaves : (s : NoticeState) (entry : List ℕ) (test : Bool) (o r : Outcome) → Leaves s entry o → Leaves s entry r → Leaves s entry (if test then o else r)
either_leaves s entry true o r h k = h
either_leaves s entry false o r h k = k

returned_leaves : (s : NoticeState) (entry : List ℕ) (r : Payload) (e : Effect) → waiting_after e s ≡ s.events.waiting → Leaves s entry (returned r e entry)
returned_leaves s entry r e h =
    either_leaves s entry (not (is_transport (sgl1_of entry).sgl_type)) (Err sgl_type_invalid) _ tt
    (either_leaves s entry (not ((sgl1_of entry).len == payload_len r)) (Err data_sgl_length_invalid) _ tt h)

read_keeps : (s : EventState) (kind : EventKind) (retain : Bool) → (after_read s kind retain).waiting ≡ s.waiting
read_keeps s kind true = refl
read_keeps s Namespace false = refl
read_keeps s Ana false = refl
read_keeps s Discovery false = refl

read_leaves : (s : NoticeState) (request : GetLogPage) (entry : List ℕ) (p : Pages) (c : AdminController) (page : Option LogPage)
    → Leaves s entry (read_known page p c request entry)
read_leaves s request entry p c None = tt
read_leaves s request entry p c (Some page) =
    let dwords = request.numd + 1 in
    either_leaves s entry _ (Err invalid_field) _ tt
    (returned_leaves s entry (payload.LogPage (record { page = page; offset = request.offset; dwords = dwords })) (effect.Notices (read_update page request))
    (read_keeps s.events (kind_of page) request.rae))

identified_leaves : (s : NoticeState) (entry : List ℕ) (r : Result Structure Status) → Leaves s entry (identified r entry)
identified_leaves s entry (Ok r) = returned_leaves s entry (payload.Identify r) effect.Nothing refl
identified_leaves s entry (Err status) = tt

queues_leave : (s : NoticeState) (entry : List ℕ) (subsystem : Option (List ℕ)) → Leaves s entry (queues_on subsystem)
queues_leave s entry None = tt
queues_leave s entry (Some nqn) = refl

set_leaves : (s : NoticeState) (entry : List ℕ) (c : AdminController) → Leaves s entry (set_features c entry)
set_leaves s entry c = search (either_leaves, queues_leave) depth 12

get_leaves : (s : NoticeState) (entry : List ℕ) (c : AdminController) → Leaves s entry (get_features c entry)
get_leaves s entry c = search (either_leaves, queues_leave) depth 12

-- ---- an event request

-- one that is completed at once leaves those that wait
taken : (s : EventState) (cid : ℕ) (full : Bool) (kind : Option EventKind) (answer : Completion) → is_full s ≡ full → first_pending s ≡ kind
    → request_answer s cid ≡ Ok (Some answer) → (requested s cid).waiting ≡ s.waiting
taken s cid true kind answer full first is = let clash = rw full at is in cc
taken s cid false None answer full first is = let clash = rw (full, first) at is in cc
taken s cid false (Some Namespace) answer full first is = rw (full, first) refl
taken s cid false (Some Ana) answer full first is = rw (full, first) refl
taken s cid false (Some Discovery) answer full first is = rw (full, first) refl

-- .. and one that waits is behind them
put : (s : EventState) (cid : ℕ) (full : Bool) (kind : Option EventKind) → is_full s ≡ full → first_pending s ≡ kind
    → request_answer s cid ≡ Ok None → (requested s cid).waiting ≡ s.waiting ++ cid ∷ []
put s cid true kind full first is = let clash = rw full at is in cc
put s cid false None full first is = rw (full, first) refl
put s cid false (Some kind) full first is = let clash = rw (full, first) at is in cc

request_leaves : (s : NoticeState) (entry : List ℕ) (answer : Result (Option Completion) LimitExceeded) → request_answer s.events (cid_of entry) ≡ answer
    → Leaves s entry (request_by answer (cid_of entry))
request_leaves s entry (Ok (Some completion)) is = taken s.events (cid_of entry) (is_full s.events) (first_pending s.events) completion refl refl is
request_leaves s entry (Ok None) is = put s.events (cid_of entry) (is_full s.events) (first_pending s.events) refl refl is
request_leaves s entry (Err e) is = tt

pub answered_once : AnsweredOnce
answered_once p d c entry =
    let s = c.notices in
    either_leaves s entry (opcode_of entry == 0x02) (get_log_page p c entry) _
    (read_leaves s (get_log_page_of entry) entry p c (page_of_lid c.subsystem (get_log_page_of entry).lid (get_log_page_of entry).lsp))
    (either_leaves s entry (opcode_of entry == 0x06) (identify d c entry) _ (identified_leaves s entry (structure_asked d c (identify_of entry)))
    (either_leaves s entry (opcode_of entry == 0x08) (done 1 effect.Nothing) _ refl
    (either_leaves s entry (opcode_of entry == 0x09) (set_features c entry) _ (set_leaves s entry c)
    (either_leaves s entry (opcode_of entry == 0x0A) (get_features c entry) _ (get_leaves s entry c)
    (either_leaves s entry (opcode_of entry == 0x0C) (event_request c entry) _ (request_leaves s entry (request_answer s.events (cid_of entry)) refl)
    (either_leaves s entry (opcode_of entry == 0x18) (done 0 effect.KeepAlive) _ refl tt))))))
