-- How many bytes a command returns at most.
use Rattle.std.proofs.Common.{◌≡◌, ◌≤◌, ◌==◌, ◌*◌, ◌+◌, ◌%◌, ◌||◌, ℕ, Bool, true, false, not, List, Option, Some, None, Result, Ok, Err, IfOk, IfSome, length, nat_lt, refl, arith}
use Rattle.std.specs.Prelude.{if◌then◌else◌}
use Rattle.std.proofs.lemmas.Bool.Decides.{nat_tests}
use Rattle.nvt_config.specs.Configuration.{Configuration}
use Rattle.event_queue.specs.declared.completion.Completion.{Completion}
use Rattle.event_queue.specs.declared.events.LimitExceeded.{LimitExceeded}
use Rattle.nvt_fields.specs.declared.status.Status.{Status}
use Rattle.nvt_fields.specs.Status.{data_sgl_length_invalid, invalid_field, sgl_type_invalid}
use Rattle.pdu_codec.specs.declared.command.GetLogPage.{GetLogPage}
use Rattle.pdu_codec.specs.Sqe.{sgl1_of}
use Rattle.admin_queue.specs.declared.outcome.Accepted.TheVariants.{Answered}
use Rattle.admin_queue.specs.declared.outcome.Effect.{Effect}
use Rattle.admin_queue.specs.declared.outcome.Effect.TheVariants as effect
use Rattle.admin_queue.specs.declared.log.LogPage.{LogPage}
use Rattle.admin_queue.specs.declared.payload.Payload.{Payload}
use Rattle.admin_queue.specs.declared.payload.Payload.TheVariants as payload
use Rattle.admin_queue.specs.declared.payload.Structure.{Structure}
use Rattle.admin_queue.specs.Commands.{admin}
use Rattle.admin_queue.specs.Controller.{AdminController}
use Rattle.admin_queue.specs.EventRequest.{request_by}
use Rattle.admin_queue.specs.Features.{get_features, queues_on, set_features}
use Rattle.admin_queue.specs.Identify.{identified}
use Rattle.admin_queue.specs.Laws.{AtMostMdts}
use Rattle.admin_queue.specs.LogPage.{read_known, read_page, read_update}
use Rattle.admin_queue.specs.Outcome.{IfAnswered, Outcome, is_transport, returned}
use Rattle.admin_queue.specs.Pages.{Pages, log_page_bytes}
use Rattle.admin_queue.specs.Payload.{payload_len}

abbrev Bounded : Outcome → Type 0
Bounded o = IfOk o (IfAnswered (λ s. IfSome s.payload (λ r. payload_len r ≤ 131072)))

either_bounded : (test : Bool) (o r : Outcome) → Bounded o → Bounded r → Bounded (if test then o else r)
either_bounded true o r h k = h
either_bounded false o r h k = k

returned_by : (r : Payload) (e : Effect) (other differs : Bool) → payload_len r ≤ 131072
    → Bounded (if other then Err sgl_type_invalid else if differs then Err data_sgl_length_invalid else
    Ok (Answered (record { result = 0; payload = Some r; effect = e })))
returned_by r e true differs few = tt
returned_by r e false true few = tt
returned_by r e false false few = few

returned_bounded : (entry : List ℕ) (r : Payload) (e : Effect) → payload_len r ≤ 131072 → Bounded (returned r e entry)
returned_bounded entry r e few = returned_by r e (not (is_transport (sgl1_of entry).sgl_type)) (not ((sgl1_of entry).len == payload_len r)) few

-- what is refused unless it has few bytes
few_alone : (len : ℕ) (many other : Bool) (o : Outcome) → nat_lt 131072 len ≡ many → (len ≤ 131072 → Bounded o)
    → Bounded (if many || other then Err invalid_field else o)
few_alone len true other o is h = tt
few_alone len false true o is h = tt
few_alone len false false o is h = h (grind (arith, nat_tests, is))

page_bounded : (page : LogPage) (request : GetLogPage) (bytes entry : List ℕ) → Bounded (read_page page bytes request entry)
page_bounded page request bytes entry =
    let dwords = request.numd + 1 in
    let part : Payload = payload.LogPage (record { page = page; offset = request.offset; dwords = dwords }) in
    let read : Effect = effect.Notices (read_update page request) in
    few_alone (4 * dwords) (nat_lt 131072 (4 * dwords)) (not (request.offset % 4 == 0) || nat_lt (length bytes) request.offset) (returned part read entry) refl
    (λ few. returned_bounded entry part read few)

read_bounded : (request : GetLogPage) (entry : List ℕ) (p : Pages) (c : AdminController) (page : Option LogPage) → Bounded (read_known page p c request entry)
read_bounded request entry p c None = tt
read_bounded request entry p c (Some page) = page_bounded page request (log_page_bytes page p c) entry

identified_bounded : (entry : List ℕ) (s : Result Structure Status) → Bounded (identified s entry)
identified_bounded entry (Ok s) = returned_bounded entry (payload.Identify s) effect.Nothing (omega arith)
identified_bounded entry (Err status) = tt

queues_bounded : (subsystem : Option (List ℕ)) → Bounded (queues_on subsystem)
queues_bounded None = tt
queues_bounded (Some nqn) = tt

set_bounded : (entry : List ℕ) (c : AdminController) → Bounded (set_features c entry)
set_bounded entry c = search (either_bounded, queues_bounded) depth 10

get_bounded : (entry : List ℕ) (c : AdminController) → Bounded (get_features c entry)
get_bounded entry c = search (either_bounded, queues_bounded) depth 10

request_bounded : (cid : ℕ) (answer : Result (Option Completion) LimitExceeded) → Bounded (request_by answer cid)
request_bounded cid (Ok (Some completion)) = tt
request_bounded cid (Ok None) = tt
request_bounded cid (Err e) = tt

admin_bounded : (p : Pages) (d : Configuration) (c : AdminController) (entry : List ℕ) → Bounded (admin p d c entry)
admin_bounded p d c entry = search (either_bounded, read_bounded, identified_bounded, set_bounded, get_bounded, request_bounded) depth 12

pub at_most_mdts : AtMostMdts
at_most_mdts = record { len = admin_bounded }
