-- What the commands ask of the world, and how many bytes they return.
use Rattle.std.proofs.Common.{◌≡◌, ◌==◌, ◌*◌, ℕ, Bool, true, false, not, List, Option, Some, None, Result, Ok, Err, IfOk, IfSome, is_some, refl, sym, ap}
use Rattle.std.proofs.lemmas.Bool.{eqb-true}
use Rattle.std.specs.Prelude.{if◌then◌else◌}
use Rattle.nvt_config.specs.Configuration.{Configuration}
use Rattle.nvt_config.specs.SeenBy.{seen_by}
use Rattle.event_queue.specs.declared.completion.Completion.{Completion}
use Rattle.event_queue.specs.declared.events.LimitExceeded.{LimitExceeded}
use Rattle.nvt_fields.specs.Window.{window}
use Rattle.nvt_fields.specs.declared.status.Status.{Status}
use Rattle.nvt_fields.specs.Status.{data_sgl_length_invalid, sgl_type_invalid}
use Rattle.pdu_codec.specs.declared.command.GetLogPage.{GetLogPage}
use Rattle.pdu_codec.specs.declared.command.Identify.{Identify}
use Rattle.pdu_codec.specs.Sqe.{get_log_page_of, identify_of, sgl1_of}
use Rattle.admin_queue.specs.declared.outcome.Accepted.TheVariants.{Answered}
use Rattle.admin_queue.specs.declared.outcome.Effect.{Effect}
use Rattle.admin_queue.specs.declared.outcome.Effect.TheVariants as effect
use Rattle.admin_queue.specs.declared.log.LogPage.{LogPage}
use Rattle.admin_queue.specs.declared.payload.Payload.{Payload}
use Rattle.admin_queue.specs.declared.payload.Payload.TheVariants as payload
use Rattle.admin_queue.specs.declared.payload.Structure.{Structure}
use Rattle.admin_queue.specs.Commands.{admin}
use Rattle.admin_queue.specs.Controller.{AdminController}
use Rattle.admin_queue.specs.EventRequest.{request_by}
use Rattle.admin_queue.specs.Features.{get_features, queues_on, set_features}
use Rattle.admin_queue.specs.Identify.{identified, identify, structure_in}
use Rattle.admin_queue.specs.Laws.{AnsweredByOwnAlone, AsMuchAsAsked, ToldAlike}
use Rattle.admin_queue.specs.Log.{page_of_lid}
use Rattle.admin_queue.specs.LogPage.{read_known, read_page}
use Rattle.admin_queue.specs.Outcome.{IfAnswered, Outcome, is_transport, returned}
use Rattle.admin_queue.specs.Pages.{Pages}
use Rattle.admin_queue.specs.Payload.{namespace_of, payload_bytes, payload_len}

-- ---- the world

read_alike : (c : AdminController) (p q : Pages) (d e : Configuration) (request : GetLogPage) (entry : List ℕ) (page : Option LogPage) → ToldAlike c p q d e
    → read_known page p c request entry ≡ read_known page q c request entry
read_alike c p q d e request entry None h = refl
read_alike c p q d e request entry (Some page) h = ap (λ (bytes : List ℕ). read_page page bytes request entry) (h.log_pages page)

structure_alike : (subsystem : Option (List ℕ)) (d e : Configuration) (cns nsid : ℕ)
    → is_some (namespace_of subsystem d nsid) ≡ is_some (namespace_of subsystem e nsid)
    → structure_in subsystem d cns nsid ≡ structure_in subsystem e cns nsid
structure_alike None d e cns nsid h = refl
structure_alike (Some nqn) d e cns nsid h = rw h refl

identify_alike : (c : AdminController) (p q : Pages) (d e : Configuration) (entry : List ℕ) → ToldAlike c p q d e
    → identify d c entry ≡ identify e c entry
identify_alike c p q d e entry h =
    rw (structure_alike c.subsystem (seen_by d c.host) (seen_by e c.host) (identify_of entry).cns (identify_of entry).nsid (h.active (identify_of entry).nsid)) refl

outcome_alike : (c : AdminController) (p q : Pages) (d e : Configuration) (entry : List ℕ) → ToldAlike c p q d e
    → admin p d c entry ≡ admin q e c entry
outcome_alike c p q d e entry h =
    rw (read_alike c p q d e (get_log_page_of entry) entry (page_of_lid c.subsystem (get_log_page_of entry).lid (get_log_page_of entry).lsp) h, identify_alike c p q d e entry h) refl

payload_alike : (c : AdminController) (p q : Pages) (d e : Configuration) (r : Payload) → ToldAlike c p q d e
    → payload_bytes r p d c ≡ payload_bytes r q e c
payload_alike c p q d e (payload.LogPage part) h =
    ap (λ (bytes : List ℕ). window bytes part.offset (4 * part.dwords)) (h.log_pages part.page)
payload_alike c p q d e (payload.Identify s) h = h.structures s

pub answered_alike : AnsweredByOwnAlone
answered_alike = record { outcome = outcome_alike; payload = payload_alike }

-- ---- the length

abbrev Asked : List ℕ → Outcome → Type 0
Asked entry o = IfOk o (IfAnswered (λ s. IfSome s.payload (λ r. payload_len r ≡ (sgl1_of entry).len)))

either_asked : (entry : List ℕ) (test : Bool) (o r : Outcome) → Asked entry o → Asked entry r → Asked entry (if test then o else r)
either_asked entry true o r h k = h
either_asked entry false o r h k = k

returned_by : (entry : List ℕ) (r : Payload) (e : Effect) (other same : Bool) → ((sgl1_of entry).len == payload_len r) ≡ same
    → Asked entry (if other then Err sgl_type_invalid else if not same then Err data_sgl_length_invalid else
    Ok (Answered (record { result = 0; payload = Some r; effect = e })))
returned_by entry r e true same is = tt
returned_by entry r e false true is = sym (eqb-true (sgl1_of entry).len (payload_len r) is)
returned_by entry r e false false is = tt

returned_asked : (entry : List ℕ) (r : Payload) (e : Effect) → Asked entry (returned r e entry)
returned_asked entry r e = returned_by entry r e (not (is_transport (sgl1_of entry).sgl_type)) ((sgl1_of entry).len == payload_len r) refl

read_asked : (request : GetLogPage) (entry : List ℕ) (p : Pages) (c : AdminController) (page : Option LogPage) → Asked entry (read_known page p c request entry)
read_asked request entry p c None = tt
read_asked request entry p c (Some page) = search (either_asked, returned_asked)

identified_asked : (entry : List ℕ) (s : Result Structure Status) → Asked entry (identified s entry)
identified_asked entry (Ok s) = returned_asked entry (payload.Identify s) effect.Nothing
identified_asked entry (Err status) = tt

queues_asked : (entry : List ℕ) (subsystem : Option (List ℕ)) → Asked entry (queues_on subsystem)
queues_asked entry None = tt
queues_asked entry (Some nqn) = tt

set_asked : (entry : List ℕ) (c : AdminController) → Asked entry (set_features c entry)
set_asked entry c = search (either_asked, queues_asked) depth 10

get_asked : (entry : List ℕ) (c : AdminController) → Asked entry (get_features c entry)
get_asked entry c = search (either_asked, queues_asked) depth 10

request_asked : (entry : List ℕ) (cid : ℕ) (answer : Result (Option Completion) LimitExceeded) → Asked entry (request_by answer cid)
request_asked entry cid (Ok (Some completion)) = tt
request_asked entry cid (Ok None) = tt
request_asked entry cid (Err e) = tt

admin_asked : (p : Pages) (d : Configuration) (c : AdminController) (entry : List ℕ) → Asked entry (admin p d c entry)
admin_asked p d c entry = search (either_asked, read_asked, identified_asked, set_asked, get_asked, request_asked) depth 12

pub asked : AsMuchAsAsked
asked = record { len = admin_asked }
