-- Laws of the admin commands, in the words of the subject.
use Rattle.std.specs.Prelude.{◌≡◌, ◌≤◌, ℕ, List, [], ◌∷◌, ◌++◌, Some, is_some, IfOk, IfSome, slice_get}
use Rattle.nvt_config.specs.Configuration.{Configuration}
use Rattle.data_transfer.specs.declared.piece.Piece.{Piece}
use Rattle.data_transfer.specs.Pieces.{pieces}
use Rattle.admin_queue.specs.declared.update.NoticeUpdate.TheVariants as update
use Rattle.admin_queue.specs.Notices.{NoticeState}
use Rattle.admin_queue.specs.Update.{updated}
use Rattle.pdu_codec.specs.Sqe.{cid_of, sgl1_of}
use Rattle.admin_queue.specs.declared.log.LogPage.{LogPage}
use Rattle.admin_queue.specs.declared.outcome.Accepted.{Accepted}
use Rattle.admin_queue.specs.declared.outcome.Accepted.TheVariants.{Answered, Waits}
use Rattle.admin_queue.specs.declared.outcome.Effect.{Effect}
use Rattle.admin_queue.specs.declared.outcome.Effect.TheVariants as effect
use Rattle.admin_queue.specs.declared.payload.Payload.{Payload}
use Rattle.admin_queue.specs.declared.payload.Structure.{Structure}
use Rattle.admin_queue.specs.Commands.{admin}
use Rattle.admin_queue.specs.Controller.{AdminController}
use Rattle.admin_queue.specs.Outcome.{IfAnswered}
use Rattle.admin_queue.specs.Pages.{Pages, log_page_bytes}
use Rattle.admin_queue.specs.Payload.{IsPart, namespace_in, payload_bytes, payload_len, structure_bytes}

-- Two worlds tell the same of a controller: each log page and each structure, and which namespaces of its subsystem
-- are active for its host.
pub record ToldAlike (c : AdminController) (p q : Pages) (d e : Configuration) : Type 0 where
  pub log_pages : (page : LogPage) → log_page_bytes page p c ≡ log_page_bytes page q c
  pub structures : (s : Structure) → structure_bytes s p d c ≡ structure_bytes s q e c
  pub active : (nsid : ℕ) → is_some (namespace_in c d nsid) ≡ is_some (namespace_in c e nsid)

-- .. then each command comes to the same, with the same data, whatever else they show
pub record AnsweredByOwnAlone : Type 0 where
  pub outcome : (c : AdminController) (p q : Pages) (d e : Configuration) (entry : List ℕ) → ToldAlike c p q d e
      → admin p d c entry ≡ admin q e c entry
  pub payload : (c : AdminController) (p q : Pages) (d e : Configuration) (r : Payload) → ToldAlike c p q d e
      → payload_bytes r p d c ≡ payload_bytes r q e c

-- a command that returns data returns as many bytes as its descriptor asks for
pub record AsMuchAsAsked : Type 0 where
  pub len : (p : Pages) (d : Configuration) (c : AdminController) (entry : List ℕ)
      → IfOk (admin p d c entry) (IfAnswered (λ s. IfSome s.payload (λ r. payload_len r ≡ (sgl1_of entry).len)))

-- .. and at most 131,072
pub record AtMostMdts : Type 0 where
  pub len : (p : Pages) (d : Configuration) (c : AdminController) (entry : List ℕ)
      → IfOk (admin p d c entry) (IfAnswered (λ s. IfSome s.payload (λ r. payload_len r ≤ 131072)))

-- What a command does to what its host is to be told: one that is answered leaves the requests that wait as they are, and one
-- that waits is the youngest of them. So no request is completed twice.
abbrev pub waiting_after : Effect → NoticeState → List ℕ
waiting_after (effect.Notices u) s = (updated s u).events.waiting
waiting_after _ s = s.events.waiting

abbrev pub LeavesWaiting : NoticeState → ℕ → Accepted → Type 0
LeavesWaiting s cid (Answered success) = waiting_after success.effect s ≡ s.events.waiting
LeavesWaiting s cid Waits = (updated s (update.Requested cid)).events.waiting ≡ s.events.waiting ++ cid ∷ []

abbrev pub AnsweredOnce : Type 0
AnsweredOnce = (p : Pages) (d : Configuration) (c : AdminController) (entry : List ℕ) → IfOk (admin p d c entry) (LeavesWaiting c.notices (cid_of entry))

-- each of the pieces in which data go to the host is a part that is written at once
abbrev pub PiecesAreParts : Type 0
PiecesAreParts =
    (r : Payload) (number : ℕ) (piece : Piece) → slice_get (pieces (payload_len r)) number ≡ Some piece → IsPart r piece.offset piece.len
