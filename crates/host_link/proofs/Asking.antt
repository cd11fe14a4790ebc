-- Commands that are submitted, and answered.
use Rattle.std.proofs.Common.{◌≡◌, ℕ, ◌%◌, List, [], ◌∷◌, Result, Ok, Err, refl, ap, ◌∙◌}
use Rattle.std.specs.Prelude.{◌≢◌, IsOkUnless, MatchOption, Option, Some, None}
use Rattle.host_driver.specs.declared.answer.Answer.{Answer}
use Rattle.host_driver.specs.declared.fault.HostFault.{HostFault}
use Rattle.host_driver.specs.declared.fault.HostFault.TheVariants as queue
use Rattle.host_link.specs.declared.fault.SessionFault.{SessionFault}
use Rattle.host_link.specs.Conversation.{Conversation}
use Rattle.host_link.specs.Fault.{of_queue}
use Rattle.host_link.specs.Session.{AreUnready, AwaitsReady, Executes, IsRefusedBy, asking_status}

pub why_refused : (o : Option HostFault) (hf : HostFault) (f : SessionFault) → MatchOption o (IsOkUnless {T = ℕ} (Err hf) queue.Memory) (λ why. let r : Result ℕ HostFault = Err hf in r ≡ Err why)
    → f ≡ of_queue hf → IsRefusedBy o f
why_refused None hf f h is = let e : hf ≡ queue.Memory = h in is ∙ ap of_queue e
why_refused (Some why) hf f h is = let e : hf ≡ why = cc in is ∙ ap of_queue e

pub not_refused : (o : Option HostFault) (cid : ℕ) → MatchOption o (IsOkUnless (Ok cid) queue.Memory) (λ why. let r : Result ℕ HostFault = Ok cid in r ≡ Err why) → o ≡ None
not_refused None cid h = refl
not_refused (Some why) cid h = cc

-- ---- enable

-- the controller was not ready so far
pub record Asking (old new : Conversation) : Type 0 where
  pub answers : List Answer
  pub unready : AreUnready answers old new

pub begins_asking : (c : Conversation) → Asking c c
begins_asking c = record { answers = []; unready = refl }

pub asks_on : (a : Answer) (first old new : Conversation) → Asking first old → Executes asking_status (Ok a) old new → a.result % 2 ≢ 1 → Asking first new
asks_on a first old new w e unready = record { answers = a ∷ w.answers; unready = (old, w.unready, e, unready) }

pub is_ready : (a : Answer) (first old new : Conversation) → Asking first old → Executes asking_status (Ok a) old new → a.result % 2 ≡ 1 → AwaitsReady (Ok tt) first new
is_ready a first old new w e ready = record { answers = w.answers; stands = old; unready = w.unready; answer = Ok a; executes = e; is = (ready, refl) }

pub asks_vainly : (f : SessionFault) (first old new : Conversation) → Asking first old → Executes asking_status (Err f) old new → AwaitsReady (Err f) first new
asks_vainly f first old new w e = record { answers = w.answers; stands = old; unready = w.unready; answer = Err f; executes = e; is = refl }
