-- A reply does what its decision says, where its answer was known, and where its operation is performed.
use Rattle.std.proofs.Common.{◌≡◌, ℕ, List, ◌++◌, Option, append_assoc, refl, ap, subst, ◌∙◌}
use Rattle.block_store.specs.Stored.{Stored}
use Rattle.io_queue.specs.declared.operation.Operation.{Operation}
use Rattle.io_queue.specs.Act.{good}
use Rattle.io_queue.specs.Execution.{Performs, SyncsIn, Tells, contents_at, returned}
use Rattle.io_queue.specs.Operation.{disk_of}
use Rattle.io_queue.specs.Reply.{returned_pdus}
use Rattle.nvt_fields.specs.declared.status.Status.{Status}
use Rattle.pdu_cut.specs.Front.{Front}
use Rattle.target_decision.specs.declared.decision.ReplyAnswer.TheVariants as answer
use Rattle.target_decision.specs.declared.decision.Decision.TheVariants as decision
use Rattle.target_decision.specs.declared.decision.Given.{Given}
use Rattle.target_decision.specs.declared.decision.Reply.{Reply}
use Rattle.target_decision.specs.Fulfilment.{Does}
use Rattle.target_decision.specs.Decision.{Brought, format_of, response_of}

pub operation_done : (alignment : ℕ) (r : Reply) (op : Operation) (front : Front) (b : Brought) (payload : Option (List ℕ)) (old new : List Stored) (output mid appended : List ℕ)
    (status : Status) → r.answer ≡ answer.Performed op → Performs op b.bytes (format_of r alignment) old new output mid status
    → SyncsIn op new status → appended ≡ mid ++ response_of r status 0 → Does alignment (decision.Reply r) front b payload old new output appended
operation_done alignment r op front b payload old new output mid appended status is h lasts sends = record {
  disk_outcome = h.disk_outcome;
  did = rw is (record { tells = h.tells; meets = h.meets; lasts = subst lasting h.answer lasts; finds = h.finds });
  sends = rw is (sends ∙ ap (λ s. s ++ response_of r status 0) h.sends ∙ append_assoc output shown (response_of r status 0)
      ∙ ap (λ s. output ++ (shown ++ response_of r s 0)) h.answer);
  contents = rw is h.contents;
  sizes = h.sizes;
} where
  lasting : Status → Type 0
  lasting s = SyncsIn op new s

  shown : List ℕ
  shown = returned_pdus (format_of r alignment) (returned op (contents_at old (disk_of op)) h.disk_outcome)

-- where nothing is asked of the disks
all_good : (disks : List Stored) → Tells good disks disks
all_good disks = record { good = λ ok. (λ d. refl, λ d. refl); strayed = λ bad. cc; failed = λ bad. cc }

pub given_sent : (alignment : ℕ) (r : Reply) (g : Given) (front : Front) (b : Brought) (payload : Option (List ℕ)) (disks : List Stored) (output mid appended : List ℕ)
    → r.answer ≡ answer.Given g → mid ≡ output ++ returned_pdus (format_of r alignment) payload → appended ≡ mid ++ response_of r g.status g.result
    → Does alignment (decision.Reply r) front b payload disks disks output appended
given_sent alignment r g front b payload disks output mid appended is returns sends = record {
  disk_outcome = good;
  did = rw is (record { tells = all_good disks; meets = refl; lasts = tt; finds = tt });
  sends = rw is (sends ∙ ap (λ (l : List ℕ). l ++ response_of r g.status g.result) returns
      ∙ append_assoc output (returned_pdus (format_of r alignment) payload) (response_of r g.status g.result));
  contents = rw is (λ disk. refl);
  sizes = refl;
}
