-- What a Write, Write Zeroes or Flush is answered, and what syncs a disk.
use Rattle.std.proofs.Common.{◌≡◌, ℕ, ◌==◌, Bool, true, false, true≢false, not, ◌&&◌, List, Option, Some, None, refl, sym, ◌∙◌, ap, subst, is_some, if◌then◌else◌}
use Rattle.std.specs.Prelude.{nat_eq}
use Rattle.std.proofs.lemmas.Bool.{and_from, eqb-true}
use Rattle.block_store.specs.Stored.{Stored}
use Rattle.block_store.specs.Write.{Write}
use Rattle.nvt_fields.specs.declared.status.Status.{Status}
use Rattle.nvt_fields.specs.Status.{success, unrecovered_read_error, write_fault}
use Rattle.io_queue.specs.declared.operation.Action.{Action}
use Rattle.io_queue.specs.declared.operation.Action.TheVariants as action
use Rattle.io_queue.specs.declared.operation.Extent.{Extent}
use Rattle.io_queue.specs.declared.operation.Operation.{Operation}
use Rattle.io_queue.specs.Act.{DiskOutcome, is_fault, read_in}
use Rattle.io_queue.specs.Execution.{LastsIn, Syncs, contents_at, disk_at, fault_status, good_status, reads, status_by, write_by}
use Rattle.io_queue.specs.Operation.{disk_of}
use Rattle.target_history.specs.Event.{disk_outcome_in}
use Rattle.target_history.specs.Lasting.{AnsweredAsDone, SyncsReachTheDisks, is_to_last_on, is_to_last, succeeds, syncs}
use Rattle.target_history.specs.Occurrence.{Occurrence, bytes_asked, operation_asked}
use Rattle.target_history.proofs.Tests.{both_true, same_here}

-- ---- what is answered

abbrev code_of : Status → ℕ
code_of s = s.sc

no_success : (a : Action) → fault_status a ≡ success → ⊥
no_success a is = by (reads a) is where
  by : (b : Bool) → (if b then unrecovered_read_error else write_fault) ≡ success → ⊥
  by true is = let codes : 129 ≡ 0 = ap code_of is in true≢false (ap (nat_eq 129) codes)
  by false is = let codes : 128 ≡ 0 = ap code_of is in true≢false (ap (nat_eq 128) codes)

module _ (op : Operation) (bytes : List ℕ) (contents : List (List ℕ)) (m : DiskOutcome) where
  success_is_done : status_by op bytes contents m ≡ success → is_fault m ≡ false
  success_is_done is = by (is_fault m) is where
    by : (b : Bool) → (if b then fault_status op.action else good_status op.action op.extent bytes (read_in m op.extent contents)) ≡ success
        → b ≡ false
    by true is = absurd (no_success op.action is)
    by false is = refl

  done_is_success : good_status op.action op.extent bytes (read_in m op.extent contents) ≡ success → is_fault m ≡ false
      → status_by op bytes contents m ≡ success
  done_is_success succeeds done = rw done succeeds

written_good : (a : Action) (e : Extent) (bytes read : List ℕ) (w : Write) → write_by a e bytes ≡ Some w
    → good_status a e bytes read ≡ success
written_good (action.Write at fua) e bytes read w is = refl
written_good (action.WriteZeroes fua) e bytes read w is = refl
written_good _ e bytes read w is = absurd (true≢false (sym (ap is_some is)))

pub answered_as_done : AnsweredAsDone
answered_as_done = record {
  writes = λ op bytes contents m w is. (
    success_is_done op bytes contents m,
    done_is_success op bytes contents m (written_good op.action op.extent bytes (read_in m op.extent contents) w is),
  );
  flushes = λ op bytes contents m is. (
    success_is_done op bytes contents m,
    done_is_success op bytes contents m (rw is refl),
  );
}

-- ---- what syncs

pub done_is : (x : Occurrence) → succeeds x ≡ true → is_fault (disk_outcome_in x.event) ≡ false
done_is x done = by (is_fault (disk_outcome_in x.event)) done where
  by : (b : Bool) → not b ≡ true → b ≡ false
  by true done = absurd (true≢false (sym done))
  by false done = refl

kept_by : (a : Action) (s : Stored) (status : Status) → is_to_last a ≡ true → status ≡ success → Syncs a s status → s.synced ≡ s.contents
kept_by action.Flush s status lasts is syncs = syncs is
kept_by (action.Write at fua) s status lasts is syncs = syncs lasts is
kept_by (action.WriteZeroes fua) s status lasts is syncs = syncs lasts is
kept_by _ s status lasts is syncs = absurd (true≢false (sym lasts))

lasting_good : (a : Action) (e : Extent) (bytes read : List ℕ) → is_to_last a ≡ true → good_status a e bytes read ≡ success
lasting_good action.Flush e bytes read lasts = refl
lasting_good (action.Write at fua) e bytes read lasts = refl
lasting_good (action.WriteZeroes fua) e bytes read lasts = refl
lasting_good _ e bytes read lasts = absurd (true≢false (sym lasts))

synced_by : (o : Option Operation) (bytes : List ℕ) (m : DiskOutcome) (old new : List Stored) (disk : ℕ) → LastsIn o bytes m old new
    → is_to_last_on o disk ≡ true → is_fault m ≡ false → (disk_at new disk).synced ≡ (disk_at new disk).contents
synced_by None bytes m old new disk lasts last done = absurd (true≢false (sym last))
synced_by (Some op) bytes m old new disk lasts last done =
    let both = both_true (disk == disk_of op) (is_to_last op.action) last in
    let here : disk ≡ disk_of op = eqb-true disk (disk_of op) both.0 in
    let contents = contents_at old (disk_of op) in
    let status : status_by op bytes contents m ≡ success =
    done_is_success op bytes contents m (lasting_good op.action op.extent bytes (read_in m op.extent contents) both.1) done in
    subst (λ d. (disk_at new d).synced ≡ (disk_at new d).contents) (sym here)
    (kept_by op.action (disk_at new (disk_of op)) (status_by op bytes contents m) both.1 status lasts)

syncs_by : (x : Occurrence) (op : Operation) (a : Action) → operation_asked x ≡ Some op → op.action ≡ a → is_to_last a ≡ true
    → succeeds x ≡ true → syncs x (disk_of op) ≡ true
syncs_by x op a asked is lasts done =
    let last : is_to_last_on (Some op) (disk_of op) ≡ true = rw (same_here (disk_of op), is) lasts in
    ap (λ (o : Option Operation). is_to_last_on o (disk_of op) && succeeds x) asked ∙ and_from (is_to_last_on (Some op) (disk_of op)) (succeeds x) last done

pub syncs_reach_the_disks : SyncsReachTheDisks
syncs_reach_the_disks = record {
  flush = λ x op asked is done. syncs_by x op action.Flush asked is refl done;
  write = λ x op at asked is done. syncs_by x op (action.Write at true) asked is refl done;
  zeroes = λ x op asked is done. syncs_by x op (action.WriteZeroes true) asked is refl done;
  synced = λ x old new disk did synced.
      let both = both_true (is_to_last_on (operation_asked x) disk) (succeeds x) synced in
      synced_by (operation_asked x) (bytes_asked x) (disk_outcome_in x.event) old new disk did.lasts both.0 (done_is x both.1);
}
