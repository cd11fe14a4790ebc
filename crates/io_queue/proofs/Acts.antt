-- What a write leaves where the disk failed, and where what was written is to last; and what a Compare tells of what it
-- found.
use Rattle.std.proofs.Common.{◌≡◌, ◌≢◌, ◌≤◌, inl, inr, ℕ, zero, suc, ◌*◌, Bool, true, false, true≢false, List, [], length, take, refl, sym, ap, ◌∙◌, arith, ◌↔◌, IsTrue}
use Rattle.std.proofs.lemmas.List.{take_all}
use Rattle.block_store.specs.Compare.{Compared}
use Rattle.block_store.specs.Faults.{Strays}
use Rattle.block_store.specs.Range.{FrontWritten, overwritten}
use Rattle.block_store.specs.Stored.{Stored}
use Rattle.nvt_fields.specs.declared.status.Status.{Status}
use Rattle.nvt_fields.specs.Status.{compare_failure, success, write_fault}
use Rattle.io_queue.specs.declared.operation.Extent.{Extent}
use Rattle.io_queue.specs.Act.{Compares, CountsBy, IsOfWrite, DiskOutcome, Writes, extent_bytes, found, good, read_fault, write_fault_after, write_status, written_by}
use Rattle.io_queue.specs.Execution.{compared}

-- a front of the units is new
pub front_new : (first : ℕ) (units : List (List ℕ)) (old new : Stored) → FrontWritten old.contents first units new.contents
    → new.faults ≢ old.faults → Writes first units old new write_fault
front_new first units old new front faults = record {
  disk_outcome = write_fault_after front.count;
  of_write = front.within;
  answer = refl;
  contents = front.holds;
  counts = faults;
}

-- none of no units is new
pub none_new : (old new : Stored) → new.contents ≡ old.contents → new.faults ≢ old.faults → Writes 0 [] old new write_fault
none_new old new contents faults = record {
  disk_outcome = write_fault_after 0;
  of_write = omega arith;
  answer = refl;
  contents = contents;
  counts = faults;
}

whole : (first : ℕ) (units contents : List (List ℕ)) → overwritten contents first units ≡ overwritten contents first (take (length units) units)
whole first units contents = ap (overwritten contents first) (sym (take_all (length units) units (omega arith)))

none_below : (n : ℕ) → suc n ≤ 0 → ⊥
none_below n below = omega (arith, below)

-- all units are new, and a Flush follows
pub then_flushed : (first : ℕ) (units : List (List ℕ)) (old mid new : Stored) (status : Status) → mid.contents ≡ overwritten old.contents first units
    → mid.faults ≡ old.faults → mid.strays ≡ old.strays → Writes 0 [] mid new status → Writes first units old new status
then_flushed first units old mid new status written kept no_stray flushed = by flushed.disk_outcome flushed.of_write flushed.answer flushed.contents flushed.counts where
  by : (m : DiskOutcome) → IsOfWrite 0 m → status ≡ write_status m → new.contents ≡ written_by m 0 [] mid.contents
      → CountsBy m mid new → Writes first units old new status
  by good of answer contents counts = record {
    disk_outcome = good;
    of_write = tt;
    answer = answer;
    contents = contents ∙ written ∙ whole first units old.contents;
    counts = (counts.0 ∙ kept, counts.1 ∙ no_stray);
  }
  by (found bytes) of answer contents counts = absurd of
  by read_fault of answer contents counts = absurd of
  by (write_fault_after zero) of answer contents counts = record {
    disk_outcome = write_fault_after (length units);
    of_write = omega arith;
    answer = answer;
    contents = contents ∙ written ∙ whole first units old.contents;
    counts = λ same. counts (same ∙ sym kept);
  }
  by (write_fault_after (suc n)) of answer contents counts = absurd (none_below n of)

-- ---- a Compare

same_told : (same : Bool) (P : Type 0) → IsTrue same ↔ P → P → compared same ≡ success
same_told true P answer is = refl
same_told false P answer is = absurd (true≢false (sym (answer.1 is)))

other_told : (same : Bool) (P : Type 0) → IsTrue same ↔ P → ¬ P → compared same ≡ compare_failure
other_told true P answer not = absurd (not (answer.0 refl))
other_told false P answer not = refl

-- the bytes that were found are the extent's, or others
compared_found : (e : Extent) (bytes : List ℕ) (same : Bool) (old new : Stored) → length bytes ≡ 512 * e.units
    → Compared bytes (extent_bytes e old) same old.strays new.strays → new.contents ≡ old.contents → new.faults ≡ old.faults
    → Compares e bytes old new (compared same)
compared_found e bytes same old new long h contents faults = by h.strays where
  by : Strays h.found (extent_bytes e old) old.strays new.strays → Compares e bytes old new (compared same)
  by (inl own) = record {
    disk_outcome = good;
    of_read = tt;
    finds = tt;
    same = λ ok is. same_told same _ h.answer (is ∙ sym own.0);
    other = λ ok not. other_told same _ h.answer (λ is. not (is ∙ own.0));
    failed = λ bad. cc;
    contents = contents;
    counts = (faults, own.1);
  }
  by (inr other) = record {
    disk_outcome = found h.found;
    of_read = h.whole ∙ long;
    finds = other.0;
    same = λ ok is. same_told same _ h.answer is;
    other = λ ok not. other_told same _ h.answer not;
    failed = λ bad. cc;
    contents = contents;
    counts = (faults, other.1);
  }

pub found_same : (e : Extent) (bytes : List ℕ) (old new : Stored) → length bytes ≡ 512 * e.units
    → Compared bytes (extent_bytes e old) true old.strays new.strays → new.contents ≡ old.contents → new.faults ≡ old.faults
    → Compares e bytes old new success
found_same e bytes old new long h contents faults = compared_found e bytes true old new long h contents faults

pub found_different : (e : Extent) (bytes : List ℕ) (old new : Stored) → length bytes ≡ 512 * e.units
    → Compared bytes (extent_bytes e old) false old.strays new.strays → new.contents ≡ old.contents → new.faults ≡ old.faults
    → Compares e bytes old new compare_failure
found_different e bytes old new long h contents faults = compared_found e bytes false old new long h contents faults
