-- Each operation, performed: what its call did to the disk is what the operation is to do.
use Rattle.std.proofs.Common.{◌≡◌, ◌≢◌, ◌≤◌, ◌<◌, ℕ, ◌+◌, ◌*◌, ◌/◌, ◌==◌, Bool, true, false, List, [], ◌++◌, length, replicate, slice_index_or, slice_set, bytes_eq, Option, Some, None, option_map, append-nil, refl, sym, ap, ◌∙◌, arith}
use Rattle.std.proofs.Math.ListN.{get_or-map}
use Rattle.std.proofs.Math.Seq.{map-set_same, take-nil}
use Rattle.std.proofs.lemmas.List.{get_or-set_other, get_or_default, get_or-set_same, length-map, length-replicate, set-get_or}
use Rattle.std.proofs.lemmas.Bool.{eq-eqb, eqb-true, false≢true}
use Rattle.block_store.proofs.Cuts.{count_is, length-first_chunks}
use Rattle.block_store.specs.Range.{overwritten, units_of}
use Rattle.block_store.specs.Stored.{Stored}
use Rattle.block_store.specs.Unit.{zero_unit}
use Rattle.block_store.specs.Write.{Write}
use Rattle.config_lists.proofs.Names.{bytes_eq-same, same_name}
use Rattle.nvt_fields.specs.declared.status.Status.{Status}
use Rattle.nvt_fields.specs.Status.{compare_failure, success, unrecovered_read_error}
use Rattle.io_queue.specs.declared.operation.Action.TheVariants as action
use Rattle.io_queue.specs.declared.operation.Extent.{Extent}
use Rattle.io_queue.specs.declared.operation.Operation.{Operation}
use Rattle.io_queue.specs.declared.reply.DataFormat.{DataFormat}
use Rattle.io_queue.specs.Act.{Compares, CountsBy, Flushes, IsOfRead, IsOfWrite, IsOther, DiskOutcome, Writes, extent_bytes, found, good, is_fault, read_fault, read_in, read_status, write_fault_after, write_status, written_by}
use Rattle.io_queue.specs.Execution.{Finds, NoFault, NoStray, Performs, PerformsOn, Syncs, SyncsIn, Tells, compared, contents_at, disk_at, faults_at, new_of, no_disk, size_of, sizes, strays_at, write_of, write_on, written}
use Rattle.io_queue.specs.Operation.{HasExtent, IsOnDisk, IsWithin, brought, disk_of}
use Rattle.io_queue.specs.Reply.{AppendsRead, read_by, returned_pdus}

pub read_performed : (e : Extent) (bytes : List ℕ) (format : DataFormat) (old new : Stored) (output appended : List ℕ) (status : Status)
    → AppendsRead format e old new output appended status → PerformsOn e action.Read bytes format old new output appended status
read_performed e bytes format old new output appended status h = by h.disk_outcome h.of_read h.finds h.answer h.sends h.counts where
  by : (m : DiskOutcome) → IsOfRead e.units m → IsOther m (extent_bytes e old) → status ≡ read_status m
      → appended ≡ output ++ returned_pdus format (read_by m (read_in m e old.contents)) → CountsBy m old new
      → PerformsOn e action.Read bytes format old new output appended status
  by good of finds answer sends counts = record {
    disk_outcome = good;
    meets = tt;
    finds = tt;
    answer = answer;
    sends = sends;
    contents = h.contents;
    counts = counts;
  }
  by (found others) of finds answer sends counts = record {
    disk_outcome = found others;
    meets = of;
    finds = finds;
    answer = answer;
    sends = sends;
    contents = h.contents;
    counts = counts;
  }
  by read_fault of finds answer sends counts = record {
    disk_outcome = read_fault;
    meets = tt;
    finds = tt;
    answer = answer;
    sends = sends;
    contents = h.contents;
    counts = counts;
  }
  by (write_fault_after n) of finds answer sends counts = absurd of

-- a Compare by a test of the bytes that were read
compared_by : (brought read : List ℕ) (status : Status) (test : Bool) → bytes_eq brought read ≡ test → (brought ≡ read → status ≡ success)
    → (¬ (brought ≡ read) → status ≡ compare_failure) → status ≡ compared test
compared_by brought read status true is same other = same (same_name brought read is)
compared_by brought read status false is same other = other (λ equal. differ (bytes_eq-same brought read equal)) where
  differ : bytes_eq brought read ≡ true → ⊥
  differ equal = cc

pub compare_performed : (e : Extent) (at : ℕ) (bytes : List ℕ) (format : DataFormat) (old new : Stored) (output : List ℕ) (status : Status)
    → Compares e (brought e at bytes) old new status → PerformsOn e (action.Compare at) bytes format old new output output status
compare_performed e at bytes format old new output status h = by h.disk_outcome h.of_read h.finds h.same h.other h.failed h.counts where
  by : (m : DiskOutcome) → IsOfRead e.units m → IsOther m (extent_bytes e old)
      → (is_fault m ≡ false → brought e at bytes ≡ read_in m e old.contents → status ≡ success)
      → (is_fault m ≡ false → ¬ (brought e at bytes ≡ read_in m e old.contents) → status ≡ compare_failure)
      → (is_fault m ≡ true → status ≡ unrecovered_read_error) → CountsBy m old new
      → PerformsOn e (action.Compare at) bytes format old new output output status
  by good of finds same other failed counts = record {
    disk_outcome = good;
    meets = tt;
    finds = tt;
    answer = compared_by (brought e at bytes) (extent_bytes e old) status (bytes_eq (brought e at bytes) (extent_bytes e old)) refl (same refl) (other refl);
    sends = simp append-nil;
    contents = h.contents;
    counts = counts;
  }
  by (found others) of finds same other failed counts = record {
    disk_outcome = found others;
    meets = of;
    finds = finds;
    answer = compared_by (brought e at bytes) others status (bytes_eq (brought e at bytes) others) refl (same refl) (other refl);
    sends = simp append-nil;
    contents = h.contents;
    counts = counts;
  }
  by read_fault of finds same other failed counts = record {
    disk_outcome = read_fault;
    meets = tt;
    finds = tt;
    answer = failed refl;
    sends = simp append-nil;
    contents = h.contents;
    counts = counts;
  }
  by (write_fault_after n) of finds same other failed counts = absurd of

-- as many units as bytes make
pub units_len : (bytes : List ℕ) (units : ℕ) → length bytes ≡ 512 * units → length (units_of bytes) ≡ units
units_len bytes units is =
    let whole : length bytes ≡ units * 512 = omega (arith, is) in
    length-first_chunks (length bytes / 512) bytes ∙ count_is bytes units whole

pub write_performed : (e : Extent) (at : ℕ) (fua : Bool) (bytes : List ℕ) (format : DataFormat) (old new : Stored) (output : List ℕ) (status : Status)
    → length (brought e at bytes) ≡ 512 * e.units → Writes e.first (units_of (brought e at bytes)) old new status
    → PerformsOn e (action.Write at fua) bytes format old new output output status
write_performed e at fua bytes format old new output status len h = by h.disk_outcome h.of_write h.answer h.contents h.counts where
  units : List (List ℕ)
  units = units_of (brought e at bytes)

  by : (m : DiskOutcome) → IsOfWrite (length units) m → status ≡ write_status m → new.contents ≡ written_by m e.first units old.contents
      → CountsBy m old new → PerformsOn e (action.Write at fua) bytes format old new output output status
  by good of answer contents counts = record {
    disk_outcome = good;
    meets = tt;
    finds = tt;
    answer = answer;
    sends = simp append-nil;
    contents = contents;
    counts = counts;
  }
  by (found others) of answer contents counts = absurd of
  by read_fault of answer contents counts = absurd of
  by (write_fault_after n) of answer contents counts = record {
    disk_outcome = write_fault_after n;
    meets = rw (units_len (brought e at bytes) e.units len) at of;
    finds = tt;
    answer = answer;
    sends = simp append-nil;
    contents = contents;
    counts = counts;
  }

pub zeroes_performed : (e : Extent) (fua : Bool) (bytes : List ℕ) (format : DataFormat) (old new : Stored) (output : List ℕ) (status : Status)
    → Writes e.first (replicate e.units zero_unit) old new status → PerformsOn e (action.WriteZeroes fua) bytes format old new output output status
zeroes_performed e fua bytes format old new output status h = by h.disk_outcome h.of_write h.answer h.contents h.counts where
  units : List (List ℕ)
  units = replicate e.units zero_unit

  by : (m : DiskOutcome) → IsOfWrite (length units) m → status ≡ write_status m → new.contents ≡ written_by m e.first units old.contents
      → CountsBy m old new → PerformsOn e (action.WriteZeroes fua) bytes format old new output output status
  by good of answer contents counts = record {
    disk_outcome = good;
    meets = tt;
    finds = tt;
    answer = answer;
    sends = simp append-nil;
    contents = contents;
    counts = counts;
  }
  by (found others) of answer contents counts = absurd of
  by read_fault of answer contents counts = absurd of
  by (write_fault_after n) of answer contents counts = record {
    disk_outcome = write_fault_after n;
    meets = rw (length-replicate e.units zero_unit) at of;
    finds = tt;
    answer = answer;
    sends = simp append-nil;
    contents = contents;
    counts = counts;
  }

pub flush_performed : (e : Extent) (bytes : List ℕ) (format : DataFormat) (old new : Stored) (output : List ℕ) (status : Status) → Flushes old new status
    → PerformsOn e action.Flush bytes format old new output output status
flush_performed e bytes format old new output status h = by h.disk_outcome h.of_write h.answer h.contents h.counts where
  by : (m : DiskOutcome) → IsOfWrite 0 m → status ≡ write_status m → new.contents ≡ written_by m 0 [] old.contents
      → CountsBy m old new → PerformsOn e action.Flush bytes format old new output output status
  by good of answer contents counts = record {
    disk_outcome = good;
    meets = tt;
    finds = tt;
    answer = answer;
    sends = simp append-nil;
    contents = contents;
    counts = counts;
  }
  by (found others) of answer contents counts = absurd of
  by read_fault of answer contents counts = absurd of
  by (write_fault_after n) of answer contents counts = record {
    disk_outcome = write_fault_after n;
    meets = omega (arith, of);
    finds = tt;
    answer = answer;
    sends = simp append-nil;
    contents = contents ∙ ap (overwritten old.contents 0) (take-nil n);
    counts = counts;
  }

-- ---- one of several disks

-- what a disk has that stands there now, and what the others have
same_elsewhere : {A : Type 0} (f : Stored → A) (disks : List Stored) (i d : ℕ) (s : Stored) → (d == i) ≡ false
    → f (disk_at (slice_set disks i s) d) ≡ f (disk_at disks d)
same_elsewhere f disks i d s other = ap f (get_or-set_other disks i d s no_disk (λ same. differ same other)) where
  differ : d ≡ i → (d == i) ≡ false → ⊥
  differ same other = false≢true (sym other ∙ eq-eqb d i same)

here : (disks : List Stored) (i : ℕ) (s : Stored) → i < length disks → disk_at (slice_set disks i s) i ≡ s
here disks i s within = get_or-set_same disks i s no_disk within

below : (disks : List Stored) (d : ℕ) → d < length (sizes disks) → d < length disks
below disks d h = rw (length-map disks size_of) at h

extent : (disks : List Stored) (e : Extent) → HasExtent (sizes disks) e → e.first + e.units ≤ length (contents_at disks e.disk)
extent disks e h = rw (get_or-map size_of disks e.disk no_disk) at h.within

-- what an operation asks of its disk
pub disk_there : (disks : List Stored) (brings : ℕ) (op : Operation) → IsWithin (sizes disks) brings op → disk_of op < length disks
disk_there disks brings op h = below disks op.extent.disk h.0.disk

on_disk : (disks : List Stored) (brings : ℕ) (op : Operation) → IsWithin (sizes disks) brings op
    → IsOnDisk (length (contents_at disks (disk_of op))) brings op.extent op.action
on_disk disks brings op h = (extent disks op.extent h.0, h.1)

-- .. whatever stands for a disk that is not there
pub within_on : (disks : List Stored) (brings : ℕ) (op : Operation) (none : Stored) → IsWithin (sizes disks) brings op
    → IsOnDisk (length (slice_index_or disks (disk_of op) none).contents) brings op.extent op.action
within_on disks brings op none h = rw (get_or_default disks (disk_of op) none no_disk (disk_there disks brings op h)) (on_disk disks brings op h)

-- what an act makes of each disk
acted_at : (m : DiskOutcome) (o : Option Write) (disks : List Stored) (i : ℕ) (new : Stored) → i < length disks
    → new.contents ≡ written (option_map (new_of m) o) (contents_at disks i) → (d : ℕ) (test : Bool) → (d == i) ≡ test
    → contents_at (slice_set disks i new) d ≡ written (write_on d (option_map (λ w. record { disk = i; write = new_of m w }) o)) (contents_at disks d)
acted_at m None disks i new within h d true is =
    rw (eqb-true d i is) (ap (λ (s : Stored). s.contents) (here disks i new within) ∙ h)
acted_at m None disks i new within h d false is = same_elsewhere (λ (s : Stored). s.contents) disks i d new is
acted_at m (Some w) disks i new within h d true is = rw is (rw (eqb-true d i is) (ap (λ (s : Stored). s.contents) (here disks i new within) ∙ h))
acted_at m (Some w) disks i new within h d false is = rw is (same_elsewhere (λ (s : Stored). s.contents) disks i d new is)

risen : (old new : ℕ) → old < new → new ≢ old
risen old new rose same = omega (arith, rose, same)

-- a count of a disk that stands there now, and those of the others
module _ (count : Stored → ℕ) (disks : List Stored) (i : ℕ) (new : Stored) (within : i < length disks) where
  count_here : count (disk_at (slice_set disks i new) i) ≡ count new
  count_here = ap count (here disks i new within)

  count_kept : count new ≡ count (disk_at disks i) → (d : ℕ) (test : Bool) → (d == i) ≡ test
      → count (disk_at (slice_set disks i new) d) ≡ count (disk_at disks d)
  count_kept same d true is = rw (eqb-true d i is) (count_here ∙ same)
  count_kept same d false is = same_elsewhere count disks i d new is

  count_changed : count new ≢ count (disk_at disks i) → ¬ ((d : ℕ) → count (disk_at (slice_set disks i new) d) ≡ count (disk_at disks d))
  count_changed differs same = differs (sym count_here ∙ same i)

told : (m : DiskOutcome) (disks : List Stored) (i : ℕ) (new : Stored) → i < length disks → CountsBy m (disk_at disks i) new
    → Tells m disks (slice_set disks i new)
told m disks i new within h = by m h where
  no_fault : new.faults ≡ faults_at disks i → NoFault disks (slice_set disks i new)
  no_fault same = λ d. count_kept (λ s. s.faults) disks i new within same d (d == i) refl

  no_stray : new.strays ≡ strays_at disks i → NoStray disks (slice_set disks i new)
  no_stray same = λ d. count_kept (λ s. s.strays) disks i new within same d (d == i) refl

  strayed : strays_at disks i < new.strays → ¬ NoStray disks (slice_set disks i new)
  strayed rose = count_changed (λ s. s.strays) disks i new within (λ same. risen _ _ rose same)

  failed : new.faults ≢ faults_at disks i → ¬ NoFault disks (slice_set disks i new)
  failed differs = count_changed (λ s. s.faults) disks i new within differs

  by : (m : DiskOutcome) → CountsBy m (disk_at disks i) new → Tells m disks (slice_set disks i new)
  by good h = record {
    good = λ is. (no_fault h.0, no_stray h.1);
    strayed = λ is. absurd (false≢true is);
    failed = λ is. absurd (false≢true is);
  }
  by (found bytes) h = record {
    good = λ is. absurd (false≢true is);
    strayed = λ is. (no_fault h.0, strayed h.1);
    failed = λ is. absurd (false≢true is);
  }
  by read_fault h = record {
    good = λ is. absurd (false≢true is);
    strayed = λ is. absurd (false≢true is);
    failed = λ is. failed h;
  }
  by (write_fault_after n) h = record {
    good = λ is. absurd (false≢true is);
    strayed = λ is. absurd (false≢true is);
    failed = λ is. failed h;
  }

-- bytes that were found, on one of several disks
finds_on : (op : Operation) (m : DiskOutcome) (disks : List Stored) (new : Stored) → disk_of op < length disks
    → IsOther m (extent_bytes op.extent (disk_at disks (disk_of op))) → CountsBy m (disk_at disks (disk_of op)) new
    → Finds op m disks (slice_set disks (disk_of op) new)
finds_on op good disks new within finds counts = tt
finds_on op (found bytes) disks new within finds counts = record {
  other = finds;
  rose = omega (arith, count_here (λ s. s.strays) disks (disk_of op) new within, counts.1);
}
finds_on op read_fault disks new within finds counts = tt
finds_on op (write_fault_after n) disks new within finds counts = tt

-- an operation that is performed on one disk is performed on them all
performed_on : (op : Operation) (bytes : List ℕ) (format : DataFormat) (disks : List Stored) (new : Stored) (output appended : List ℕ) (status : Status)
    → disk_of op < length disks → length new.contents ≡ length (contents_at disks (disk_of op))
    → PerformsOn op.extent op.action bytes format (disk_at disks (disk_of op)) new output appended status
    → Performs op bytes format disks (slice_set disks (disk_of op) new) output appended status
performed_on op bytes format disks new output appended status within same h = record {
  disk_outcome = h.disk_outcome;
  meets = h.meets;
  tells = told h.disk_outcome disks (disk_of op) new within h.counts;
  finds = finds_on op h.disk_outcome disks new within h.finds h.counts;
  answer = h.answer;
  sends = h.sends;
  contents = λ d. acted_at h.disk_outcome (write_of op bytes) disks (disk_of op) new within h.contents d (d == disk_of op) refl;
  sizes = map-set_same size_of disks (disk_of op) new no_disk same;
}

-- .. whatever stands for a disk that is not there
pub performed_at : (op : Operation) (bytes : List ℕ) (format : DataFormat) (disks : List Stored) (none new : Stored) (output appended : List ℕ) (status : Status)
    → IsWithin (sizes disks) (length bytes) op → length new.contents ≡ length (slice_index_or disks (disk_of op) none).contents
    → PerformsOn op.extent op.action bytes format (slice_index_or disks (disk_of op) none) new output appended status
    → Performs op bytes format disks (slice_set disks (disk_of op) new) output appended status
performed_at op bytes format disks none new output appended status within same h =
    let there = disk_there disks (length bytes) op within in
    let other : slice_index_or disks (disk_of op) none ≡ disk_at disks (disk_of op) = get_or_default disks (disk_of op) none no_disk there in
    performed_on op bytes format disks new output appended status there (rw other at same) (rw other at h)

-- where an extent is, whatever stands for a disk that is not there
pub extent_there : (disks : List Stored) (e : Extent) → HasExtent (sizes disks) e → e.disk < length disks
extent_there disks e h = below disks e.disk h.disk

pub extent_on : (disks : List Stored) (e : Extent) (none : Stored) → HasExtent (sizes disks) e
    → e.first + e.units ≤ length (slice_index_or disks e.disk none).contents
extent_on disks e none h = rw (get_or_default disks e.disk none no_disk (extent_there disks e h)) (extent disks e h)

-- a disk that is as before stands in its place
pub put_back : (disks : List Stored) (i : ℕ) (none new : Stored) → new ≡ slice_index_or disks i none → slice_set disks i new ≡ disks
put_back disks i none new same = rw same (set-get_or disks i none)

pub synced_at : (op : Operation) (brings : ℕ) (disks : List Stored) (new : Stored) (status : Status) → IsWithin (sizes disks) brings op
    → Syncs op.action new status → SyncsIn op (slice_set disks (disk_of op) new) status
synced_at op brings disks new status within h = rw (here disks (disk_of op) new (disk_there disks brings op within)) h
