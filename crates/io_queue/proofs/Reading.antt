-- What a Read returns after another operation.
use Rattle.std.proofs.Common.{◌≡◌, ◌≤◌, inl, inr, ℕ, zero, suc, ◌+◌, ◌*◌, ◌/◌, ◌==◌, Bool, true, false, List, ◌++◌, length, take, drop, replicate, Option, Some, None, option_map, append_assoc, refl, ap, ◌∙◌, arith}
use Rattle.std.specs.Prelude.{if◌then◌else◌}
use Rattle.std.proofs.lemmas.Bool.{eq-eqb, ne_eqb}
use Rattle.std.proofs.lemmas.List.{drop_at, length-drop, length-replicate, length-take, length-take-le, replicate-append-replicate, take_all, take_at}
use Rattle.block_store.proofs.Cuts.{bytes_of_chunks}
use Rattle.block_store.proofs.Overwrites.{range_outside}
use Rattle.block_store.specs.Range.{bytes_of, overwritten, units_at, units_of}
use Rattle.block_store.specs.Unit.{zero_unit}
use Rattle.block_store.specs.Write.{Write}
use Rattle.io_queue.specs.declared.operation.Action.{Action}
use Rattle.io_queue.specs.declared.operation.Action.TheVariants as action
use Rattle.io_queue.specs.declared.operation.Extent.{Extent}
use Rattle.io_queue.specs.declared.operation.Operation.{Operation}
use Rattle.io_queue.specs.Act.{DiskOutcome, count_new, good}
use Rattle.io_queue.specs.Execution.{new_of, write_by, write_of, write_on, written}
use Rattle.io_queue.specs.Laws.{AreApart, IsBeside, IsBesideBy, ReadsWhatWasWritten, left_by, read_from}
use Rattle.io_queue.specs.Operation.{IsOnDisk, brought, disk_of, operation_on}
use Rattle.io_queue.proofs.Executions.{units_len}

-- ---- what was written

written_here : (contents units : List (List ℕ)) (first count : ℕ) → first + count ≤ length contents → length units ≡ count
    → units_at (overwritten contents first units) first count ≡ units
written_here contents units first count within long =
    let front = take first contents in
    let behind = drop (first + length units) contents in
    ap (λ (c : List (List ℕ)). units_at c first count) (append_assoc front units behind)
    ∙ ap (λ (c : List (List ℕ)). take count c) (drop_at front (units ++ behind) first (length-take-le first contents (omega (arith, within))))
    ∙ take_at units behind count long

read_back : (e : Extent) (test : Bool) (units contents : List (List ℕ)) → test ≡ true → e.first + e.units ≤ length contents → length units ≡ e.units
    → read_from e (written (if test then Some (new_of good (record { first = e.first; units = units })) else None) contents) ≡ Some (bytes_of units)
read_back e true units contents here within long =
    ap (λ (us : List (List ℕ)). read_from e (overwritten contents e.first us)) (take_all (length units) units (omega arith))
    ∙ ap (λ (us : List (List ℕ)). Some (bytes_of us)) (written_here contents units e.first e.units within long)
read_back e false units contents here within long = cc

brought_len : (e : Extent) (at : ℕ) (bytes : List ℕ) → at + 512 * e.units ≤ length bytes → length (brought e at bytes) ≡ 512 * e.units
brought_len e at bytes brings = length-take-le (512 * e.units) (drop at bytes) (omega (arith, brings, length-drop at bytes))

given : (e : Extent) (at : ℕ) (fua : Bool) (bytes : List ℕ) (contents : List (List ℕ))
    → IsOnDisk (length contents) (length bytes) e (action.Write at fua)
    → read_from e (left_by (operation_on e (action.Write at fua)) bytes good e.disk contents) ≡ Some (brought e at bytes)
given e at fua bytes contents (within, brings) =
    let these = brought e at bytes in
    let long = brought_len e at bytes brings in
    read_back e (e.disk == e.disk) (units_of these) contents (eq-eqb e.disk e.disk refl) within (units_len these e.units long)
    ∙ ap Some (bytes_of_chunks (length these / 512) these (omega (arith, long)))

zero_bytes : (count : ℕ) → bytes_of (replicate count zero_unit) ≡ replicate (512 * count) 0
zero_bytes zero = refl
zero_bytes (suc count) =
    let more : 512 + 512 * count ≡ 512 * suc count = omega arith in
    ap (λ bytes. zero_unit ++ bytes) (zero_bytes count) ∙ replicate-append-replicate 512 (512 * count) 0
    ∙ ap (λ n. replicate n 0) more

zeros : (e : Extent) (fua : Bool) (bytes : List ℕ) (contents : List (List ℕ))
    → IsOnDisk (length contents) (length bytes) e (action.WriteZeroes fua)
    → read_from e (left_by (operation_on e (action.WriteZeroes fua)) bytes good e.disk contents) ≡ Some (replicate (512 * e.units) 0)
zeros e fua bytes contents (within, asks) =
    read_back e (e.disk == e.disk) (replicate e.units zero_unit) contents (eq-eqb e.disk e.disk refl) within (length-replicate e.units zero_unit)
    ∙ ap Some (zero_bytes e.units)

-- ---- what was not

not_on : (e : Extent) (test : Bool) (m : DiskOutcome) (w : Write) (contents : List (List ℕ)) → test ≡ false
    → read_from e (written (if test then Some (new_of m w) else None) contents) ≡ read_from e contents
not_on e true m w contents other = cc
not_on e false m w contents other = refl

-- the units of a disk after this is written to one, by what that did
abbrev left_at : ℕ → Option Write → DiskOutcome → ℕ → List (List ℕ) → List (List ℕ)
left_at disk o m other contents = written (write_on other (option_map (λ w. record { disk = disk; write = new_of m w }) o)) contents

elsewhere_by : (e : Extent) (disk : ℕ) (o : Option Write) (m : DiskOutcome) (contents : List (List ℕ)) → ¬ (e.disk ≡ disk)
    → read_from e (left_at disk o m e.disk contents) ≡ read_from e contents
elsewhere_by e disk None m contents other = refl
elsewhere_by e disk (Some w) m contents other = not_on e (e.disk == disk) m w contents (ne_eqb e.disk disk other)

elsewhere : (e : Extent) (op : Operation) (bytes : List ℕ) (m : DiskOutcome) (contents : List (List ℕ))
    → ¬ (e.disk ≡ disk_of op) → read_from e (left_by op bytes m e.disk contents) ≡ read_from e contents
elsewhere e op bytes m contents other = elsewhere_by e (disk_of op) (write_of op bytes) m contents other

not_of : (e f : Extent) (test : Bool) (m : DiskOutcome) (units contents : List (List ℕ)) → f.first + f.units ≤ length contents → length units ≡ f.units
    → AreApart e f → read_from e (written (if test then Some (new_of m (record { first = f.first; units = units })) else None) contents) ≡ read_from e contents
not_of e f false m units contents within long apart = refl
not_of e f true m units contents within long apart =
    let new = take (count_new m (length units)) units in
    let few : length new ≤ f.units = omega (arith, length-take (count_new m (length units)) units, long) in
    ap (λ (us : List (List ℕ)). Some (bytes_of us))
    (range_outside contents new f.first (omega (arith, within, few)) e.first e.units
    (elim apart [ inl before ↦ inl before | inr behind ↦ inr (omega (arith, behind, few)) ]))

beside_by : (e f : Extent) (a : Action) (bytes : List ℕ) (m : DiskOutcome) (contents : List (List ℕ))
    → IsOnDisk (length contents) (length bytes) f a → IsBesideBy e a f
    → read_from e (left_at f.disk (write_by a f bytes) m e.disk contents) ≡ read_from e contents
beside_by e f (action.Write at fua) bytes m contents (within, brings) apart =
    not_of e f (e.disk == f.disk) m (units_of (brought f at bytes)) contents within (units_len (brought f at bytes) f.units (brought_len f at bytes brings)) apart
beside_by e f (action.WriteZeroes fua) bytes m contents (within, asks) apart =
    not_of e f (e.disk == f.disk) m (replicate f.units zero_unit) contents within (length-replicate f.units zero_unit) apart
beside_by e f _ bytes m contents within apart = refl

beside : (e : Extent) (op : Operation) (bytes : List ℕ) (m : DiskOutcome) (contents : List (List ℕ))
    → IsOnDisk (length contents) (length bytes) op.extent op.action → IsBeside e op
    → read_from e (left_by op bytes m e.disk contents) ≡ read_from e contents
beside e op bytes m contents within apart = beside_by e op.extent op.action bytes m contents within apart

pub reads_what_was_written : ReadsWhatWasWritten
reads_what_was_written = record { given = given; zeros = zeros; elsewhere = elsewhere; beside = beside }
