-- What is to be written to a unit, what a disk makes of it, and the bytes that it has.
use Rattle.std.proofs.Common.{◌≡◌, ◌⊎◌, inl, inr, ℕ, zero, suc, ◌+◌, ◌-◌, ◌*◌, ◌/◌, ◌<◌, ◌≤◌, ◌==◌, Bool, true, false, true≢false, List, [], ◌∷◌, ◌++◌, Option, Some, None, IsSomeAnd, refl, sym, ◌∙◌, ap, subst, arith, length, take, drop, replicate, get_or, is_some, length-append, length-drop, length-take, length-take-le, option_map, if◌then◌else◌}
use Rattle.std.specs.Prelude.{unwrap_or}
use Rattle.std.specs.Simd.{first_chunks}
use Rattle.std.proofs.lemmas.List.{take_all, take_at, drop_at, take-take, drop-drop, drop-take, get_or-take, get_or-drop, get_or_append_left, get_or-append_right, get_or-replicate, length-replicate}
use Rattle.std.proofs.lemmas.Bool.{cases_lt, eqb-true}
use Rattle.std.proofs.lemmas.Bool.Decides.{nat_tests}
use Rattle.block_store.specs.Range.{bytes_of, overwritten, units_at, units_of}
use Rattle.block_store.specs.Unit.{IsUnit, zero_unit}
use Rattle.block_store.specs.Write.{Write, writes}
use Rattle.block_store.proofs.Cuts.{length-first_chunks}
use Rattle.io_queue.specs.declared.operation.Action.{Action}
use Rattle.io_queue.specs.declared.operation.Action.TheVariants as action
use Rattle.io_queue.specs.declared.operation.Extent.{Extent}
use Rattle.io_queue.specs.declared.operation.Operation.{Operation}
use Rattle.io_queue.specs.Act.{DiskOutcome, count_new, found, good, is_fault, read_fault, write_fault_after}
use Rattle.io_queue.specs.Execution.{new_of, write_by, write_of, write_on, written}
use Rattle.io_queue.specs.Operation.{brought, disk_of}
use Rattle.target_decision.specs.declared.decision.Decision.{Decision}
use Rattle.target_decision.specs.Decision.{act_in}
use Rattle.target_decision.specs.Transfer.{Tags}
use Rattle.pdu_cut.specs.Front.{Front}
use Rattle.target_history.specs.Lasting.{GivesWhatWasBrought, given_by, unit_at, whole_write}
use Rattle.target_history.specs.Occurrence.{act_decided, bytes_asked, bytes_decided, operation_asked, operation_decided}
use Rattle.target_history.proofs.Tests.{same_here}

-- ---- a unit of a disk, after a write, wherever in the disk that begins and ends

module _ (contents units : List (List ℕ)) (first unit : ℕ) (there : unit < length contents) where
  before_write : unit < first → get_or (overwritten contents first units) unit [] ≡ get_or contents unit []
  before_write below =
      get_or_append_left (take first contents ++ units) (drop (first + length units) contents) [] unit
      (omega (arith, there, below, length-append (take first contents) units, length-take first contents))
      ∙ get_or_append_left (take first contents) units [] unit (omega (arith, there, below, length-take first contents))
      ∙ get_or-take first contents unit [] below

  front_long : first ≤ unit → length (take first contents) ≡ first
  front_long from = length-take-le first contents (omega (arith, from, there))

  in_write : first ≤ unit → unit < first + length units
      → get_or (overwritten contents first units) unit [] ≡ get_or units (unit - first) []
  in_write from below =
      let long = front_long from in
      get_or_append_left (take first contents ++ units) (drop (first + length units) contents) [] unit
      (omega (arith, below, long, length-append (take first contents) units))
      ∙ get_or-append_right (take first contents) units first unit [] long from

  behind_write : first + length units ≤ unit → get_or (overwritten contents first units) unit [] ≡ get_or contents unit []
  behind_write behind =
      let long : length (take first contents) ≡ first = front_long (omega (arith, behind)) in
      let both : length (take first contents ++ units) ≡ first + length units = omega (arith, long, length-append (take first contents) units) in
      let place : first + length units + (unit - (first + length units)) ≡ unit = omega (arith, behind) in
      get_or-append_right (take first contents ++ units) (drop (first + length units) contents) (first + length units) unit [] both behind
      ∙ get_or-drop (first + length units) contents (unit - (first + length units)) []
      ∙ ap (λ n. get_or contents n []) place

  -- it is still there
  there_after : unit < length (overwritten contents first units)
  there_after =
      omega (
        arith,
        there,
        length-append (take first contents ++ units) (drop (first + length units) contents),
        length-append (take first contents) units,
        length-take first contents,
        length-drop (first + length units) contents,
      )

after_write : (w : Write) (contents : List (List ℕ)) (unit : ℕ) → unit < length contents
    → unit_at (overwritten contents w.first w.units) unit ≡ unwrap_or (given_by (Some w) unit) (unit_at contents unit)
after_write w contents unit there =
    elim (cases_lt unit w.first) [
      | inl below ↦
          let test : writes w unit ≡ false = grind (arith, nat_tests) in
          rw test (before_write contents w.units w.first unit there below)
      | inr from ↦
          elim (cases_lt unit (w.first + length w.units)) [
            | inl below ↦
                let test : writes w unit ≡ true = grind (arith, nat_tests) in
                rw test (in_write contents w.units w.first unit there from below)
            | inr behind ↦
                let test : writes w unit ≡ false = grind (arith, nat_tests) in
                rw test (behind_write contents w.units w.first unit there behind)
          ]
    ]

pub after_written : (o : Option Write) (contents : List (List ℕ)) (unit : ℕ) → unit < length contents
    → unit_at (written o contents) unit ≡ unwrap_or (given_by o unit) (unit_at contents unit)
after_written None contents unit there = refl
after_written (Some w) contents unit there = after_write w contents unit there

pub still_there : (o : Option Write) (contents : List (List ℕ)) (unit : ℕ) → unit < length contents → unit < length (written o contents)
still_there None contents unit there = there
still_there (Some w) contents unit there = there_after contents w.units w.first unit there

-- ---- what a disk did of a write, and what it was to do

-- the units that are new are units of the write
pub given_front : (m : DiskOutcome) (o : Option Write) (unit : ℕ)
    → (given_by (option_map (new_of m) o) unit ≡ None) ⊎ (given_by (option_map (new_of m) o) unit ≡ given_by o unit)
given_front m None unit = inl refl
given_front m (Some w) unit = by (count_new m (length w.units)) where
  by : (k : ℕ) → (given_by (Some (record { first = w.first; units = take k w.units })) unit ≡ None) ⊎ (given_by (Some (record { first = w.first; units = take k w.units })) unit ≡ given_by (Some w) unit)
  by k =
      let long = length-take k w.units in
      elim (cases_lt unit w.first) [
        | inl below ↦
            let test : writes (record { first = w.first; units = take k w.units }) unit ≡ false = grind (arith, nat_tests) in
            inl (rw test refl)
        | inr from ↦
            elim (cases_lt unit (w.first + length (take k w.units))) [
              | inl inside ↦
                  let test : writes (record { first = w.first; units = take k w.units }) unit ≡ true = grind (arith, nat_tests) in
                  let shorter : length (take k w.units) ≤ length w.units = omega (arith, long) in
                  let whole : writes w unit ≡ true = grind (arith, nat_tests) in
                  inr (rw (test, whole) (ap Some (get_or-take k w.units (unit - w.first) [] (omega (arith, from, inside, long)))))
              | inr behind ↦
                  let test : writes (record { first = w.first; units = take k w.units }) unit ≡ false = grind (arith, nat_tests) in
                  inl (rw test refl)
            ]
      ]

-- where its disk did not fail all of them are
pub given_whole : (m : DiskOutcome) (o : Option Write) (unit : ℕ) → is_fault m ≡ false
    → given_by (option_map (new_of m) o) unit ≡ given_by o unit
given_whole m None unit done = refl
given_whole m (Some w) unit done = ap (λ us. given_by (Some (record { first = w.first; units = us })) unit) (by m done) where
  by : (m : DiskOutcome) → is_fault m ≡ false → take (count_new m (length w.units)) w.units ≡ w.units
  by good done = take_all (length w.units) w.units (omega arith)
  by (found bytes) done = take_all (length w.units) w.units (omega arith)
  by read_fault done = absurd (true≢false done)
  by (write_fault_after new) done = absurd (true≢false done)

pub front_of : (disk : ℕ) (o : Option Operation) (bytes : List ℕ) (m : DiskOutcome)
    → write_on disk (act_in o bytes m) ≡ option_map (new_of m) (write_on disk (whole_write o bytes))
front_of disk None bytes m = refl
front_of disk (Some op) bytes m = by (write_of op bytes) where
  by : (o : Option Write) → write_on disk (option_map (λ w. record { disk = disk_of op; write = new_of m w }) o) ≡ option_map (new_of m) (write_on disk (option_map (λ w. record { disk = disk_of op; write = w }) o))
  by None = refl
  by (Some w) = on (disk == disk_of op) where
    on : (same : Bool) → (if same then Some (new_of m w) else None) ≡ option_map (new_of m) (if same then Some w else None)
    on true = refl
    on false = refl

pub act_is : (d : Option Decision) (tags : Tags) (front : Front) (m : DiskOutcome)
    → act_decided d tags front m ≡ act_in (operation_decided d) (bytes_decided d tags front) m
act_is None tags front m = refl
act_is (Some d) tags front m = refl

-- ---- the bytes of units

chunk_at : (n : ℕ) (bytes : List ℕ) (k : ℕ) → k < n → get_or (first_chunks 512 n bytes) k [] ≡ take 512 (drop (512 * k) bytes)
chunk_at zero bytes k below = absurd (omega (arith, below))
chunk_at (suc n) bytes zero below = refl
chunk_at (suc n) bytes (suc k) below =
    let place : 512 + 512 * k ≡ 512 * suc k = omega arith in
    chunk_at n (drop 512 bytes) k (omega (arith, below))
    ∙ ap (λ (l : List ℕ). take 512 l) (drop-drop (512 * k) 512 bytes ∙ ap (λ i. drop i bytes) place)

-- a unit of bytes, where it and each before it has 512
pub unit_bytes : (units : List (List ℕ)) (k : ℕ) → ((j : ℕ) → j ≤ k → length (get_or units j []) ≡ 512)
    → take 512 (drop (512 * k) (bytes_of units)) ≡ get_or units k []
unit_bytes [] k each = absurd (omega (arith, each 0 (omega arith)))
unit_bytes (unit ∷ units) zero each = take_at unit (bytes_of units) 512 (each 0 (omega arith))
unit_bytes (unit ∷ units) (suc k) each =
    let place : 512 * suc k ≡ 512 + 512 * k = omega arith in
    ap (λ i. take 512 (drop i (unit ++ bytes_of units))) place
    ∙ ap (λ (l : List ℕ). take 512 l) (sym (drop-drop (512 * k) 512 (unit ++ bytes_of units)))
    ∙ ap (λ (l : List ℕ). take 512 (drop (512 * k) l)) (drop_at unit (bytes_of units) 512 (each 0 (omega arith)))
    ∙ unit_bytes units k (λ j below. each (suc j) (omega (arith, below)))

-- the units of an extent
pub held_at : (contents : List (List ℕ)) (first count j : ℕ) → j < count
    → get_or (units_at contents first count) j [] ≡ get_or contents (first + j) []
held_at contents first count j below = get_or-take count (drop first contents) j [] below ∙ get_or-drop first contents j []

-- ---- the bytes that are given

given_here : (op : Operation) (bytes : List ℕ) (w : Write) (unit : ℕ) → write_of op bytes ≡ Some w → w.first ≤ unit
    → unit < w.first + length w.units
    → given_by (write_on (disk_of op) (whole_write (Some op) bytes)) unit ≡ Some (get_or w.units (unit - w.first) [])
given_here op bytes w unit is from below =
    let test : writes w unit ≡ true = grind (arith, nat_tests) in
    rw (is, same_here (disk_of op), test) refl

module _ (e : Extent) (at : ℕ) (bytes : List ℕ) (room : at + 512 * e.units ≤ length bytes) where
  brought_long : length (brought e at bytes) ≡ 512 * e.units
  brought_long = length-take-le (512 * e.units) (drop at bytes) (omega (arith, room, length-drop at bytes))

  brought_count : length (brought e at bytes) / 512 ≡ e.units
  brought_count = omega (arith, brought_long)

  brought_units : length (units_of (brought e at bytes)) ≡ e.units
  brought_units = length-first_chunks (length (brought e at bytes) / 512) (brought e at bytes) ∙ brought_count

  brought_unit : (k : ℕ) → k < e.units → get_or (units_of (brought e at bytes)) k [] ≡ take 512 (drop (at + 512 * k) bytes)
  brought_unit k below =
      let rest : 512 * e.units ≡ 512 * k + (512 * e.units - 512 * k) = omega (arith, below) in
      chunk_at (length (brought e at bytes) / 512) (brought e at bytes) k (omega (arith, below, brought_count))
      ∙ ap (λ i. take 512 (drop (512 * k) (take i (drop at bytes)))) rest
      ∙ ap (λ (l : List ℕ). take 512 l) (drop-take (512 * k) (512 * e.units - 512 * k) (drop at bytes))
      ∙ take-take 512 (512 * e.units - 512 * k) (drop (512 * k) (drop at bytes)) (omega (arith, below))
      ∙ ap (λ (l : List ℕ). take 512 l) (drop-drop (512 * k) at bytes)

-- a write has no more units than its extent, from the extent's first on
pub written_within : (a : Action) (e : Extent) (bytes : List ℕ) (w : Write) → write_by a e bytes ≡ Some w
    → (w.first ≡ e.first) × (length w.units ≤ e.units)
written_within (action.Write at fua) e bytes w is =
    subst (λ (w : Write). (w.first ≡ e.first) × (length w.units ≤ e.units)) (ap (λ (o : Option Write). unwrap_or o w) is)
    (let cut = brought e at bytes in (
      refl,
      omega (arith, length-first_chunks (length cut / 512) cut, length-take (512 * e.units) (drop at bytes)),
    ))
written_within (action.WriteZeroes fua) e bytes w is =
    subst (λ (w : Write). (w.first ≡ e.first) × (length w.units ≤ e.units)) (ap (λ (o : Option Write). unwrap_or o w) is)
    (refl, omega (arith, length-replicate e.units zero_unit))
written_within _ e bytes w is = absurd (true≢false (sym (ap is_some is)))

abbrev IsIn : ℕ → ℕ → Operation → Type 0
IsIn disk unit op = (disk ≡ disk_of op) × (op.extent.first ≤ unit) × (unit < op.extent.first + op.extent.units)

given_within : (disk unit : ℕ) (o : Option Operation) (bytes given : List ℕ) → given_by (write_on disk (whole_write o bytes)) unit ≡ Some given
    → IsSomeAnd o (IsIn disk unit)
given_within disk unit None bytes given is = absurd (true≢false (sym (ap is_some is)))
given_within disk unit (Some op) bytes given is = by (write_of op bytes) refl is where
  by : (o : Option Write) → write_of op bytes ≡ o
      → given_by (write_on disk (option_map (λ w. record { disk = disk_of op; write = w }) o)) unit ≡ Some given → IsIn disk unit op
  by None wrote is = absurd (true≢false (sym (ap is_some is)))
  by (Some w) wrote is = on (disk == disk_of op) refl is where
    inside : (b : Bool) → disk ≡ disk_of op → writes w unit ≡ b → (if b then Some (get_or w.units (unit - w.first) []) else None) ≡ Some given
        → IsIn disk unit op
    inside false here test is = absurd (true≢false (sym (ap is_some is)))
    inside true here test is =
        let within = written_within op.action op.extent bytes w wrote in
        let from : w.first ≤ unit = grind (arith, nat_tests) in
        let below : unit < w.first + length w.units = grind (arith, nat_tests) in
        (here, omega (arith, from, within.0), omega (arith, below, within.0, within.1))

    on : (b : Bool) → (disk == disk_of op) ≡ b → given_by (if b then Some w else None) unit ≡ Some given → IsIn disk unit op
    on false same is = absurd (true≢false (sym (ap is_some is)))
    on true same is = inside (writes w unit) (eqb-true disk (disk_of op) same) refl is

pub gives_what_was_brought : GivesWhatWasBrought
gives_what_was_brought = record {
  writes = λ x op at unit fua asked is room from below.
      let w : Write = record { first = op.extent.first; units = units_of (brought op.extent at (bytes_asked x)) } in
      let wrote : write_of op (bytes_asked x) ≡ Some w = ap (λ a. write_by a op.extent (bytes_asked x)) is in
      ap (λ (o : Option Operation). given_by (write_on (disk_of op) (whole_write o (bytes_asked x))) unit) asked
      ∙ given_here op (bytes_asked x) w unit wrote from (omega (arith, below, brought_units op.extent at (bytes_asked x) room))
      ∙ ap Some (brought_unit op.extent at (bytes_asked x) room (unit - op.extent.first) (omega (arith, from, below)));
  zeroes = λ x op unit fua asked is from below.
      let w : Write = record { first = op.extent.first; units = replicate op.extent.units zero_unit } in
      let wrote : write_of op (bytes_asked x) ≡ Some w = ap (λ a. write_by a op.extent (bytes_asked x)) is in
      ap (λ (o : Option Operation). given_by (write_on (disk_of op) (whole_write o (bytes_asked x))) unit) asked
      ∙ given_here op (bytes_asked x) w unit wrote from (omega (arith, below, length-replicate op.extent.units zero_unit))
      ∙ ap Some (get_or-replicate op.extent.units (unit - op.extent.first) zero_unit [] (omega (arith, from, below)));
  within = λ x disk unit bytes. given_within disk unit (operation_asked x) (bytes_asked x) bytes;
}

-- each unit that is given has 512 bytes
written_units : (a : Action) (e : Extent) (bytes : List ℕ) (w : Write) → write_by a e bytes ≡ Some w → (k : ℕ) → k < length w.units
    → length (get_or w.units k []) ≡ 512
written_units (action.Write at fua) e bytes w is =
    subst (λ (w : Write). (k : ℕ) → k < length w.units → length (get_or w.units k []) ≡ 512) (ap (λ (o : Option Write). unwrap_or o w) is)
    (λ k below.
    let cut = brought e at bytes in
    let short : k < length cut / 512 = omega (arith, below, length-first_chunks (length cut / 512) cut) in
    ap length (chunk_at (length cut / 512) cut k short)
    ∙ length-take-le 512 (drop (512 * k) cut) (omega (arith, short, length-drop (512 * k) cut)))
written_units (action.WriteZeroes fua) e bytes w is =
    subst (λ (w : Write). (k : ℕ) → k < length w.units → length (get_or w.units k []) ≡ 512) (ap (λ (o : Option Write). unwrap_or o w) is)
    (λ k below.
    let short : k < e.units = omega (arith, below, length-replicate e.units zero_unit) in
    ap length (get_or-replicate e.units k zero_unit [] short) ∙ length-replicate {A = ℕ} 512 0)
written_units _ e bytes w is = absurd (true≢false (sym (ap is_some is)))

pub given_long : (disk unit : ℕ) (o : Option Operation) (bytes given : List ℕ) → given_by (write_on disk (whole_write o bytes)) unit ≡ Some given
    → IsUnit given
given_long disk unit None bytes given is = absurd (true≢false (sym (ap is_some is)))
given_long disk unit (Some op) bytes given is = by (write_of op bytes) refl is where
  by : (o : Option Write) → write_of op bytes ≡ o
      → given_by (write_on disk (option_map (λ w. record { disk = disk_of op; write = w }) o)) unit ≡ Some given → IsUnit given
  by None wrote is = absurd (true≢false (sym (ap is_some is)))
  by (Some w) wrote is = on (disk == disk_of op) is where
    inside : (b : Bool) → writes w unit ≡ b → (if b then Some (get_or w.units (unit - w.first) []) else None) ≡ Some given → IsUnit given
    inside false test is = absurd (true≢false (sym (ap is_some is)))
    inside true test is =
        let same : get_or w.units (unit - w.first) [] ≡ given = ap (λ (o : Option (List ℕ)). unwrap_or o []) is in
        let place : unit - w.first < length w.units = grind (arith, nat_tests) in
        subst IsUnit same (written_units op.action op.extent bytes w wrote (unit - w.first) place)

    on : (b : Bool) → given_by (if b then Some w else None) unit ≡ Some given → IsUnit given
    on false is = absurd (true≢false (sym (ap is_some is)))
    on true is = inside (writes w unit) refl is
