-- What a power cut may leave of the disks, and what lasts through it.
use Rattle.std.proofs.Common.{◌≡◌, ◌⊎◌, inl, inr, ℕ, zero, suc, ◌+◌, ◌-◌, ◌*◌, ◌<◌, ◌≤◌, Bool, true, false, true≢false, ◌||◌, List, [], ◌∷◌, ◌++◌, Option, Some, None, IsSomeAnd, All, Contains, refl, sym, ◌∙◌, ap, subst, arith, length, take, drop, get_or, slice_index_or, is_some, option_map, if◌then◌else◌}
use Rattle.std.specs.Prelude.{unwrap_or}
use Rattle.std.proofs.lemmas.List.Elements.{Contains-append_cases, Contains-append_right}
use Rattle.block_store.specs.Range.{bytes_of, units_at}
use Rattle.block_store.specs.Unit.{IsUnit}
use Rattle.block_store.specs.Write.{Write}
use Rattle.io_queue.specs.declared.operation.Extent.{Extent}
use Rattle.io_queue.specs.Act.{is_fault}
use Rattle.io_queue.specs.Execution.{new_of, write_on}
use Rattle.io_queue.specs.Operation.{disk_of}
use Rattle.target_history.specs.Event.{Event, disk_outcome_in, front_in}
use Rattle.target_history.specs.History.{Opening, blocks_of, happened}
use Rattle.target_history.specs.Lasting.{LastingWritesLast, LeftWasWritten, MayBeLeft, ReadsFindWhatLasts, SyncedUnitsStay, UnsyncedMayBeLost, UntouchedUnitsStay, WhatStandsMayBeLeft, given_by, given_to, gives, has_synced, may_be_left, syncs, unit_at, units_in, whole_write, with_given}
use Rattle.target_history.specs.Occurrence.{Occurrence, acts, bytes_asked, decision_of, operation_asked, stepping_tags}
use Rattle.target_history.proofs.Blocks.{blocks_step}
use Rattle.target_history.proofs.Completing.{completed_reads_find_what_was_written}
use Rattle.target_history.proofs.Given.{act_is, after_written, front_of, given_front, given_long, given_whole, held_at, still_there, unit_bytes}
use Rattle.target_history.proofs.Sizes.{sizes_stay}
use Rattle.target_history.proofs.Syncing.{done_is}
use Rattle.target_history.proofs.Tests.{neither}

-- ---- an event, and a unit

module _ (disks : Opening) (disk unit : ℕ) (there : unit < length (units_in disks disk)) where
  there_in : (happened : List Occurrence) → unit < length (blocks_of disks happened disk)
  there_in [] = there
  there_in (x ∷ before) =
      subst (λ (c : List (List ℕ)). unit < length c) (sym (blocks_step disks x before disk))
      (still_there (write_on disk (acts x)) (blocks_of disks before disk) unit (there_in before))

  -- what the unit has after all that happened
  abbrev stands_at : List Occurrence → List ℕ
  stands_at happened = unit_at (blocks_of disks happened disk) unit

  abbrev asked : Occurrence → Option Write
  asked x = write_on disk (whole_write (operation_asked x) (bytes_asked x))

  unit_step : (x : Occurrence) (before : List Occurrence)
      → stands_at (x ∷ before) ≡ unwrap_or (given_by (option_map (new_of (disk_outcome_in x.event)) (asked x)) unit) (stands_at before)
  unit_step x before =
      let acted : write_on disk (acts x) ≡ option_map (new_of (disk_outcome_in x.event)) (asked x) =
      ap (write_on disk) (act_is (decision_of x) (stepping_tags x.event x.parts) (front_in x.event) (disk_outcome_in x.event))
      ∙ front_of disk (operation_asked x) (bytes_asked x) (disk_outcome_in x.event) in
      ap (λ (c : List (List ℕ)). unit_at c unit) (blocks_step disks x before disk)
      ∙ after_written (write_on disk (acts x)) (blocks_of disks before disk) unit (there_in before)
      ∙ ap (λ (o : Option Write). unwrap_or (given_by o unit) (stands_at before)) acted

  -- it is as before, or has what was to be written to it
  old_or_given : (x : Occurrence) (before : List Occurrence)
      → (stands_at (x ∷ before) ≡ stands_at before) ⊎ (gives x disk unit ≡ Some (stands_at (x ∷ before)))
  old_or_given x before = by (given_front (disk_outcome_in x.event) (asked x) unit) where
    step : (o : Option (List ℕ)) → given_by (option_map (new_of (disk_outcome_in x.event)) (asked x)) unit ≡ o
        → stands_at (x ∷ before) ≡ unwrap_or o (stands_at before)
    step o is = unit_step x before ∙ ap (λ (o : Option (List ℕ)). unwrap_or o (stands_at before)) is

    whole : (o : Option (List ℕ)) → gives x disk unit ≡ o → stands_at (x ∷ before) ≡ unwrap_or o (stands_at before)
        → (stands_at (x ∷ before) ≡ stands_at before) ⊎ (gives x disk unit ≡ Some (stands_at (x ∷ before)))
    whole None gave is = inl is
    whole (Some bytes) gave is = inr (gave ∙ ap Some (sym is))

    by : (given_by (option_map (new_of (disk_outcome_in x.event)) (asked x)) unit ≡ None) ⊎ (given_by (option_map (new_of (disk_outcome_in x.event)) (asked x)) unit ≡ gives x disk unit)
        → (stands_at (x ∷ before) ≡ stands_at before) ⊎ (gives x disk unit ≡ Some (stands_at (x ∷ before)))
    by (inl none) = inl (step None none)
    by (inr same) = whole (gives x disk unit) refl (step (gives x disk unit) same)

  old_where_none : (x : Occurrence) (before : List Occurrence) → gives x disk unit ≡ None → stands_at (x ∷ before) ≡ stands_at before
  old_where_none x before none = by (old_or_given x before) where
    by : (stands_at (x ∷ before) ≡ stands_at before) ⊎ (gives x disk unit ≡ Some (stands_at (x ∷ before)))
        → stands_at (x ∷ before) ≡ stands_at before
    by (inl old) = old
    by (inr given) = absurd (true≢false (ap is_some (sym given ∙ none)))

  given_where_done : (x : Occurrence) (before : List Occurrence) (bytes : List ℕ) → gives x disk unit ≡ Some bytes
      → is_fault (disk_outcome_in x.event) ≡ false → stands_at (x ∷ before) ≡ bytes
  given_where_done x before bytes given done =
      unit_step x before
      ∙ ap (λ (o : Option (List ℕ)). unwrap_or o (stands_at before)) (given_whole (disk_outcome_in x.event) (asked x) unit done ∙ given)

-- ---- sets of bytes

first_is : (bytes : List ℕ) (rest : List (List ℕ)) → Contains (bytes ∷ rest) bytes
first_is bytes rest = (0, omega arith, refl)

none_in : (bytes : List ℕ) → Contains [] bytes → ⊥
none_in bytes there = omega (arith, there.1)

only_one : (here bytes : List ℕ) → Contains (here ∷ []) bytes → bytes ≡ here
only_one here bytes there = by there.0 there.1 there.2 where
  by : (k : ℕ) → k < 1 → slice_index_or (here ∷ []) k bytes ≡ bytes → bytes ≡ here
  by zero below is = sym is
  by (suc k) below is = absurd (omega (arith, below))

with_it : (o : Option (List ℕ)) (rest : List (List ℕ)) (bytes : List ℕ) → o ≡ Some bytes → Contains (with_given o rest) bytes
with_it o rest bytes is = subst (λ (o : Option (List ℕ)). Contains (with_given o rest) bytes) (sym is) (first_is bytes rest)

with_rest : (o : Option (List ℕ)) (rest : List (List ℕ)) (bytes : List ℕ) → Contains rest bytes → Contains (with_given o rest) bytes
with_rest None rest bytes there = there
with_rest (Some here) rest bytes there = Contains-append_right (here ∷ []) rest bytes there

it_or_rest : (o : Option (List ℕ)) (rest : List (List ℕ)) (bytes : List ℕ) → Contains (with_given o rest) bytes
    → (o ≡ Some bytes) ⊎ Contains rest bytes
it_or_rest None rest bytes there = inr there
it_or_rest (Some here) rest bytes there = by (Contains-append_cases (here ∷ []) rest bytes there) where
  by : Contains (here ∷ []) bytes ⊎ Contains rest bytes → (Some here ≡ Some bytes) ⊎ Contains rest bytes
  by (inl one) = inl (ap Some (sym (only_one here bytes one)))
  by (inr other) = inr other

no_more : (o : Option (List ℕ)) (rest : List (List ℕ)) → with_given o rest ≡ [] → (o ≡ None) × (rest ≡ [])
no_more None rest none = (refl, none)
no_more (Some here) rest none = cc

-- ---- what may be left of a unit

module _ (disks : Opening) (disk unit : ℕ) (there : unit < length (units_in disks disk)) where
  -- what stands may be left
  stands : (happened : List Occurrence) → Contains (may_be_left disks happened disk unit) (unit_at (blocks_of disks happened disk) unit)
  stands [] = first_is _ []
  stands (x ∷ before) = by (syncs x disk) (stands before) where
    by : (b : Bool) → Contains (may_be_left disks before disk unit) (unit_at (blocks_of disks before disk) unit)
        → Contains (if b then unit_at (blocks_of disks (x ∷ before) disk) unit ∷ [] else with_given (gives x disk unit) (may_be_left disks before disk unit)) (unit_at (blocks_of disks (x ∷ before) disk) unit)
    by true stood = first_is _ []
    by false stood = elim (old_or_given disks disk unit there x before) [
      | inl old ↦
          with_rest (gives x disk unit) (may_be_left disks before disk unit) _
          (subst (λ (v : List ℕ). Contains (may_be_left disks before disk unit) v) (sym old) stood)
      | inr given ↦ with_it (gives x disk unit) (may_be_left disks before disk unit) _ given
    ]

  -- it was there at the opening, or was to be written
  opened_or_given : (happened : List Occurrence) (bytes : List ℕ) → Contains (may_be_left disks happened disk unit) bytes
      → (bytes ≡ unit_at (units_in disks disk) unit) ⊎ Contains (given_to happened disk unit) bytes
  opened_or_given [] bytes left = inl (only_one _ bytes left)
  opened_or_given (x ∷ before) bytes left = by (syncs x disk) (λ bytes left. opened_or_given before bytes left) left where
    more : (bytes : List ℕ) → (bytes ≡ unit_at (units_in disks disk) unit) ⊎ Contains (given_to before disk unit) bytes
        → (bytes ≡ unit_at (units_in disks disk) unit) ⊎ Contains (given_to (x ∷ before) disk unit) bytes
    more bytes (inl opened) = inl opened
    more bytes (inr given) = inr (with_rest (gives x disk unit) (given_to before disk unit) bytes given)

    by : (b : Bool)
        → ((bytes : List ℕ) → Contains (may_be_left disks before disk unit) bytes → (bytes ≡ unit_at (units_in disks disk) unit) ⊎ Contains (given_to before disk unit) bytes)
        → Contains (if b then unit_at (blocks_of disks (x ∷ before) disk) unit ∷ [] else with_given (gives x disk unit) (may_be_left disks before disk unit)) bytes
        → (bytes ≡ unit_at (units_in disks disk) unit) ⊎ Contains (given_to (x ∷ before) disk unit) bytes
    by true earlier left =
        let is : bytes ≡ unit_at (blocks_of disks (x ∷ before) disk) unit = only_one _ bytes left in
        elim (old_or_given disks disk unit there x before) [
          | inl old ↦ more bytes (earlier bytes (subst (λ (v : List ℕ). Contains (may_be_left disks before disk unit) v) (sym (is ∙ old)) (stands before)))
          | inr given ↦ inr (with_it (gives x disk unit) (given_to before disk unit) bytes (given ∙ ap Some (sym is)))
        ]
    by false earlier left = elim (it_or_rest (gives x disk unit) (may_be_left disks before disk unit) bytes left) [
      | inl given ↦ inr (with_it (gives x disk unit) (given_to before disk unit) bytes given)
      | inr rest ↦ more bytes (earlier bytes rest)
    ]

  module _ (older : List Occurrence) (x : Occurrence) (written : List ℕ) (given : gives x disk unit ≡ Some written) (done : is_fault (disk_outcome_in x.event) ≡ false) where
    -- it stands until another is to be written there
    still_stands : (newer : List Occurrence) → given_to newer disk unit ≡ []
        → unit_at (blocks_of disks (newer ++ x ∷ older) disk) unit ≡ written
    still_stands [] latest = given_where_done disks disk unit there x older written given done
    still_stands (y ∷ newer) latest =
        let none = no_more (gives y disk unit) (given_to newer disk unit) latest in
        old_where_none disks disk unit there y (newer ++ x ∷ older) none.0 ∙ still_stands newer none.1

    -- where it was synced nothing else may be left
    alone : (newer : List Occurrence) (bytes : List ℕ) → has_synced (newer ++ x ∷ []) disk ≡ true → given_to newer disk unit ≡ []
        → Contains (may_be_left disks (newer ++ x ∷ older) disk unit) bytes → bytes ≡ written
    alone [] bytes synced latest left = by (syncs x disk) synced left where
      by : (b : Bool) → (b || false) ≡ true → Contains (if b then unit_at (blocks_of disks (x ∷ older) disk) unit ∷ [] else with_given (gives x disk unit) (may_be_left disks older disk unit)) bytes
          → bytes ≡ written
      by true synced left = only_one _ bytes left ∙ still_stands [] refl
      by false synced left = absurd (true≢false (sym synced))
    alone (y ∷ newer) bytes synced latest left = by (syncs y disk) synced (λ earlier rest. alone newer bytes earlier none.1 rest) left where
      none : (gives y disk unit ≡ None) × (given_to newer disk unit ≡ [])
      none = no_more (gives y disk unit) (given_to newer disk unit) latest

      by : (b : Bool) → (b || has_synced (newer ++ x ∷ []) disk) ≡ true
          → (has_synced (newer ++ x ∷ []) disk ≡ true → Contains (may_be_left disks (newer ++ x ∷ older) disk unit) bytes → bytes ≡ written)
          → Contains (if b then unit_at (blocks_of disks (y ∷ newer ++ x ∷ older) disk) unit ∷ [] else with_given (gives y disk unit) (may_be_left disks (newer ++ x ∷ older) disk unit)) bytes
          → bytes ≡ written
      by true synced earlier left = only_one _ bytes left ∙ still_stands (y ∷ newer) latest
      by false synced earlier left = elim (it_or_rest (gives y disk unit) (may_be_left disks (newer ++ x ∷ older) disk unit) bytes left) [
        | inl other ↦ absurd (true≢false (ap is_some (sym other ∙ none.0)))
        | inr rest ↦ earlier synced rest
      ]

  module _ (older : List Occurrence) (x : Occurrence) (synced : syncs x disk ≡ true) where
    -- what a sync found stands until another is to be written there
    found_stands : (newer : List Occurrence) → given_to newer disk unit ≡ []
        → unit_at (blocks_of disks (newer ++ x ∷ older) disk) unit ≡ unit_at (blocks_of disks (x ∷ older) disk) unit
    found_stands [] latest = refl
    found_stands (y ∷ newer) latest =
        let none = no_more (gives y disk unit) (given_to newer disk unit) latest in
        old_where_none disks disk unit there y (newer ++ x ∷ older) none.0 ∙ found_stands newer none.1

    -- and nothing else may be left
    found_alone : (newer : List Occurrence) (bytes : List ℕ) → given_to newer disk unit ≡ []
        → Contains (may_be_left disks (newer ++ x ∷ older) disk unit) bytes → bytes ≡ unit_at (blocks_of disks (x ∷ older) disk) unit
    found_alone [] bytes latest left = by (syncs x disk) synced left where
      by : (b : Bool) → b ≡ true
          → Contains (if b then unit_at (blocks_of disks (x ∷ older) disk) unit ∷ [] else with_given (gives x disk unit) (may_be_left disks older disk unit)) bytes
          → bytes ≡ unit_at (blocks_of disks (x ∷ older) disk) unit
      by true is left = only_one _ bytes left
      by false is left = absurd (true≢false (sym is))
    found_alone (y ∷ newer) bytes latest left = by (syncs y disk) (λ rest. found_alone newer bytes none.1 rest) left where
      none : (gives y disk unit ≡ None) × (given_to newer disk unit ≡ [])
      none = no_more (gives y disk unit) (given_to newer disk unit) latest

      by : (b : Bool)
          → (Contains (may_be_left disks (newer ++ x ∷ older) disk unit) bytes → bytes ≡ unit_at (blocks_of disks (x ∷ older) disk) unit)
          → Contains (if b then unit_at (blocks_of disks (y ∷ newer ++ x ∷ older) disk) unit ∷ [] else with_given (gives y disk unit) (may_be_left disks (newer ++ x ∷ older) disk unit)) bytes
          → bytes ≡ unit_at (blocks_of disks (x ∷ older) disk) unit
      by true earlier left = only_one _ bytes left ∙ found_stands (y ∷ newer) latest
      by false earlier left = elim (it_or_rest (gives y disk unit) (may_be_left disks (newer ++ x ∷ older) disk unit) bytes left) [
        | inl other ↦ absurd (true≢false (ap is_some (sym other ∙ none.0)))
        | inr rest ↦ earlier rest
      ]

-- ---- the laws

pub lasting_writes_last : LastingWritesLast
lasting_writes_last = record {
  last = λ disks left newer older x disk unit bytes lasting there may.
      alone disks disk unit there older x bytes lasting.given (done_is x lasting.succeeded) newer
      (unit_at (units_in left disk) unit) lasting.synced lasting.latest (may.units disk unit there);
}

pub synced_units_stay : SyncedUnitsStay
synced_units_stay = record {
  stay = λ disks left newer older x disk unit synced latest there may.
      found_alone disks disk unit there older x synced newer (unit_at (units_in left disk) unit) latest (may.units disk unit there);
}

opened_where_none : (disks : Opening) (happened : List Occurrence) (disk unit : ℕ) (bytes : List ℕ) → unit < length (units_in disks disk)
    → given_to happened disk unit ≡ [] → Contains (may_be_left disks happened disk unit) bytes → bytes ≡ unit_at (units_in disks disk) unit
opened_where_none disks happened disk unit bytes there none left = elim (opened_or_given disks disk unit there happened bytes left) [
  | inl opened ↦ opened
  | inr given ↦ absurd (none_in bytes (subst (λ (l : List (List ℕ)). Contains l bytes) none given))
]

pub untouched_units_stay : UntouchedUnitsStay
untouched_units_stay = record {
  stay = λ disks left happened disk unit none there may.
      opened_where_none disks happened disk unit (unit_at (units_in left disk) unit) there none (may.units disk unit there);
}

pub left_was_written : LeftWasWritten
left_was_written = record {
  written = λ disks left happened disk unit there may.
      opened_or_given disks disk unit there happened (unit_at (units_in left disk) unit) (may.units disk unit there);
}

pub what_stands_may_be_left : WhatStandsMayBeLeft
what_stands_may_be_left = record {
  unit = λ disks happened disk unit there. stands disks disk unit there happened;
  disks = λ disks now events are count same. record {
    count = count;
    sizes = λ disk. ap (λ (c : List (List ℕ)). length c) (same disk) ∙ sizes_stay disks events disk are;
    units = λ disk unit there.
        subst (λ (c : List (List ℕ)). Contains (may_be_left disks (happened disks events) disk unit) (unit_at c unit)) (sym (same disk))
        (stands disks disk unit there (happened disks events));
  };
}

module _ (disks : Opening) (older : List Occurrence) (disk unit : ℕ) (bytes : List ℕ) where
  before_may : (newer : List Occurrence) → has_synced newer disk ≡ false
      → Contains (may_be_left disks older disk unit) bytes → Contains (may_be_left disks (newer ++ older) disk unit) bytes
  before_may [] unsynced left = left
  before_may (x ∷ newer) unsynced left =
      let none = neither (syncs x disk) (has_synced newer disk) unsynced in
      rw none.0 (with_rest (gives x disk unit) (may_be_left disks (newer ++ older) disk unit) bytes (before_may newer none.1 left))

  since_may : (newer : List Occurrence) → has_synced newer disk ≡ false
      → Contains (given_to newer disk unit) bytes → Contains (may_be_left disks (newer ++ older) disk unit) bytes
  since_may [] unsynced given = absurd (none_in bytes given)
  since_may (x ∷ newer) unsynced given =
      let none = neither (syncs x disk) (has_synced newer disk) unsynced in
      rw none.0 (elim (it_or_rest (gives x disk unit) (given_to newer disk unit) bytes given) [
        | inl here ↦ with_it (gives x disk unit) (may_be_left disks (newer ++ older) disk unit) bytes here
        | inr other ↦ with_rest (gives x disk unit) (may_be_left disks (newer ++ older) disk unit) bytes (since_may newer none.1 other)
      ])

pub unsynced_may_be_lost : UnsyncedMayBeLost
unsynced_may_be_lost = record {
  before = λ disks newer older disk unit bytes. before_may disks older disk unit bytes newer;
  since = λ disks newer older disk unit bytes. since_may disks older disk unit bytes newer;
}

all_given_long : (happened : List Occurrence) (disk unit : ℕ) (bytes : List ℕ) → Contains (given_to happened disk unit) bytes → IsUnit bytes
all_given_long [] disk unit bytes given = absurd (none_in bytes given)
all_given_long (x ∷ before) disk unit bytes given = elim (it_or_rest (gives x disk unit) (given_to before disk unit) bytes given) [
  | inl here ↦ given_long disk unit (operation_asked x) (bytes_asked x) bytes here
  | inr rest ↦ all_given_long before disk unit bytes rest
]

left_long : (disks : Opening) (happened : List Occurrence) (disk unit : ℕ) (bytes : List ℕ) → unit < length (units_in disks disk)
    → IsUnit (unit_at (units_in disks disk) unit) → Contains (may_be_left disks happened disk unit) bytes → IsUnit bytes
left_long disks happened disk unit bytes there opened left = elim (opened_or_given disks disk unit there happened bytes left) [
  | inl same ↦ subst IsUnit (sym same) opened
  | inr given ↦ all_given_long happened disk unit bytes given
]

-- ---- two runs

module _ (disks left : Opening) (first : List Occurrence) (events : List Event) (disk : ℕ) (whole : All IsUnit (units_in disks disk)) (may : MayBeLeft disks first left) where
  then_there : (unit : ℕ) → unit < length (units_in disks disk) → unit < length (units_in left disk)
  then_there unit there = subst (λ n. unit < n) (sym (may.sizes disk)) there

  then_long : (unit : ℕ) → unit < length (units_in disks disk) → IsUnit (unit_at (blocks_of left (happened left events) disk) unit)
  then_long unit there =
      left_long left (happened left events) disk unit _ (then_there unit there)
      (left_long disks first disk unit _ there (whole unit [] there) (may.units disk unit there))
      (stands left disk unit (then_there unit there) (happened left events))

  then_read : (e : Extent) (unit : ℕ) (bytes : List ℕ) → e.first ≤ unit → unit < e.first + e.units → unit < length (units_in disks disk)
      → unit_at (units_in left disk) unit ≡ bytes → given_to (happened left events) disk unit ≡ []
      → take 512 (drop (512 * (unit - e.first)) (bytes_of (units_at (blocks_of left (happened left events) disk) e.first e.units))) ≡ bytes
  then_read e unit bytes from below there last untouched =
      let contents = blocks_of left (happened left events) disk in
      let place : e.first + (unit - e.first) ≡ unit = omega (arith, from) in
      unit_bytes (units_at contents e.first e.units) (unit - e.first)
      (λ j before. ap length (held_at contents e.first e.units j (omega (arith, before, from, below)))
      ∙ then_long (e.first + j) (omega (arith, before, from, there)))
      ∙ held_at contents e.first e.units (unit - e.first) (omega (arith, from, below)) ∙ ap (λ n. get_or contents n []) place
      ∙ opened_where_none left (happened left events) disk unit _ (then_there unit there) untouched
      (stands left disk unit (then_there unit there) (happened left events))
      ∙ last

pub reads_find_what_lasts : ReadsFindWhatLasts
reads_find_what_lasts = record {
  reads = λ disks left newer older x bytes events event op unit whole may asked reads none succeeds from below there lasting untouched.
      let read = completed_reads_find_what_was_written.reads left (happened left events) event op asked reads none succeeds in
      let last = lasting_writes_last.last disks left newer older x (disk_of op) unit bytes lasting there may in
      subst (λ (o : Option (List ℕ)). IsSomeAnd o (λ found. take 512 (drop (512 * (unit - op.extent.first)) found) ≡ bytes)) (sym read)
      (then_read disks left (newer ++ x ∷ older) events (disk_of op) (whole (disk_of op)) may op.extent unit bytes from below there last untouched);
}
