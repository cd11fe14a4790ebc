-- The units of a disk, at first and after writes.
use Rattle.std.proofs.Common.{◌≡◌, ◌⊎◌, inl, inr, ℕ, zero, suc, ◌+◌, ◌*◌, ◌<◌, ◌≤◌, List, [], ◌∷◌, ◌++◌, sym, ◌∙◌, ap, subst, arith, length, take, drop, set, replicate, Result, Ok, Err, OnOk, OnErr}
use Rattle.std.proofs.lemmas.List.{length-take-le, length-replicate, append-nil, take-append-drop, take_all, take-replicate}
use Rattle.std.proofs.lemmas.List.Elements.{All-take, All-from_get_or}
use Rattle.std.proofs.lemmas.List.FromFn.{length-map-range_with_len, get_or-map-range_with_len}
use Rattle.std.specs.List.{All}
use Rattle.block_store.specs.Pieces.{AreUnits}
use Rattle.block_store.specs.Range.{overwritten, FrontWritten}
use Rattle.block_store.specs.Unit.{IsUnit, zero_unit}
use Rattle.block_store.proofs.Parts.{units_after}
use Rattle.block_store.proofs.Shown.{unit_written, part_zeroed}
use Rattle.file_disk.specs.Held.{unit_held, units_held}

unit_held_long : (held : ℕ → ℕ) (unit : ℕ) → IsUnit (unit_held held unit)
unfolding unit_held
unit_held_long held unit = length-map-range_with_len held (unit * 512) 512

-- what a file held is units
pub held_are : (held : ℕ → ℕ) (units : ℕ) → AreUnits units (units_held held units)
held_are held units =
    let long = length-map-range_with_len (unit_held held) 0 units in
    record {
      count = long;
      each = All-from_get_or IsUnit (units_held held units) [] (λ k within.
          subst IsUnit (sym (get_or-map-range_with_len (unit_held held) 0 units k k [] (omega (arith, long, within)) (omega arith))) (unit_held_long held k));
    }

-- a write of no unit leaves all as it was
pub none_written : (contents : List (List ℕ)) (first : ℕ) → overwritten contents first [] ≡ contents
none_written contents first =
    let here : first + 0 ≡ first = omega arith in
    ap (λ us. us ++ drop (first + 0) contents) (append-nil (take first contents))
    ∙ ap (λ n. take first contents ++ drop n contents) here ∙ take-append-drop first contents

-- where nothing was written, an empty front was
pub front_of_none : (contents units new : List (List ℕ)) (first : ℕ) → new ≡ contents → FrontWritten contents first units new
front_of_none contents units new first same =
    record { count = 0; within = omega arith; holds = same ∙ sym (none_written contents first) }

-- what a write answers leaves so many units
pub written_are : {T E : Type 0} (result : Result T E) (many first : ℕ) (contents units new : List (List ℕ)) → AreUnits many contents → All IsUnit units
    → first + length units ≤ many → OnOk result (new ≡ overwritten contents first units) → OnErr result (FrontWritten contents first units new) → AreUnits many new
written_are (Ok _) many first contents units new are all within written torn =
    subst (AreUnits many) (sym written) (units_after many contents units first are all within)
written_are (Err _) many first contents units new are all within written torn =
    let long : length (take torn.count units) ≡ torn.count = length-take-le torn.count units torn.within in
    subst (AreUnits many) (sym torn.holds)
    (units_after many contents (take torn.count units) first are (All-take IsUnit torn.count units all) (omega (arith, within, torn.within, long)))

-- a front of one unit is none or all of it
module _ (contents new : List (List ℕ)) (unit : List ℕ) (at : ℕ) (below : at < length contents) where
  one_counted : (count : ℕ) → new ≡ overwritten contents at (take count (unit ∷ [])) → (new ≡ contents) ⊎ (new ≡ set contents at unit)
  one_counted zero holds = inl (holds ∙ none_written contents at)
  one_counted (suc more) holds =
      inr (holds ∙ ap (overwritten contents at) (take_all (suc more) (unit ∷ []) (omega arith)) ∙ unit_written contents unit at below)

  pub one_torn : FrontWritten contents at (unit ∷ []) new → (new ≡ contents) ⊎ (new ≡ set contents at unit)
  one_torn torn = one_counted torn.count torn.holds

-- what is told of an error follows from what was told of it
pub on_err : {T E P Q : Type 0} (result : Result T E) → (P → Q) → OnErr result P → OnErr result Q
on_err (Ok _) so held = tt
on_err (Err _) so held = so held

-- zeros behind those that were written
module _ (contents old : List (List ℕ)) (first count done part : ℕ) (within : first + count ≤ length contents) (few : done + part ≤ count) (front : old ≡ overwritten contents first (replicate done zero_unit)) where
  pub next_zeroed : (new : List (List ℕ)) → new ≡ overwritten old (first + done) (replicate part zero_unit)
      → new ≡ overwritten contents first (replicate (done + part) zero_unit)
  next_zeroed new written = part_zeroed contents old new first count done part within few front written

  pub next_zero_torn : (new : List (List ℕ)) → FrontWritten old (first + done) (replicate part zero_unit) new
      → FrontWritten contents first (replicate count zero_unit) new
  next_zero_torn new torn =
      let fewer : torn.count ≤ part = omega (arith, torn.within, length-replicate part zero_unit) in
      record {
        count = done + torn.count;
        within = omega (arith, fewer, length-replicate count zero_unit);
        holds =
            part_zeroed contents old new first count done torn.count within (omega (arith, fewer)) front
            (torn.holds ∙ ap (overwritten old (first + done)) (take-replicate torn.count part zero_unit fewer))
            ∙ ap (overwritten contents first) (sym (take-replicate (done + torn.count) count zero_unit (omega (arith, fewer))));
      }
