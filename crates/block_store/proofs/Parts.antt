-- Units in parts of one length, one part after another.
use Rattle.std.proofs.Common.{◌≡◌, ℕ, zero, suc, ◌+◌, ◌-◌, ◌*◌, ◌<◌, ◌≤◌, List, [], ◌∷◌, ◌++◌, refl, sym, ◌∙◌, ap, subst, arith, length, take, drop, set, get_or, replicate, append_assoc}
use Rattle.std.proofs.lemmas.List.{length-append, length-drop, length-replicate, take-append-le, drop-append-le, take-replicate, drop-replicate, replicate-append-replicate}
use Rattle.std.proofs.lemmas.List.Elements.{All-take, All-drop, All-append, All-replicate, All-head, All-tail}
use Rattle.std.proofs.Math.Seq.{take-append-add, drop-append-add}
use Rattle.std.specs.List.{All}
use Rattle.block_store.specs.Pieces.{AreUnits, AreParts, joined, blank_piece, blank_pieces}
use Rattle.block_store.specs.Range.{bytes_of, units_at, overwritten}
use Rattle.block_store.specs.Unit.{IsUnit, zero_unit}
use Rattle.block_store.proofs.Overwrites.{length-overwritten}

-- a range of the front of two lists
module _ (front back : List (List ℕ)) where
  pub range_in_front : (at count : ℕ) → at + count ≤ length front → units_at (front ++ back) at count ≡ units_at front at count
  range_in_front at count within =
      ap (λ rest. take count rest) (drop-append-le at front back (omega arith))
      ∙ take-append-le count (drop at front) back (omega (arith, length-drop at front))

  pub range_behind : (at count : ℕ) → units_at (front ++ back) (length front + at) count ≡ units_at back at count
  range_behind at count = ap (λ rest. take count rest) (drop-append-add front back at)

  pub over_in_front : (at : ℕ) (units : List (List ℕ)) → at + length units ≤ length front
      → overwritten (front ++ back) at units ≡ overwritten front at units ++ back
  over_in_front at units within =
      ap (λ start. start ++ units ++ drop (at + length units) (front ++ back)) (take-append-le at front back (omega arith))
      ∙ ap (λ rest. take at front ++ units ++ rest) (drop-append-le (at + length units) front back within)
      ∙ sym (append_assoc (take at front ++ units) (drop (at + length units) front) back)

  pub over_behind : (at : ℕ) (units : List (List ℕ))
      → overwritten (front ++ back) (length front + at) units ≡ front ++ overwritten back at units
  over_behind at units =
      let behind : length front + at + length units ≡ length front + (at + length units) = omega arith in
      ap (λ start. start ++ units ++ drop (length front + at + length units) (front ++ back)) (take-append-add front back at)
      ∙ ap (λ n. front ++ take at back ++ units ++ drop n (front ++ back)) behind
      ∙ ap (λ rest. front ++ take at back ++ units ++ rest) (drop-append-add front back (at + length units))
      ∙ ap (λ start. start ++ drop (at + length units) back) (append_assoc front (take at back) units)
      ∙ append_assoc front (take at back ++ units) (drop (at + length units) back)

-- so many units are as many after a write within them
pub units_after : (many : ℕ) (contents units : List (List ℕ)) (at : ℕ) → AreUnits many contents → All IsUnit units
    → at + length units ≤ many → AreUnits many (overwritten contents at units)
units_after many contents units at are all within = record {
  count = length-overwritten contents units at (omega (arith, are.count, within)) ∙ are.count;
  each =
      All-append IsUnit (take at contents ++ units) (drop (at + length units) contents)
      (All-append IsUnit (take at contents) units (All-take IsUnit at contents are.each) all)
      (All-drop IsUnit (at + length units) contents are.each);
}

module _ (long : ℕ) where
  pub length-joined : (parts : List (List (List ℕ))) → All (AreUnits long) parts → length (joined parts) ≡ length parts * long
  length-joined [] all = omega arith
  length-joined (part ∷ parts) all =
      let here = All-head (AreUnits long) part parts all in
      let rest = length-joined parts (All-tail (AreUnits long) part parts all) in
      omega (arith, length-append part (joined parts), here.count, rest)

  -- a range of one part
  pub range-joined : (parts : List (List (List ℕ))) (part at count : ℕ) → All (AreUnits long) parts → part < length parts
      → at + count ≤ long → units_at (joined parts) (part * long + at) count ≡ units_at (get_or parts part []) at count
  range-joined [] part at count all below within = absurd (omega (arith, below))
  range-joined (first ∷ parts) zero at count all below within =
      let here = All-head (AreUnits long) first parts all in
      let place : zero * long + at ≡ at = omega arith in
      ap (λ n. units_at (first ++ joined parts) n count) place
      ∙ range_in_front first (joined parts) at count (omega (arith, within, here.count))
  range-joined (first ∷ parts) (suc part) at count all below within =
      let here = All-head (AreUnits long) first parts all in
      let place : suc part * long + at ≡ length first + (part * long + at) = omega (arith, here.count) in
      ap (λ n. units_at (first ++ joined parts) n count) place
      ∙ range_behind first (joined parts) (part * long + at) count
      ∙ range-joined parts part at count (All-tail (AreUnits long) first parts all) (omega (arith, below)) within

  -- a write within one part
  pub over-joined : (parts : List (List (List ℕ))) (part at : ℕ) (units : List (List ℕ)) → All (AreUnits long) parts
      → part < length parts → at + length units ≤ long
      → joined (set parts part (overwritten (get_or parts part []) at units)) ≡ overwritten (joined parts) (part * long + at) units
  over-joined [] part at units all below within = absurd (omega (arith, below))
  over-joined (first ∷ parts) zero at units all below within =
      let here = All-head (AreUnits long) first parts all in
      let place : at ≡ zero * long + at = omega arith in
      sym (over_in_front first (joined parts) at units (omega (arith, within, here.count)))
      ∙ ap (λ n. overwritten (first ++ joined parts) n units) place
  over-joined (first ∷ parts) (suc part) at units all below within =
      let here = All-head (AreUnits long) first parts all in
      let place : length first + (part * long + at) ≡ suc part * long + at = omega (arith, here.count) in
      ap (λ rest. first ++ rest) (over-joined parts part at units (All-tail (AreUnits long) first parts all) (omega (arith, below)) within)
      ∙ sym (over_behind first (joined parts) (part * long + at) units)
      ∙ ap (λ n. overwritten (first ++ joined parts) n units) place

-- the same part again and again
pub joined-replicate : (count long : ℕ) → joined (replicate count (replicate long zero_unit)) ≡ replicate (count * long) zero_unit
joined-replicate zero long =
    let none : 0 ≡ zero * long = omega arith in
    ap (λ n. replicate n zero_unit) none
joined-replicate (suc count) long =
    let more : long + count * long ≡ suc count * long = omega arith in
    ap (λ rest. replicate long zero_unit ++ rest) (joined-replicate count long)
    ∙ replicate-append-replicate long (count * long) zero_unit
    ∙ ap (λ n. replicate n zero_unit) more

-- the bytes of zeros
pub bytes-replicate : (count : ℕ) → bytes_of (replicate count zero_unit) ≡ replicate (count * 512) 0
bytes-replicate zero = refl
bytes-replicate (suc count) =
    let more : 512 + count * 512 ≡ suc count * 512 = omega arith in
    ap (λ rest. zero_unit ++ rest) (bytes-replicate count)
    ∙ replicate-append-replicate 512 (count * 512) 0
    ∙ ap (λ n. replicate n 0) more

-- a range of zeros
pub range_of_zeros : (many at count : ℕ) → at + count ≤ many → units_at (replicate many zero_unit) at count ≡ replicate count zero_unit
range_of_zeros many at count within =
    ap (λ rest. take count rest) (drop-replicate at many zero_unit) ∙ take-replicate count (many - at) zero_unit (omega arith)

-- zeros over zeros
pub zeros_over : (many at count : ℕ) → at + count ≤ many
    → overwritten (replicate many zero_unit) at (replicate count zero_unit) ≡ replicate many zero_unit
zeros_over many at count within =
    let front = ap (λ start. start ++ replicate count zero_unit ++ drop (at + length (replicate count zero_unit)) (replicate many zero_unit)) (take-replicate at many zero_unit (omega arith)) in
    let long = ap (λ n. replicate at zero_unit ++ replicate count zero_unit ++ drop (at + n) (replicate many zero_unit)) (length-replicate count zero_unit) in
    let behind = ap (λ rest. replicate at zero_unit ++ replicate count zero_unit ++ rest) (drop-replicate (at + count) many zero_unit) in
    let start = ap (λ s. s ++ replicate (many - (at + count)) zero_unit) (replicate-append-replicate at count zero_unit) in
    let all : at + count + (many - (at + count)) ≡ many = omega arith in
    front ∙ long ∙ behind ∙ start ∙ replicate-append-replicate (at + count) (many - (at + count)) zero_unit ∙ ap (λ n. replicate n zero_unit) all

-- what was never written is zeros
pub blank_piece-is : blank_piece ≡ replicate 128 zero_unit
unfolding blank_piece
blank_piece-is = refl

pub blank_pieces-is : blank_pieces ≡ replicate 1024 (replicate 128 zero_unit)
unfolding blank_pieces
blank_pieces-is = ap (λ piece. replicate 1024 piece) blank_piece-is

pub blank_table-is : joined blank_pieces ≡ replicate 131072 zero_unit
blank_table-is = ap joined blank_pieces-is ∙ joined-replicate 1024 128

pub zeros_are_units : (many : ℕ) → AreUnits many (replicate many zero_unit)
zeros_are_units many = record { count = length-replicate many zero_unit; each = All-replicate IsUnit many zero_unit (length-replicate {A = ℕ} 512 0) }

pub blank_piece_are : AreUnits 128 blank_piece
blank_piece_are = subst (AreUnits 128) (sym blank_piece-is) (zeros_are_units 128)

pub blank_pieces_are : AreParts 1024 128 blank_pieces
blank_pieces_are = subst (AreParts 1024 128) (sym blank_pieces-is) (record {
  count = length-replicate 1024 (replicate 128 zero_unit);
  each = All-replicate (AreUnits 128) 1024 (replicate 128 zero_unit) (zeros_are_units 128);
})
