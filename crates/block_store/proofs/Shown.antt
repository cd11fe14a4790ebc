-- The units that a disk in memory has, of those of its tables; and ranges of them, part after part.
use Rattle.std.proofs.Common.{◌≡◌, ℕ, ◌+◌, ◌-◌, ◌*◌, ◌/◌, ◌%◌, ◌<◌, ◌≤◌, List, [], ◌∷◌, ◌++◌, refl, sym, ◌∙◌, ap, subst, arith, length, take, drop, set, get_or, replicate}
use Rattle.std.proofs.lemmas.List.{append-nil, drop-drop, drop-take, take-take, length-take-le, length-drop, length-replicate, take-append-drop, take_at, take_all, take-replicate, drop-replicate}
use Rattle.std.proofs.lemmas.List.Concat.{concat_is, flat_map-append}
use Rattle.std.proofs.lemmas.List.Elements.{All-replicate}
use Rattle.std.proofs.lemmas.Slice.{take-put_mid}
use Rattle.std.proofs.Math.Seq.{take-add}
use Rattle.std.specs.List.{All, flat_map}
use borrow.Rule.Slice.PartMut.{put_mid}
use Rattle.block_store.specs.Pieces.{AreUnits, AreParts, joined, blank_pieces}
use Rattle.block_store.specs.Range.{bytes_of, units_at, overwritten}
use Rattle.block_store.specs.Unit.{IsUnit, zero_unit}
use Rattle.block_store.proofs.Blanks.{held_are, joined_after, joined_read, parts_after}
use Rattle.block_store.proofs.Fronts.{next_written}
use Rattle.block_store.proofs.Overwrites.{length-overwritten, two_in_a_row}
use Rattle.block_store.proofs.Parts.{units_after, blank_table-is, joined-replicate, length-joined, over_in_front, zeros_are_units}

-- a range of a front
pub range_of_front : (contents : List (List ℕ)) (units at count : ℕ) → at + count ≤ units
    → units_at (take units contents) at count ≡ units_at contents at count
range_of_front contents units at count within =
    let rest : units ≡ at + (units - at) = omega arith in
    ap (λ n. take count (drop at (take n contents))) rest
    ∙ ap (λ us. take count us) (drop-take at (units - at) contents)
    ∙ take-take count (units - at) (drop at contents) (omega arith)

-- a write within a front
pub over_front : (contents written : List (List ℕ)) (units at : ℕ) → units ≤ length contents → at + length written ≤ units
    → take units (overwritten contents at written) ≡ overwritten (take units contents) at written
over_front contents written units at room within =
    let front = take units contents in
    let long : length front ≡ units = length-take-le units contents room in
    ap (λ us. take units (overwritten us at written)) (sym (take-append-drop units contents))
    ∙ ap (λ us. take units us) (over_in_front front (drop units contents) at written (omega (arith, within, long)))
    ∙ take_at (overwritten front at written) (drop units contents) units (length-overwritten front written at (omega (arith, within, long)) ∙ long)

-- the tables of a disk
module _ (tables : List (List (List ℕ))) (many units : ℕ) (are : AreParts many 131072 tables) (room : units ≤ many * 131072) where
  tables_long : length (joined tables) ≡ many * 131072
  tables_long = length-joined 131072 tables are.each ∙ ap (λ n. n * 131072) are.count

  pub shown_long : length (take units (joined tables)) ≡ units
  shown_long = length-take-le units (joined tables) (omega (arith, room, tables_long))

  module _ (at : ℕ) (held : List (List ℕ)) (place : at < units) (is_held : held ≡ get_or tables (at / 131072) held) where
    pub is_table : at / 131072 < many
    is_table = omega (arith, place, room)

    pub shown_read : (count : ℕ) → at % 128 + count ≤ 128 → at + count ≤ units
        → units_at held (at % 131072) count ≡ units_at (take units (joined tables)) at count
    shown_read count part within =
        joined_read many 131072 tables at held held are is_table is_held count (omega (arith, part))
        ∙ sym (range_of_front (joined tables) units at count within)

    pub tables_after : (new written : List (List ℕ)) → All IsUnit written → at % 128 + length written ≤ 128
        → new ≡ overwritten held (at % 131072) written
        → AreParts (length (set tables (at / 131072) new)) 131072 (set tables (at / 131072) new)
    tables_after new written all part is_new =
        let held_is = held_are many 131072 tables at held held are is_table is_held in
        let new_is = subst (AreUnits 131072) (sym is_new) (units_after 131072 held written (at % 131072) held_is all (omega (arith, part))) in
        let after = parts_after many 131072 tables at held new are is_table is_held new_is in
        subst (λ n. AreParts n 131072 (set tables (at / 131072) new)) (sym after.count) after

    pub shown_after : (new written : List (List ℕ)) → at % 128 + length written ≤ 128 → at + length written ≤ units
        → new ≡ overwritten held (at % 131072) written
        → take units (joined (set tables (at / 131072) new)) ≡ overwritten (take units (joined tables)) at written
    shown_after new written part within is_new =
        ap (λ us. take units us) (joined_after many 131072 tables at held new are is_table is_held written (omega (arith, part)) is_new)
        ∙ over_front (joined tables) written units at (omega (arith, room, tables_long)) within

-- the tables of a new disk
module _ (tables : List (List (List ℕ))) (many units : ℕ) (blank : tables ≡ replicate many (joined blank_pieces)) where
  all_zeros : tables ≡ replicate many (replicate 131072 zero_unit)
  all_zeros = blank ∙ ap (λ table. replicate many table) blank_table-is

  pub new_are : AreParts (length tables) 131072 tables
  new_are = record {
    count = refl;
    each =
        subst (All (AreUnits 131072)) (sym all_zeros)
        (All-replicate (AreUnits 131072) many (replicate 131072 zero_unit) (zeros_are_units 131072));
  }

  pub new_long : length tables ≡ many
  new_long = ap length blank ∙ length-replicate many (joined blank_pieces)

  pub new_shown : units ≤ many * 131072 → take units (joined tables) ≡ replicate units zero_unit
  new_shown room =
      ap (λ parts. take units (joined parts)) all_zeros ∙ ap (λ us. take units us) (joined-replicate many 131072)
      ∙ take-replicate units (many * 131072) zero_unit room

-- a range in two
pub range_in_two : (contents : List (List ℕ)) (first front back : ℕ)
    → units_at contents first (front + back) ≡ units_at contents first front ++ units_at contents (first + front) back
range_in_two contents first front back =
    take-add front back (drop first contents)
    ∙ ap (λ us. take front (drop first contents) ++ take back us) (drop-drop front first contents)

pub bytes_in_two : (front back : List (List ℕ)) → bytes_of (front ++ back) ≡ bytes_of front ++ bytes_of back
bytes_in_two front back =
    concat_is (front ++ back) ∙ flat_map-append (λ unit. unit) front back
    ∙ ap (λ bytes. bytes ++ flat_map (λ unit. unit) back) (sym (concat_is front)) ∙ ap (λ bytes. bytes_of front ++ bytes) (sym (concat_is back))

-- a range and the part behind it, read into their places
pub part_read : (contents : List (List ℕ)) (out piece : List ℕ) (first done part k : ℕ)
    → done * 512 ≤ length out → length piece ≡ part * 512 → piece ≡ bytes_of (units_at contents (first + done) part)
    → take (done * 512) out ≡ bytes_of (units_at contents first done)
    → take ((done + part) * 512) (put_mid (done * 512) k out piece) ≡ bytes_of (units_at contents first (done + part))
part_read contents out piece first done part k room long is_piece front =
    take-put_mid (done * 512) k out piece ((done + part) * 512) (omega (arith, long)) room
    ∙ ap (λ bytes. bytes ++ piece) front
    ∙ ap (λ bytes. bytes_of (units_at contents first done) ++ bytes) is_piece
    ∙ sym (bytes_in_two (units_at contents first done) (units_at contents (first + done) part))
    ∙ sym (ap bytes_of (range_in_two contents first done part))

-- a front of a range and the part behind it, written
pub part_written : (contents old new units : List (List ℕ)) (first done part : ℕ) → first + length units ≤ length contents
    → done + part ≤ length units → old ≡ overwritten contents first (take done units)
    → new ≡ overwritten old (first + done) (take part (drop done units))
    → new ≡ overwritten contents first (take (done + part) units)
part_written contents old new units first done part within more is_old is_new =
    let front = take done units in
    let piece = take part (drop done units) in
    let long : length front ≡ done = length-take-le done units (omega arith) in
    let piece_long : length piece ≡ part = length-take-le part (drop done units) (omega (arith, length-drop done units)) in
    is_new ∙ ap (λ us. overwritten us (first + done) piece) is_old
    ∙ ap (λ n. overwritten (overwritten contents first front) (first + n) piece) (sym long)
    ∙ two_in_a_row contents front piece first (omega (arith, within, more, long, piece_long))
    ∙ ap (λ us. overwritten contents first us) (sym (take-add done part units))

-- the same of zeros
pub part_zeroed : (contents old new : List (List ℕ)) (first count done part : ℕ) → first + count ≤ length contents
    → done + part ≤ count → old ≡ overwritten contents first (replicate done zero_unit)
    → new ≡ overwritten old (first + done) (replicate part zero_unit)
    → new ≡ overwritten contents first (replicate (done + part) zero_unit)
part_zeroed contents old new first count done part within more is_old is_new =
    let whole = length-replicate (done + part) zero_unit in
    let front = take-replicate done (done + part) zero_unit (omega arith) in
    let behind = ap (λ us. take part us) (drop-replicate done (done + part) zero_unit) ∙ take-replicate part (done + part - done) zero_unit (omega arith) in
    part_written contents old new (replicate (done + part) zero_unit) first done part (omega (arith, within, more, whole)) (omega (arith, whole))
    (is_old ∙ sym (ap (λ us. overwritten contents first us) front))
    (is_new ∙ sym (ap (λ us. overwritten old (first + done) us) behind))
    ∙ ap (λ us. overwritten contents first us) (take_all (done + part) (replicate (done + part) zero_unit) (omega (arith, whole)))

-- one unit, written
pub unit_written : (contents : List (List ℕ)) (unit : List ℕ) (at : ℕ) → at < length contents
    → overwritten contents at (unit ∷ []) ≡ set contents at unit
unit_written contents unit at below =
    let here : at + 0 ≡ at = omega arith in
    let nothing : overwritten contents at [] ≡ contents = ap (λ us. us ++ drop (at + 0) contents) (append-nil (take at contents)) ∙ ap (λ n. take at contents ++ drop n contents) here ∙ take-append-drop at contents in
    sym (next_written contents (unit ∷ []) unit at 0 (omega arith) (omega arith) refl)
    ∙ ap (λ n. set (overwritten contents at []) n unit) here
    ∙ ap (λ us. set us at unit) nothing
