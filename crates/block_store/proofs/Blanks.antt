-- The units of pieces and of tables, where memory is there and where none is.
use Rattle.std.proofs.Common.{◌≡◌, ℕ, ◌+◌, ◌*◌, ◌/◌, ◌%◌, ◌<◌, ◌≤◌, List, [], ◌∷◌, ◌++◌, refl, sym, ◌∙◌, ap, subst, arith, length, take, drop, set, get_or, replicate, Result, Ok, Err, OnOk, OnErr, true, false, nat_lt}
use Rattle.std.proofs.lemmas.List.{get_or_default, append-nil, drop_all, length-set, length-replicate, take_at}
use Rattle.std.proofs.lemmas.List.Elements.{All-set, All-get_or}
use Rattle.std.proofs.lemmas.Nat.{div-add-mod'}
use Rattle.std.proofs.lemmas.Bool.Decides.{nat_tests}
use Rattle.std.specs.List.{All}
use Rattle.block_store.specs.Pieces.{AreUnits, AreParts, joined, blank_piece, blank_pieces, piece_units, table_pieces}
use Rattle.block_store.specs.Range.{bytes_of, units_at, overwritten}
use Rattle.block_store.specs.Unit.{IsUnit, zero_unit}
use Rattle.block_store.proofs.Overwrites.{length-overwritten}
use Rattle.block_store.proofs.Parts.{zeros_are_units, blank_piece-is, blank_table-is, range_of_zeros, bytes-replicate, zeros_over, units_after, over-joined, range-joined}

-- what is there, with its memory taken
pub taken_piece : (old new : List (List ℕ)) → length old ≡ 0 → new ≡ replicate 128 zero_unit → new ≡ piece_units old
taken_piece [] new none is = is ∙ sym blank_piece-is
taken_piece (unit ∷ units) new none is = absurd (omega (arith, none))

-- a piece that is not there has zeros
pub none_there : (items : List (List ℕ)) → length items ≡ 0 → piece_units items ≡ replicate 128 zero_unit
none_there [] none = blank_piece-is
none_there (unit ∷ units) none = absurd (omega (arith, none))

-- a piece that is there has its units
pub all_there : (items : List (List ℕ)) → 0 < length items → piece_units items ≡ items
all_there [] some = absurd (omega (arith, some))
all_there (unit ∷ units) some = refl

pub no_table_there : (items : List (List (List ℕ))) → length items ≡ 0 → joined (table_pieces items) ≡ replicate 131072 zero_unit
no_table_there [] none = blank_table-is
no_table_there (piece ∷ pieces) none = absurd (omega (arith, none))

-- where a table has no piece at such a place, it has none at all
pub no_pieces : (pieces : List (List (List ℕ))) (place : ℕ) → AreParts 1024 128 (table_pieces pieces) → place < 1024
    → false ≡ nat_lt place (length pieces) → length pieces ≡ 0
no_pieces [] place are below past = refl
no_pieces (piece ∷ pieces) place are below past = grind (arith, nat_tests)

-- where it has one, it has all
pub some_pieces : (pieces : List (List (List ℕ))) (place : ℕ) → true ≡ nat_lt place (length pieces) → 0 < length pieces
some_pieces pieces place below = grind (arith, nat_tests)

pub table_there : (items : List (List (List ℕ))) → 0 < length items → table_pieces items ≡ items
table_there [] some = absurd (omega (arith, some))
table_there (piece ∷ pieces) some = refl

-- the pieces of a table of which none is there
pub pieces_none : (count : ℕ) → count ≡ 1024 → replicate count blank_piece ≡ blank_pieces
unfolding blank_pieces
pieces_none count is = ap (λ n. replicate n blank_piece) is

-- the units of a piece that is there, after some were written over them
module _ (items new shown units : List (List ℕ)) (len at : ℕ) (view : piece_units items ≡ shown) (are : AreUnits 128 (piece_units items)) (some : 0 < length items) (is_len : len ≡ length items) (within : at + length units ≤ 128) (written : new ≡ overwritten items at units) where
  long : length items ≡ 128
  long = sym (ap length (all_there items some)) ∙ are.count

  new_long : length new ≡ length items
  new_long = ap length written ∙ length-overwritten items units at (omega (arith, within, long))

  pub put_there : piece_units (take len (new ++ drop (length new) items)) ≡ overwritten shown at units
  put_there =
      ap piece_units (take_at new (drop (length new) items) len (new_long ∙ sym is_len))
      ∙ all_there new (omega (arith, some, new_long)) ∙ written
      ∙ ap (λ us. overwritten us at units) (sym (all_there items some) ∙ view)

  pub put_are : All IsUnit units → AreUnits 128 (piece_units (take len (new ++ drop (length new) items)))
  put_are all = subst (AreUnits 128) (sym put_there) (units_after 128 shown units at (subst (AreUnits 128) view are) all within)

-- a piece whose memory was taken
pub filled_view : (items old shown : List (List ℕ)) → items ≡ piece_units old → piece_units old ≡ shown → AreUnits 128 (piece_units old)
    → (piece_units items ≡ shown) × AreUnits 128 (piece_units items) × (0 < length items)
filled_view items old shown there view are =
    let some : 0 < length items = omega (arith, ap length there, are.count) in
    let same = all_there items some ∙ there in
    (same ∙ view, subst (AreUnits 128) (sym same) are, some)

-- the same of a table
pub table_view : (items old : List (List (List ℕ))) (shown : List (List ℕ)) → items ≡ table_pieces old → joined (table_pieces old) ≡ shown
    → AreParts 1024 128 (table_pieces old) → (joined (table_pieces items) ≡ shown) × AreParts 1024 128 (table_pieces items) × (0 < length items)
table_view items old shown there view are =
    let some : 0 < length items = omega (arith, ap length there, are.count) in
    let same = table_there items some ∙ there in
    (ap joined same ∙ view, subst (AreParts 1024 128) (sym same) are, some)

-- a piece that was zeroed as a whole
pub all_zeroed : (new shown : List (List ℕ)) (at count : ℕ) → new ≡ [] → AreUnits 128 shown → at + count ≤ 128 → count ≡ 128
    → piece_units new ≡ overwritten shown at (replicate count zero_unit)
all_zeroed new shown at count none are within whole =
    let start : at ≡ 0 = omega (arith, within, whole) in
    let zeros : overwritten shown 0 (replicate 128 zero_unit) ≡ replicate 128 zero_unit =
    ap (λ n. replicate 128 zero_unit ++ drop n shown) (length-replicate 128 zero_unit)
    ∙ ap (λ rest. replicate 128 zero_unit ++ rest) (drop_all 128 shown (omega (arith, are.count)))
    ∙ append-nil (replicate 128 zero_unit) in
    ap piece_units none ∙ blank_piece-is ∙ sym zeros
    ∙ ap (λ n. overwritten shown n (replicate 128 zero_unit)) (sym start)
    ∙ ap (λ n. overwritten shown at (replicate n zero_unit)) (sym whole)

-- zeros are units
pub zeros_each : (count : ℕ) → All IsUnit (replicate count zero_unit)
zeros_each count = (zeros_are_units count).each

-- parts of which one changed
module _ (many long : ℕ) (parts : List (List (List ℕ))) (at : ℕ) (held new : List (List ℕ)) (are : AreParts many long parts) (below : at / long < many) (is_held : held ≡ get_or parts (at / long) held) where
  is_part : held ≡ get_or parts (at / long) []
  is_part = is_held ∙ get_or_default parts (at / long) held [] (omega (arith, below, are.count))

  pub held_are : AreUnits long held
  held_are = subst (AreUnits long) (sym is_part) (All-get_or (AreUnits long) parts (at / long) [] (omega (arith, below, are.count)) are.each)

  pub parts_after : AreUnits long new → AreParts many long (set parts (at / long) new)
  parts_after new_are = record {
    count = length-set parts (at / long) new ∙ are.count;
    each = All-set (AreUnits long) parts (at / long) new new_are are.each;
  }

  pub joined_after : (units : List (List ℕ)) → at % long + length units ≤ long → new ≡ overwritten held (at % long) units
      → joined (set parts (at / long) new) ≡ overwritten (joined parts) at units
  joined_after units within written =
      ap (λ part. joined (set parts (at / long) part)) (written ∙ ap (λ part. overwritten part (at % long) units) is_part)
      ∙ over-joined long parts (at / long) (at % long) units are.each (omega (arith, below, are.count)) within
      ∙ ap (λ n. overwritten (joined parts) n units) (div-add-mod' at long)

  pub joined_read : (count : ℕ) → at % long + count ≤ long → units_at held (at % long) count ≡ units_at (joined parts) at count
  joined_read count within =
      ap (λ part. units_at part (at % long) count) is_part
      ∙ sym (range-joined long parts (at / long) (at % long) count are.each (omega (arith, below, are.count)) within)
      ∙ ap (λ n. units_at (joined parts) n count) (div-add-mod' at long)

-- a table that is there, of which one piece changed
module _ (pieces : List (List (List ℕ))) (at : ℕ) (held : List (List ℕ)) (are : AreParts 1024 128 (table_pieces pieces)) (some : 0 < length pieces) (place : at < 131072) (is_held : held ≡ get_or pieces (at / 128) held) where
  pieces_are : AreParts 1024 128 pieces
  pieces_are = subst (AreParts 1024 128) (table_there pieces some) are

  is_piece : at / 128 < 1024
  is_piece = omega (arith, place)

  pub held_in : AreUnits 128 held
  held_in = held_are 1024 128 pieces at held held pieces_are is_piece is_held

  module _ (new : List (List ℕ)) where
    still_some : 0 < length (set pieces (at / 128) new)
    still_some = omega (arith, some, length-set pieces (at / 128) new)

    pub changed_are : AreUnits 128 new → AreParts 1024 128 (table_pieces (set pieces (at / 128) new))
    changed_are new_are =
        subst (AreParts 1024 128) (sym (table_there (set pieces (at / 128) new) still_some))
        (parts_after 1024 128 pieces at held new pieces_are is_piece is_held new_are)

    pub changed_is : (shown units : List (List ℕ)) → joined (table_pieces pieces) ≡ shown → at % 128 + length units ≤ 128
        → new ≡ overwritten held (at % 128) units → joined (table_pieces (set pieces (at / 128) new)) ≡ overwritten shown at units
    changed_is shown units view within written =
        ap joined (table_there (set pieces (at / 128) new) still_some)
        ∙ joined_after 1024 128 pieces at held new pieces_are is_piece is_held units within written
        ∙ ap (λ us. overwritten us at units) (ap joined (sym (table_there pieces some)) ∙ view)

-- what a write answers leaves so many units
pub answered_are : {T E : Type 0} (result : Result T E) (long at : ℕ) (held new units : List (List ℕ)) → AreUnits long held → All IsUnit units
    → at + length units ≤ long → OnOk result (new ≡ overwritten held at units) → OnErr result (new ≡ held) → AreUnits long new
answered_are (Ok _) long at held new units are all within written same = subst (AreUnits long) (sym written) (units_after long held units at are all within)
answered_are (Err _) long at held new units are all within written same = subst (AreUnits long) (sym same) are

-- what holds where a call succeeds follows from what held there
pub on_ok : {T E P Q : Type 0} (result : Result T E) → (P → Q) → OnOk result P → OnOk result Q
on_ok (Ok _) so held = so held
on_ok (Err _) so held = tt

-- a read of zeros
pub zeros_read : (many at len : ℕ) (shown : List (List ℕ)) (out : List ℕ) → shown ≡ replicate many zero_unit
    → len % 512 ≡ 0 → at + len / 512 ≤ many → out ≡ replicate len 0
    → out ≡ bytes_of (units_at shown at (len / 512))
zeros_read many at len shown out zeros whole within filled =
    let long : len ≡ len / 512 * 512 = omega (arith, whole) in
    filled ∙ ap (λ n. replicate n 0) long ∙ sym (bytes-replicate (len / 512))
    ∙ sym (ap bytes_of (ap (λ units. units_at units at (len / 512)) zeros ∙ range_of_zeros many at (len / 512) within))

-- zeros over zeros
pub zeros_stay : (many at count : ℕ) (shown : List (List ℕ)) → shown ≡ replicate many zero_unit → at + count ≤ many
    → shown ≡ overwritten shown at (replicate count zero_unit)
zeros_stay many at count shown zeros within =
    zeros ∙ sym (ap (λ units. overwritten units at (replicate count zero_unit)) zeros ∙ zeros_over many at count within)
