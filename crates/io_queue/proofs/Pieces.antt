-- The pieces of what a Read returns: each has the bytes of its units, and they are appended one after another.
use Rattle.std.proofs.Common.{◌≡◌, ◌≤◌, ℕ, zero, suc, ◌+◌, ◌-◌, ◌*◌, ◌/◌, ◌%◌, List, [], ◌∷◌, ◌++◌, length, replicate, take, drop, refl, sym, ap, ◌∙◌, arith}
use Rattle.std.specs.List.{All, AllByRecursion, slice_range}
use Rattle.std.proofs.lemmas.List.{drop-drop, drop_at, length-append, length-drop, length-replicate, length-take-le, take_at}
use Rattle.std.proofs.lemmas.List.Elements.{All-drop, All-take, recursion_from_All}
use Rattle.std.proofs.Math.Seq.{take-add}
use borrow.Rule.Slice.PartMut.{put_mid}
use Rattle.block_store.specs.Range.{bytes_of, units_at}
use Rattle.block_store.specs.Unit.{IsUnit}
use Rattle.block_store.proofs.Cuts.{length-bytes_of}
use Rattle.data_transfer.specs.declared.piece.Piece.{Piece}
use Rattle.data_transfer.specs.Pieces.{pieces}
use Rattle.block_store.specs.Stored.{Stored}
use Rattle.nvt_fields.proofs.Windows.{put_at_end}
use Rattle.nvt_fields.specs.declared.pdu_type.PduType.TheVariants as types
use Rattle.pdu_codec.specs.C2hData.{data_fields, data_offset, flags_of, with_end}
use Rattle.pdu_codec.specs.CommonHeader.{common_header}
use Rattle.io_queue.specs.declared.operation.Extent.{Extent}
use Rattle.io_queue.specs.declared.reply.DataFormat.{DataFormat}
use Rattle.io_queue.specs.Act.{extent_bytes}
use Rattle.io_queue.specs.Reply.{part_of}
use Rattle.io_queue.proofs.Sending.{Sending, begins_sending, next_is}

-- ---- the bytes of a piece

take_front : {A : Type 0} (n count : ℕ) (l : List A) → n ≤ count → take n (take count l) ≡ take n l
take_front zero count l few = refl
take_front (suc n) zero l few = absurd (omega (arith, few))
take_front (suc n) (suc count) [] few = refl
take_front (suc n) (suc count) (x ∷ l) few = ap (λ r. x ∷ r) (take_front n count l (omega (arith, few)))

take_inside : {A : Type 0} (n i count : ℕ) (l : List A) → i + n ≤ count → take n (drop i (take count l)) ≡ take n (drop i l)
take_inside n zero count l few = take_front n count l (omega (arith, few))
take_inside n (suc i) zero l few = absurd (omega (arith, few))
take_inside n (suc i) (suc count) [] few = refl
take_inside n (suc i) (suc count) (x ∷ l) few = take_inside n i count l (omega (arith, few))

drop_none : (n : ℕ) (l : List ℕ) → l ≡ [] → drop n l ≡ []
drop_none zero l none = none
drop_none (suc n) [] none = refl
drop_none (suc n) (x ∷ l) none = cc

take_none : (n : ℕ) (l : List ℕ) → l ≡ [] → take n l ≡ []
take_none zero l none = refl
take_none (suc n) [] none = refl
take_none (suc n) (x ∷ l) none = cc

drop_units : (i : ℕ) (units : List (List ℕ)) → AllByRecursion IsUnit units → drop (i * 512) (bytes_of units) ≡ bytes_of (drop i units)
drop_units zero units all = refl
drop_units (suc i) [] all = drop_none (suc i * 512) [] refl
drop_units (suc i) (unit ∷ units) (is_unit, all) =
    let more : suc i * 512 ≡ 512 + i * 512 = omega arith in
    ap (λ n. drop n (unit ++ bytes_of units)) more ∙ sym (drop-drop (i * 512) 512 (unit ++ bytes_of units))
    ∙ ap (drop (i * 512)) (drop_at unit (bytes_of units) 512 is_unit) ∙ drop_units i units all

take_units : (n : ℕ) (units : List (List ℕ)) → AllByRecursion IsUnit units → take (n * 512) (bytes_of units) ≡ bytes_of (take n units)
take_units zero units all = refl
take_units (suc n) [] all = take_none (suc n * 512) [] refl
take_units (suc n) (unit ∷ units) (is_unit, all) =
    let rest = bytes_of units in
    let more : suc n * 512 ≡ 512 + n * 512 = omega arith in
    ap (λ k. take k (unit ++ rest)) more ∙ take-add 512 (n * 512) (unit ++ rest)
    ∙ ap (λ front. front ++ take (n * 512) (drop 512 (unit ++ rest))) (take_at unit rest 512 is_unit)
    ∙ ap (λ back. unit ++ take (n * 512) back) (drop_at unit rest 512 is_unit) ∙ ap (λ back. unit ++ back) (take_units n units all)

range_units : (contents : List (List ℕ)) (first count : ℕ) → All IsUnit contents → AllByRecursion IsUnit (units_at contents first count)
range_units contents first count all =
    recursion_from_All IsUnit (units_at contents first count) (All-take IsUnit count _ (All-drop IsUnit first contents all))

pub piece_bytes : (contents : List (List ℕ)) (first count i n : ℕ) → All IsUnit contents → i + n ≤ count
    → bytes_of (units_at contents (first + i) n) ≡ slice_range (bytes_of (units_at contents first count)) (i * 512) (i * 512 + n * 512)
piece_bytes contents first count i n all within =
    let range = units_at contents first count in
    let each = range_units contents first count all in
    let long : i * 512 + n * 512 - i * 512 ≡ n * 512 = omega arith in
    let behind : AllByRecursion IsUnit (drop i range) = recursion_from_All IsUnit (drop i range) (All-drop IsUnit i range (All-take IsUnit count _ (All-drop IsUnit first contents all))) in
    rw long (
    ap (λ (l : List (List ℕ)). bytes_of (take n l)) (sym (drop-drop i first contents))
    ∙ ap bytes_of (sym (take_inside n i count (drop first contents) within))
    ∙ sym (take_units n (drop i range) behind)
    ∙ ap (take (n * 512)) (sym (drop_units i range each)))

-- how many bytes an extent has
pub extent_len : (contents : List (List ℕ)) (first count : ℕ) → All IsUnit contents → first + count ≤ length contents
    → length (bytes_of (units_at contents first count)) ≡ count * 512
extent_len contents first count all within =
    let few : count ≤ length (drop first contents) = omega (arith, within, length-drop first contents) in
    length-bytes_of (units_at contents first count) (range_units contents first count all)
    ∙ ap (λ n. n * 512) (length-take-le count (drop first contents) few)

-- ---- one piece after another

-- these pieces of an extent of so many units are still to be appended
abbrev pub Going : DataFormat → List ℕ → ℕ → List ℕ → List ℕ → ℕ → ℕ → List Piece → Type 0
Going format bytes units old new old_spare new_spare rest = Sending format bytes (units * 512) old new old_spare new_spare rest

pub begins : (format : DataFormat) (bytes : List ℕ) (units : ℕ) (output : List ℕ) (spare : ℕ) → units ≤ 256 → 512 + 512 * units ≤ spare
    → Going format bytes units output output spare spare (pieces (units * 512))
begins format bytes units output spare few room = begins_sending format bytes (units * 512) output spare (omega (arith, few, room))

-- it has a whole number of the units of the extent, and there is room for it
pub record IsPart (units : ℕ) (piece : Piece) (spare : ℕ) : Type 0 where
  pub begins : piece.offset ≡ piece.offset / 512 * 512
  pub long : piece.len ≡ piece.len / 512 * 512
  pub within : piece.offset / 512 + piece.len / 512 ≤ units
  pub room : 128 + piece.len ≤ spare

pub next_part : (format : DataFormat) (bytes : List ℕ) (units : ℕ) (old new : List ℕ) (old_spare new_spare : ℕ) (piece : Piece) (rest : List Piece)
    → Going format bytes units old new old_spare new_spare (piece ∷ rest) → IsPart units piece new_spare
next_part format bytes units old new old_spare new_spare piece rest h =
    let next = next_is h.offset h.left piece rest h.is in
    let aligned : h.offset % 32768 ≡ 0 = h.aligned next.some in
    record {
      begins = omega (arith, next.at, aligned);
      long = omega (arith, next.long, h.whole, aligned);
      within = omega (arith, next.at, next.long, h.whole, aligned);
      room = omega (arith, next.long, next.some, h.room);
    }

-- its bytes are those of its units
pub part_bytes : (e : Extent) (disk : Stored) (piece : Piece) (spare : ℕ) → All IsUnit disk.contents → IsPart e.units piece spare
    → extent_bytes (part_of e piece) disk ≡ slice_range (extent_bytes e disk) piece.offset (piece.offset + piece.len)
part_bytes e disk piece spare all h =
    piece_bytes disk.contents e.first e.units (piece.offset / 512) (piece.len / 512) all h.within
    ∙ ap (λ (k : ℕ). slice_range (extent_bytes e disk) k (k + piece.len / 512 * 512)) (sym h.begins)
    ∙ ap (λ (n : ℕ). slice_range (extent_bytes e disk) piece.offset (piece.offset + n)) (sym h.long)

-- ---- the end

pub spare_left : (format : DataFormat) (bytes : List ℕ) (units : ℕ) (old new : List ℕ) (old_spare new_spare : ℕ) (rest : List Piece) → units ≤ 256
    → Going format bytes units old new old_spare new_spare rest → old_spare ≤ new_spare + 512 + 512 * units
spare_left format bytes units old new old_spare new_spare rest few h = omega (arith, few, h.spare)

-- what stood in the output before stands there still, whatever a piece that failed left behind
pub front_stays : (old new done after : List ℕ) → new ≡ old ++ done → take (length new) after ≡ new → take (length old) after ≡ old
front_stays old new done after behind front =
    let few : length old ≤ length new = omega (arith, ap length behind, length-append old done) in
    sym (take_front (length old) (length new) after few) ∙ ap (take (length old)) (front ∙ behind) ∙ take_at old done (length old) refl

-- ---- the data in their place

-- what is written over the end of the output is the payload of the PDU that was appended with room for it
pub over_end : (output shown read old : List ℕ) (start n behind : ℕ) (pdu : List ℕ → List ℕ) → shown ≡ output → start + n ≡ length output → length read ≡ n
    → ((payload : List ℕ) → length payload ≡ n → with_end output payload ≡ old ++ pdu payload)
    → take (length output) (put_mid start (length shown - start) shown read ++ drop behind output) ≡ old ++ pdu read
over_end output shown read old start n behind pdu same within long over =
    let placed : put_mid start (length shown - start) shown read ≡ take start output ++ read =
    put_at_end shown read start ∙ ap (λ (l : List ℕ). take start l ++ read) same in
    let front : length (take start output) ≡ start = length-take-le start output (omega (arith, within)) in
    let whole : length (take start output ++ read) ≡ length output = omega (arith, length-append (take start output) read, front, long, within) in
    let begins : length output - length read ≡ start = omega (arith, long, within) in
    ap (λ (l : List ℕ). take (length output) (l ++ drop behind output)) placed
    ∙ take_at (take start output ++ read) (drop behind output) (length output) whole
    ∙ ap (λ (k : ℕ). take k output ++ read) (sym begins)
    ∙ over read long

-- ---- the steps of the loop

-- the units of the next piece, where they are read from a disk that has the same contents
pub part_read : (e part : Extent) (disk now : Stored) (piece : Piece) (spare : ℕ) → All IsUnit disk.contents → IsPart e.units piece spare
    → part ≡ part_of e piece → now.contents ≡ disk.contents
    → extent_bytes part now ≡ slice_range (extent_bytes e disk) piece.offset (piece.offset + piece.len)
part_read e part disk now piece spare all h is same =
    ap (λ (x : Extent). extent_bytes x now) is
    ∙ ap (λ (contents : List (List ℕ)). bytes_of (units_at contents (part_of e piece).first (part_of e piece).units)) same
    ∙ part_bytes e disk piece spare all h

-- how much of the room it takes
pub part_room : (e part : Extent) (piece : Piece) (spare after : ℕ) → IsPart e.units piece spare → part ≡ part_of e piece
    → spare ≤ after + 128 + 512 * part.units → spare ≤ after + 128 + piece.len
part_room e part piece spare after h is left =
    let units : part.units ≡ piece.len / 512 = ap (λ (x : Extent). x.units) is in
    omega (arith, units, h.long, left)

-- what it asks of the disk, and of the output
pub record CanRead (e part : Extent) (disk : Stored) (spare : ℕ) : Type 0 where
  pub within : part.first + part.units ≤ length disk.contents
  pub bound : part.units ≤ 256
  pub room : 128 + 512 * part.units ≤ spare

pub can_read : (e part : Extent) (disk now : Stored) (piece : Piece) (spare : ℕ) → IsPart e.units piece spare → part ≡ part_of e piece
    → now.contents ≡ disk.contents → e.first + e.units ≤ length disk.contents → e.units ≤ 256 → CanRead e part now spare
can_read e part disk now piece spare h is same within bound =
    let first : part.first ≡ e.first + piece.offset / 512 = ap (λ (x : Extent). x.first) is in
    let units : part.units ≡ piece.len / 512 = ap (λ (x : Extent). x.units) is in
    let long : length now.contents ≡ length disk.contents = ap length same in
    record {
      within = omega (arith, first, units, long, h.within, within);
      bound = omega (arith, units, h.within, bound);
      room = omega (arith, units, h.long, h.room);
    }

-- what is left of the room where a piece was begun and not read
pub spare_begun : (format : DataFormat) (bytes : List ℕ) (units : ℕ) (old new : List ℕ) (old_spare new_spare after_spare : ℕ) (piece : Piece) (rest : List Piece)
    → units ≤ 256 → Going format bytes units old new old_spare new_spare (piece ∷ rest) → new_spare ≤ after_spare + 128 + piece.len
    → old_spare ≤ after_spare + 512 + 512 * units
spare_begun format bytes units old new old_spare new_spare after_spare piece rest few h left =
    let next = next_is h.offset h.left piece rest h.is in
    omega (arith, few, next.some, next.long, h.spare, left)

-- the PDU was appended with room for its payload
pub has_room : (items old front : List ℕ) (n : ℕ) → items ≡ old ++ (front ++ replicate n 0) → n ≤ length items
has_room items old front n is =
    omega (arith, ap length is, length-append old (front ++ replicate n 0), length-append front (replicate n 0), length-replicate {A = ℕ} n 0)

-- what stands before the payload
abbrev pub front_of : DataFormat → Piece → ℕ → List ℕ
front_of format piece len =
    common_header types.C2hData (flags_of piece.last) 24 (data_offset format.hpda) (data_offset format.hpda + len)
    ++ (data_fields format.cid piece.offset len ++ replicate (data_offset format.hpda - 24) 0)

-- the end of the output that is lent
pub lent_len : (shown : List ℕ) (start n : ℕ) → start + n ≡ length shown → length (take (length shown - start) (drop start shown)) ≡ n
lent_len shown start n within =
    let left = length-drop start shown in
    let rest : length shown - start ≡ n = omega (arith, within) in
    rw rest (length-take-le n (drop start shown) (omega (arith, left, within)))
