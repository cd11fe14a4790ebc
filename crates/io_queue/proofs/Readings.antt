-- What is read of an extent, piece by piece, and what a Read tells of it.
use Rattle.std.proofs.Common.{◌≡◌, ◌≤◌, inl, inr, ℕ, zero, suc, ◌+◌, ◌-◌, ◌*◌, ◌/◌, min, List, [], ◌∷◌, ◌++◌, length, take, drop, refl, sym, ap, ◌∙◌, append_assoc, append-nil, arith}
use Rattle.std.specs.List.{All, flat_map, slice_range}
use Rattle.std.proofs.lemmas.List.{drop_at, length-append, length-take-le, take_all, take_at}
use Rattle.std.proofs.Math.Seq.{take-add}
use Rattle.block_store.proofs.Strays.{strays_in_a_row}
use Rattle.block_store.specs.Faults.{Strays}
use Rattle.block_store.specs.Range.{bytes_of, units_at}
use Rattle.block_store.specs.Stored.{Stored}
use Rattle.block_store.specs.Unit.{IsUnit}
use Rattle.data_transfer.proofs.Splits.{pieces_from-next}
use Rattle.data_transfer.specs.declared.piece.Piece.{Piece}
use Rattle.data_transfer.specs.Pieces.{pieces, pieces_from}
use Rattle.nvt_fields.specs.Status.{success}
use Rattle.io_queue.specs.declared.operation.Extent.{Extent}
use Rattle.io_queue.specs.declared.reply.DataFormat.{DataFormat}
use Rattle.io_queue.specs.Act.{extent_bytes, found, good}
use Rattle.io_queue.specs.Reply.{AppendsFound, AppendsRead, data_pdus, part_of, pdu_with, piece_pdu}
use Rattle.io_queue.proofs.Pieces.{Going, begins, extent_len, next_part, part_read, part_room, spare_left}
use Rattle.io_queue.proofs.Sending.{all_sent, goes_on, next_is}

-- ---- one piece

-- what was found in as many units as its bytes make
pub found_in : (bytes : List ℕ) (contents : List (List ℕ)) (first len units old new : ℕ) → len ≡ units * 512
    → Strays bytes (bytes_of (units_at contents first (len / 512))) old new → Strays bytes (bytes_of (units_at contents first units)) old new
found_in bytes contents first len units old new is h =
    let count : len / 512 ≡ units = omega (arith, is) in
    rw count at h

-- ---- one piece after another

-- So many bytes of an extent were read, in the pieces that were appended, and these pieces are still to be read, whatever
-- will be found in them.
pub record Reading (format : DataFormat) (e : Extent) (old now : Stored) (output appended : List ℕ) (old_spare new_spare : ℕ) (rest : List Piece) : Type 0 where
  pub front : List ℕ
  pub left : ℕ
  pub is : rest ≡ pieces_from (length front) left
  pub whole : length front + left ≡ e.units * 512
  pub going : (back : List ℕ) → Going format (front ++ back) e.units output appended old_spare new_spare rest
  pub strays : Strays front (take (length front) (extent_bytes e old)) old.strays now.strays

pub begins_reading : (format : DataFormat) (e : Extent) (disk : Stored) (output : List ℕ) (spare : ℕ) → e.units ≤ 256 → 512 + 512 * e.units ≤ spare
    → Reading format e disk disk output output spare spare (pieces (e.units * 512))
begins_reading format e disk output spare few room = record {
  front = [];
  left = e.units * 512;
  is = refl;
  whole = omega arith;
  going = λ back. begins format back e.units output spare few room;
  strays = inl (refl, refl);
}

-- the bytes of a piece, where they were found behind others
piece_found : (front bytes back : List ℕ) (offset len : ℕ) → offset ≡ length front → len ≡ length bytes
    → slice_range (front ++ (bytes ++ back)) offset (offset + len) ≡ bytes
piece_found front bytes back offset len at long =
    let count : offset + len - offset ≡ len = omega arith in
    rw count (
    ap (take len) (drop_at front (bytes ++ back) offset (sym at))
    ∙ take_at bytes back len (sym long))

-- a front of what is wanted, and the piece behind it
front_wanted : (wanted piece : List ℕ) (k offset len more : ℕ) → offset ≡ k → more ≡ k + len → piece ≡ slice_range wanted offset (offset + len)
    → take k wanted ++ piece ≡ take more wanted
front_wanted wanted piece k offset len more at is same =
    let count : k + len - k ≡ len = omega arith in
    ap (λ (l : List ℕ). take k wanted ++ l) (same ∙ ap (λ (o : ℕ). slice_range wanted o (o + len)) at)
    ∙ ap (λ (n : ℕ). take k wanted ++ take n (drop k wanted)) count
    ∙ sym (take-add k len wanted) ∙ ap (λ (n : ℕ). take n wanted) (sym is)

-- the next piece is read
pub next_read : (format : DataFormat) (e part : Extent) (old mid new : Stored) (output appended after : List ℕ) (old_spare new_spare after_spare : ℕ)
    (piece : Piece) (rest : List Piece) → All IsUnit old.contents → e.first + e.units ≤ length old.contents
    → Reading format e old mid output appended old_spare new_spare (piece ∷ rest) → part ≡ part_of e piece → mid.contents ≡ old.contents
    → AppendsFound (pdu_with format piece) part mid new appended after → new_spare ≤ after_spare + 128 + 512 * part.units
    → Reading format e old new output after old_spare after_spare rest
next_read format e part old mid new output appended after old_spare new_spare after_spare piece rest all within h is same read spare =
    let next = next_is (length h.front) h.left piece rest h.is in
    let cut = next_part format (h.front ++ []) e.units output appended old_spare new_spare piece rest (h.going []) in
    let units : part.units ≡ piece.len / 512 = ap (λ (x : Extent). x.units) is in
    let long : length read.bytes ≡ piece.len = omega (arith, read.long, units, cut.long) in
    let wanted = extent_bytes e old in
    let whole : length wanted ≡ e.units * 512 = extent_len old.contents e.first e.units all within in
    let now = min h.left 32768 in
    let more : length (h.front ++ read.bytes) ≡ length h.front + now = omega (arith, length-append h.front read.bytes, long, next.long) in
    let few : length h.front ≤ length wanted = omega (arith, whole, h.whole) in
    let behind : take (length h.front) wanted ++ extent_bytes part mid ≡ take (length (h.front ++ read.bytes)) wanted =
    front_wanted wanted (extent_bytes part mid) (length h.front) piece.offset piece.len (length (h.front ++ read.bytes)) next.at
    (omega (arith, more, next.long)) (part_read e part old mid piece new_spare all cut is same) in
    record {
      front = h.front ++ read.bytes;
      left = h.left - now;
      is = next.is ∙ ap (λ (k : ℕ). pieces_from k (h.left - now)) (sym more);
      whole = omega (arith, more, h.whole);
      going = λ back. rw (append_assoc h.front read.bytes back) (
          goes_on format (h.front ++ (read.bytes ++ back)) (e.units * 512) output appended after old_spare new_spare after_spare piece rest
          (h.going (read.bytes ++ back))
          (read.sends ∙ ap (λ (l : List ℕ). appended ++ pdu_with format piece l)
          (sym (piece_found h.front read.bytes back piece.offset piece.len next.at (sym long))))
          (part_room e part piece new_spare after_spare cut is spare));
      strays = rw (← behind) (
          strays_in_a_row h.front read.bytes (take (length h.front) wanted) (extent_bytes part mid) old.strays mid.strays new.strays
          (sym (length-take-le (length h.front) wanted few)) h.strays read.strays);
    }

none_left : (offset left : ℕ) → [] ≡ pieces_from offset left → left ≡ 0
none_left offset zero is = refl
none_left offset (suc n) is =
    let clash = is ∙ pieces_from-next offset (suc n) (omega arith) in
    cc

-- all pieces are read
pub all_read : (format : DataFormat) (e : Extent) (old now : Stored) (output appended : List ℕ) (old_spare new_spare : ℕ)
    → All IsUnit old.contents → e.first + e.units ≤ length old.contents
    → Reading format e old now output appended old_spare new_spare [] → AppendsFound (data_pdus format) e old now output appended
all_read format e old now output appended old_spare new_spare all within h =
    let none = none_left (length h.front) h.left h.is in
    let long : length h.front ≡ e.units * 512 = omega (arith, none, h.whole) in
    let wanted = extent_bytes e old in
    let whole : length wanted ≡ e.units * 512 = extent_len old.contents e.first e.units all within in
    let taken : take (length h.front) wanted ≡ wanted = take_all (length h.front) wanted (omega (arith, long, whole)) in
    record {
      bytes = h.front;
      long = omega (arith, long);
      sends = all_sent format (h.front ++ []) (e.units * 512) output appended old_spare new_spare (h.going [])
          ∙ ap (λ (l : List ℕ). output ++ flat_map (piece_pdu format l) (pieces (e.units * 512))) (append-nil h.front)
          ∙ ap (λ (n : ℕ). output ++ flat_map (piece_pdu format h.front) (pieces n)) (sym long);
      strays = rw taken at h.strays;
    }

-- what stood in the output before stands there still
pub front_read : (format : DataFormat) (e : Extent) (old now : Stored) (output appended : List ℕ) (old_spare new_spare : ℕ) (rest : List Piece)
    → Reading format e old now output appended old_spare new_spare rest → take (length output) appended ≡ output
front_read format e old now output appended old_spare new_spare rest h =
    let going = h.going [] in
    ap (take (length output)) going.behind ∙ take_at output going.done (length output) refl

-- what is left of the room
pub spare_read : (format : DataFormat) (e : Extent) (old now : Stored) (output appended : List ℕ) (old_spare new_spare : ℕ) (rest : List Piece)
    → e.units ≤ 256 → Reading format e old now output appended old_spare new_spare rest → old_spare ≤ new_spare + 512 + 512 * e.units
spare_read format e old now output appended old_spare new_spare rest few h =
    spare_left format (h.front ++ []) e.units output appended old_spare new_spare rest few (h.going [])

-- ---- a Read

pub read_appended : (format : DataFormat) (e : Extent) (old new : Stored) (output appended : List ℕ)
    → AppendsFound (data_pdus format) e old new output appended → new.contents ≡ old.contents → new.faults ≡ old.faults
    → AppendsRead format e old new output appended success
read_appended format e old new output appended h contents faults = by h.strays where
  by : Strays h.bytes (extent_bytes e old) old.strays new.strays → AppendsRead format e old new output appended success
  by (inl own) = record {
    disk_outcome = good;
    of_read = tt;
    finds = tt;
    answer = refl;
    sends = rw (← own.0) h.sends;
    contents = contents;
    counts = (faults, own.1);
  }
  by (inr other) = record {
    disk_outcome = found h.bytes;
    of_read = h.long;
    finds = other.0;
    answer = refl;
    sends = h.sends;
    contents = contents;
    counts = (faults, other.1);
  }
