-- The pieces of a reply's data join to the whole, and stand in turn.
use Rattle.std.proofs.Common.{◌≡◌, ℕ, zero, suc, ◌+◌, ◌-◌, ◌<◌, ◌==◌, min, List, ◌++◌, length, take, drop, Some, slice_get, refl, sym, ap, ◌∙◌, arith}
use Rattle.std.specs.List.{flat_map, slice_range}
use Rattle.std.proofs.lemmas.List.{drop-drop}
use Rattle.std.proofs.lemmas.List.Concat.{flat_map-cons}
use Rattle.std.proofs.lemmas.List.FromFn.{get_or-map-range_with_len, length-map-range_with_len}
use Rattle.std.proofs.lemmas.Option.{slice_get_within, slice_get-get_or, same_Some}
use Rattle.std.proofs.Math.Seq.{take-add, take-length}
use Rattle.data_transfer.specs.declared.piece.Piece.{Piece}
use Rattle.data_transfer.specs.Laws.{IsInTurn, PiecesAreInTurn, PiecesJoin}
use Rattle.data_transfer.specs.Pieces.{piece_at, piece_count, pieces, pieces_from}
use Rattle.data_transfer.proofs.Splits.{pieces_from-next, pieces_from-zero}

-- the part of the bytes that a piece has
part_of : List ℕ → Piece → List ℕ
part_of bytes piece = slice_range bytes piece.offset (piece.offset + piece.len)

-- a part, and the part behind it
parts_join : (bytes : List ℕ) (from m n : ℕ) → slice_range bytes from (from + m) ++ slice_range bytes (from + m) (from + m + n) ≡ slice_range bytes from (from + m + n)
parts_join bytes from m n =
    let first : from + m - from ≡ m = omega arith in
    let second : from + m + n - (from + m) ≡ n = omega arith in
    let both : from + m + n - from ≡ m + n = omega arith in
    rw (first, second, both) (
    ap (λ rest. take m (drop from bytes) ++ take n rest) (sym (drop-drop m from bytes)) ∙ sym (take-add m n (drop from bytes))
    )

nothing_joins : (bytes : List ℕ) (offset left : ℕ) → left ≡ 0 → flat_map (part_of bytes) (pieces_from offset left) ≡ slice_range bytes offset (offset + left)
nothing_joins bytes offset left none =
    rw none (ap (flat_map (part_of bytes)) (pieces_from-zero offset) ∙ let over : offset + 0 - offset ≡ 0 = omega arith in rw over refl)

joins_from : (pieces : ℕ) (bytes : List ℕ) (offset left : ℕ) → piece_count left ≡ pieces → flat_map (part_of bytes) (pieces_from offset left) ≡ slice_range bytes offset (offset + left)
unfolding part_of
joins_from zero bytes offset left counted = nothing_joins bytes offset left (omega arith)
joins_from (suc fewer) bytes offset left counted =
    let now = min left 32768 in
    let first : Piece = record { offset = offset; len = now; last = now == left } in
    let fewer_left : piece_count (left - now) ≡ fewer = omega arith in
    let whole : offset + now + (left - now) ≡ offset + left = omega arith in
    ap (flat_map (part_of bytes)) (pieces_from-next offset left (omega arith))
    ∙ flat_map-cons (part_of bytes) first (pieces_from (offset + now) (left - now))
    ∙ ap (λ rest. slice_range bytes offset (offset + now) ++ rest) (joins_from fewer bytes (offset + now) (left - now) fewer_left)
    ∙ parts_join bytes offset now (left - now)
    ∙ ap (slice_range bytes offset) whole

pub pieces_join : PiecesJoin
unfolding part_of
pieces_join bytes =
    joins_from (piece_count (length bytes)) bytes 0 (length bytes) refl
    ∙ let all : 0 + length bytes - 0 ≡ length bytes = omega arith in rw all (take-length bytes)

-- a piece by its number
pub at_number : (len number : ℕ) (piece : Piece) → slice_get (pieces len) number ≡ Some piece → (number < piece_count len) × (piece ≡ piece_at 0 len number)
unfolding pieces_from
at_number len number piece found =
    let within : number < length (pieces len) = slice_get_within (pieces len) number piece found in
    let inside : number < piece_count len = omega (arith, length-map-range_with_len (piece_at 0 len) 0 (piece_count len)) in (
      inside,
      sym (same_Some _ _ (sym (slice_get-get_or (pieces len) number piece within) ∙ found))
          ∙ get_or-map-range_with_len (piece_at 0 len) 0 (piece_count len) number number piece inside (omega arith),
    )

length-pieces : (len : ℕ) → length (pieces len) ≡ piece_count len
unfolding pieces_from
length-pieces len = length-map-range_with_len (piece_at 0 len) 0 (piece_count len)

in_turn : (len number : ℕ) → number < piece_count len → IsInTurn (pieces len) number (piece_at 0 len number)
in_turn len number within =
    record {
      begins = omega arith;
      has_data = omega arith;
      most = omega arith;
      full = λ more. omega (arith, length-pieces len);
      marked = ap (λ n. number + 1 == n) (sym (length-pieces len));
    }

pub pieces_are_in_turn : PiecesAreInTurn
pieces_are_in_turn len number piece found =
    let there = at_number len number piece found in rw there.1 (in_turn len number there.0)
