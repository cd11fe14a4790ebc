-- Data that are appended to the output in pieces, one after another.
use Rattle.std.proofs.Common.{◌≡◌, ◌≤◌, ℕ, zero, suc, ◌+◌, ◌-◌, ◌%◌, min, List, [], ◌∷◌, ◌++◌, refl, sym, ap, ◌∙◌, append_assoc, append-nil, arith}
use Rattle.std.specs.List.{flat_map}
use Rattle.std.proofs.lemmas.List.Concat.{flat_map-cons}
use Rattle.data_transfer.specs.declared.piece.Piece.{Piece}
use Rattle.data_transfer.specs.Pieces.{piece_count, pieces, pieces_from}
use Rattle.data_transfer.proofs.Splits.{pieces_from-next, pieces_from-zero}
use Rattle.io_queue.specs.declared.reply.DataFormat.{DataFormat}
use Rattle.io_queue.specs.Reply.{data_room, piece_pdu}

-- These pieces of so many bytes are still to be appended, where the output was this and had so much spare room.
pub record Sending (format : DataFormat) (bytes : List ℕ) (len : ℕ) (old new : List ℕ) (old_spare new_spare : ℕ) (rest : List Piece) : Type 0 where
  pub offset : ℕ
  pub left : ℕ
  pub is : rest ≡ pieces_from offset left
  pub whole : offset + left ≡ len
  pub aligned : 1 ≤ left → offset % 32768 ≡ 0
  pub sends : new ++ flat_map (piece_pdu format bytes) rest ≡ old ++ flat_map (piece_pdu format bytes) (pieces len)
  pub done : List ℕ
  pub behind : new ≡ old ++ done
  pub room : data_room left ≤ new_spare
  pub spare : old_spare + data_room left ≤ new_spare + data_room len

pub begins_sending : (format : DataFormat) (bytes : List ℕ) (len : ℕ) (output : List ℕ) (spare : ℕ) → data_room len ≤ spare
    → Sending format bytes len output output spare spare (pieces len)
begins_sending format bytes len output spare room = record {
  offset = 0;
  left = len;
  is = refl;
  whole = omega arith;
  aligned = λ some. refl;
  sends = refl;
  done = [];
  behind = sym (append-nil output);
  room = room;
  spare = omega arith;
}

-- a piece that comes next
pub record IsNext (offset left : ℕ) (piece : Piece) (rest : List Piece) : Type 0 where
  pub some : 1 ≤ left
  pub at : piece.offset ≡ offset
  pub long : piece.len ≡ min left 32768
  pub is : rest ≡ pieces_from (offset + min left 32768) (left - min left 32768)

head_is : (a b : Piece) (k l : List Piece) → a ∷ k ≡ b ∷ l → (a ≡ b) × (k ≡ l)
head_is a b k l h = (cc, cc)

pub next_is : (offset left : ℕ) (piece : Piece) (rest : List Piece) → piece ∷ rest ≡ pieces_from offset left → IsNext offset left piece rest
next_is offset zero piece rest is = let clash = is ∙ pieces_from-zero offset in cc
next_is offset (suc n) piece rest is =
    let left = suc n in
    let parts = head_is _ _ _ _ (is ∙ pieces_from-next offset left (omega arith)) in
    record {
      some = omega arith;
      at = ap (λ (p : Piece). p.offset) parts.0;
      long = ap (λ (p : Piece). p.len) parts.0;
      is = parts.1;
    }

-- .. and once it is appended, the others are to be
pub goes_on : (format : DataFormat) (bytes : List ℕ) (len : ℕ) (old new after : List ℕ) (old_spare new_spare after_spare : ℕ) (piece : Piece) (rest : List Piece)
    → Sending format bytes len old new old_spare new_spare (piece ∷ rest) → after ≡ new ++ piece_pdu format bytes piece
    → new_spare ≤ after_spare + 128 + piece.len → Sending format bytes len old after old_spare after_spare rest
goes_on format bytes len old new after old_spare new_spare after_spare piece rest h sends spare =
    let next = next_is h.offset h.left piece rest h.is in
    let now = min h.left 32768 in
    let pdu = piece_pdu format bytes piece in
    let others = flat_map (piece_pdu format bytes) rest in
    let aligned : h.offset % 32768 ≡ 0 = h.aligned next.some in
    let counted : piece_count h.left ≡ piece_count (h.left - now) + 1 = omega (arith, next.some) in
    record {
      offset = h.offset + now;
      left = h.left - now;
      is = next.is;
      whole = omega (arith, h.whole);
      aligned = λ some. omega (arith, some, aligned);
      sends = ap (λ (l : List ℕ). l ++ others) sends ∙ append_assoc new pdu others
          ∙ ap (λ (l : List ℕ). new ++ l) (sym (flat_map-cons (piece_pdu format bytes) piece rest)) ∙ h.sends;
      done = h.done ++ pdu;
      behind = sends ∙ ap (λ (l : List ℕ). l ++ pdu) h.behind ∙ append_assoc old h.done pdu;
      room = omega (arith, next.long, spare, h.room, counted);
      spare = omega (arith, next.long, spare, h.spare, counted);
    }

-- ---- the end

pub all_sent : (format : DataFormat) (bytes : List ℕ) (len : ℕ) (old new : List ℕ) (old_spare new_spare : ℕ)
    → Sending format bytes len old new old_spare new_spare [] → new ≡ old ++ flat_map (piece_pdu format bytes) (pieces len)
all_sent format bytes len old new old_spare new_spare h = sym (append-nil new) ∙ h.sends

pub room_left : (format : DataFormat) (bytes : List ℕ) (len : ℕ) (old new : List ℕ) (old_spare new_spare : ℕ) (rest : List Piece)
    → Sending format bytes len old new old_spare new_spare rest → old_spare ≤ new_spare + data_room len
room_left format bytes len old new old_spare new_spare rest h = omega (arith, h.spare)
