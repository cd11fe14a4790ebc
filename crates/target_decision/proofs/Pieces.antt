-- The data that a reply returns of a controller, appended in pieces.
use Rattle.std.proofs.Common.{◌≡◌, ◌≤◌, ◌⊎◌, inl, inr, ℕ, ◌+◌, ◌-◌, ◌*◌, ◌%◌, min, List, [], ◌∷◌, ◌++◌, length, drop, ap, sym, ◌∙◌, arith}
use Rattle.std.specs.List.{flat_map, slice_range}
use Rattle.std.proofs.lemmas.List.{length-drop, length-take-le}
use Rattle.admin_queue.specs.declared.payload.Payload.{Payload}
use Rattle.admin_queue.specs.declared.payload.Payload.TheVariants.{LogPage, Identify}
use Rattle.admin_queue.specs.Controller.{AdminController}
use Rattle.admin_queue.specs.Pages.{Pages, log_page_bytes}
use Rattle.admin_queue.specs.Payload.{IsPart, payload_bytes, payload_len}
use Rattle.nvt_config.specs.Configuration.{Configuration}
use Rattle.data_transfer.specs.declared.piece.Piece.{Piece}
use Rattle.data_transfer.specs.Pieces.{pieces}
use Rattle.data_transfer.proofs.Splits.{pieces_from-next}
use Rattle.io_queue.specs.declared.reply.DataFormat.{DataFormat}
use Rattle.io_queue.specs.Reply.{data_pdus, piece_pdu}
use Rattle.io_queue.proofs.Sending.{Sending, all_sent, next_is}
use Rattle.nvt_fields.proofs.Windows.{length-window}

-- a piece that comes next is a part that is written at once, and there is room for it
pub record IsNextPart (r : Payload) (piece : Piece) (spare : ℕ) : Type 0 where
  pub part : IsPart r piece.offset piece.len
  pub room : 128 + piece.len ≤ spare
  pub bound : piece.len ≤ 32768

is_part : (r : Payload) (offset left : ℕ) (piece : Piece) → 1 ≤ left → offset + left ≡ payload_len r → offset % 32768 ≡ 0
    → piece.offset ≡ offset → piece.len ≡ min left 32768 → IsPart r piece.offset piece.len
is_part (LogPage part) offset left piece some whole aligned at long = omega (arith, whole, at, long)
is_part (Identify s) offset left piece some whole aligned at long =
    (omega (arith, some, whole, aligned, at), omega (arith, some, whole, aligned, long))

pub next_part : (r : Payload) (format : DataFormat) (bytes old new : List ℕ) (old_spare new_spare : ℕ) (piece : Piece) (rest : List Piece)
    → Sending format bytes (payload_len r) old new old_spare new_spare (piece ∷ rest) → IsNextPart r piece new_spare
next_part r format bytes old new old_spare new_spare piece rest h =
    let next = next_is h.offset h.left piece rest h.is in
    record {
      part = is_part r h.offset h.left piece next.some h.whole (h.aligned next.some) next.at next.long;
      room = omega (arith, next.long, next.some, h.room);
      bound = omega (arith, next.long);
    }

within_data : (r : Payload) (offset len : ℕ) → IsPart r offset len → offset + len ≤ payload_len r
within_data (LogPage part) offset len h = h
within_data (Identify s) offset len (at, long) = omega (arith, at, long)

-- .. of that length
pub part_long : (r : Payload) (bytes : List ℕ) (offset len : ℕ) → length bytes ≡ payload_len r → IsPart r offset len
    → length (slice_range bytes offset (offset + len)) ≡ len
part_long r bytes offset len long h =
    let within = within_data r offset len h in
    let rest : offset + len - offset ≡ len = omega arith in
    rw rest (length-take-le len (drop offset bytes) (omega (arith, length-drop offset bytes, long, within)))

-- the data have the length that was said, as a piece has shown, or where there is none
none_long : (r : Payload) (p : Pages) (d : Configuration) (c : AdminController) → [] ≡ pieces (payload_len r) → length (payload_bytes r p d c) ≡ payload_len r
none_long (LogPage part) p d c none = length-window (log_page_bytes part.page p c) part.offset (4 * part.dwords)
none_long (Identify s) p d c none = let clash = none ∙ pieces_from-next 0 4096 (omega arith) in cc

pub is_long : (r : Payload) (p : Pages) (d : Configuration) (c : AdminController) (rest : List Piece)
    → (rest ≡ pieces (payload_len r)) ⊎ (length (payload_bytes r p d c) ≡ payload_len r) → rest ≡ [] → length (payload_bytes r p d c) ≡ payload_len r
is_long r p d c rest (inl all) none = none_long r p d c (sym none ∙ all)
is_long r p d c rest (inr long) none = long

pub given_done : (format : DataFormat) (bytes old new : List ℕ) (len old_spare new_spare : ℕ) → length bytes ≡ len
    → Sending format bytes len old new old_spare new_spare [] → new ≡ old ++ data_pdus format bytes
given_done format bytes old new len old_spare new_spare long h =
    all_sent format bytes len old new old_spare new_spare h ∙ ap (λ n. old ++ flat_map (piece_pdu format bytes) (pieces n)) (sym long)
