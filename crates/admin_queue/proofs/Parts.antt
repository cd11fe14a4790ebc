-- Bytes of a known length, and parts of them.
use Rattle.std.proofs.Common.{◌≡◌, ℕ, ◌+◌, ◌-◌, ◌%◌, ◌<◌, ◌≤◌, min, List, length, get_or, drop, take, replicate, sym, ap, ◌∙◌, arith}
use Rattle.std.specs.List.{slice_range}
use Rattle.std.proofs.lemmas.List.{get_or-drop, get_or-replicate, get_or-take, get_or_past, length-drop, length-replicate, length-take-le}
use Rattle.data_transfer.specs.Pieces.{piece_at, piece_count}
use Rattle.data_transfer.proofs.Joins.{at_number}
use Rattle.nvt_fields.proofs.Windows as windows
use Rattle.nvt_fields.specs.Window.{window}
use Rattle.admin_queue.specs.declared.payload.Payload.{Payload}
use Rattle.admin_queue.specs.declared.payload.Payload.TheVariants.{LogPage, Identify}
use Rattle.admin_queue.specs.Laws.{PiecesAreParts}
use Rattle.admin_queue.specs.Payload.{IsPart, payload_len}

pub window_of : (out page : List ℕ) (n m : ℕ) → out ≡ window page 0 n → n ≡ m → out ≡ window page 0 m
window_of out page n m is same = rw same at is

pub zeros_of : (out : List ℕ) (n m : ℕ) → out ≡ replicate n 0 → n ≡ m → out ≡ replicate m 0
zeros_of out n m is same = rw same at is

-- ---- parts

-- a slice of a window is a window further on
pub window_within : (page : List ℕ) (offset n from m : ℕ) → from + m ≤ n
    → window page (offset + from) m ≡ slice_range (window page offset n) from (from + m)
window_within page offset n from m within =
    let whole = window page offset n in
    let long : from + m - from ≡ m = omega arith in
    let left : m ≤ length (drop from whole) = omega (arith, within, length-drop from whole, windows.length-window page offset n) in
    rw long (sym (windows.window_of (take m (drop from whole)) page (offset + from) m (length-take-le m (drop from whole) left) (λ k below.
    get_or-take m (drop from whole) k 0 below
    ∙ get_or-drop from whole k 0
    ∙ windows.get_or-window page offset n (from + k) (omega (arith, within, below))
    ∙ ap (λ i. get_or page i 0) (omega arith))))

-- past a page's end are zeros
pub window_past : (page : List ℕ) (offset n : ℕ) → length page ≤ offset → replicate n 0 ≡ window page offset n
window_past page offset n past =
    windows.window_of (replicate n 0) page offset n (length-replicate {A = ℕ} n 0) (λ k below.
    get_or-replicate {A = ℕ} n k 0 0 below ∙ sym (get_or_past page (offset + k) 0 (omega (arith, past))))

-- ---- pieces

-- what is left of a payload begins with a part of it, where it is sent in pieces
pub next_is_part : (r : Payload) (offset left : ℕ) → offset + left ≡ payload_len r → offset % 32768 ≡ 0 → 1 ≤ left
    → IsPart r offset (min left 32768)
next_is_part (LogPage part) offset left whole aligned some = omega (arith, whole)
next_is_part (Identify s) offset left whole aligned some =
    (omega (arith, whole, aligned, some), omega (arith, whole, aligned, some))

numbered_is_part : (r : Payload) (number : ℕ) → number < piece_count (payload_len r) → IsPart r (piece_at 0 (payload_len r) number).offset (piece_at 0 (payload_len r) number).len
numbered_is_part (LogPage part) number within = omega (arith, within)
numbered_is_part (Identify s) number within = (omega (arith, within), omega (arith, within))

pub pieces_are_parts : PiecesAreParts
pieces_are_parts r number piece found =
    let there = at_number (payload_len r) number piece found in
    rw there.1 (numbered_is_part r number there.0)
