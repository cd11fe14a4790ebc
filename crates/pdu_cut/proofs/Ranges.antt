-- A part of a list that loses its front, or grows by what was written behind it.
use Rattle.std.proofs.Common.{◌≡◌, ℕ, ◌+◌, ◌-◌, ◌≤◌, List, length, take, drop, slice_range, ◌++◌, ap, ◌∙◌, arith, sym, length-take-le}
use Rattle.std.proofs.lemmas.List.{drop-drop, drop-append-le}
use Rattle.std.proofs.lemmas.Slice.{between_is}
use Rattle.pdu_cut.specs.declared.side.Side.{Side}
use Rattle.pdu_cut.specs.Received.{Received}

pub shorter : (l : List ℕ) (start end len : ℕ) → end ≤ length l → len ≤ length (slice_range l start end)
    → slice_range l (start + len) end ≡ drop len (slice_range l start end)
shorter l start end len within short =
    sym (ap (drop len) (between_is l start end) ∙ drop-drop len start (take end l) ∙ sym (between_is l (start + len) end))

pub grown : (l after piece : List ℕ) (start end : ℕ) → start ≤ end → end ≤ length l
    → take (end + length piece) after ≡ take end l ++ piece
    → slice_range after start (end + length piece) ≡ slice_range l start end ++ piece
grown l after piece start end order within is =
    let front = length-take-le end l within in
    between_is after start (end + length piece) ∙ ap (drop start) is ∙ drop-append-le start (take end l) piece (omega (arith, front))
    ∙ ap (λ (k : List ℕ). k ++ piece) (sym (between_is l start end))

abbrev pub received : Side → List ℕ → Received
received side held = record { side = side; held = held }

-- for a buffer that is written behind what it held, which may have been moved before
pub receives : (side : Side) (l moved after piece : List ℕ) (start end at taken : ℕ) (now : Received)
    → received side (slice_range l start end) ≡ now
    → slice_range moved at (at + (end - start)) ≡ slice_range l start end
    → at + (end - start) + taken ≤ length moved
    → taken ≤ length piece
    → take (at + (end - start) + length (take taken piece)) after ≡ take (at + (end - start)) moved ++ take taken piece
    → received side (slice_range after at (at + (end - start) + taken)) ≡ received now.side (now.held ++ take taken piece)
receives side l moved after piece start end at taken now is same room few items =
    let few_taken : length (take taken piece) ≡ taken = length-take-le taken piece few in
    ap (λ (n : ℕ). received side (slice_range after at (at + (end - start) + n))) (sym few_taken)
    ∙ ap (received side) (grown moved after (take taken piece) at (at + (end - start)) (omega arith) (omega arith) items)
    ∙ ap (λ (h : List ℕ). received side (h ++ take taken piece)) same
    ∙ ap (λ (r : Received). received r.side (r.held ++ take taken piece)) is
