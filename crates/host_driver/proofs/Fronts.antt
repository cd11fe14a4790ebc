-- What stands at the front of what came: its header fits in a termination request, its bytes come first, and
-- a whole PDU has some.
use Rattle.std.proofs.Common.{◌≡◌, ℕ, ◌≤◌, ◌++◌, List, length, drop, sym, ap, ◌∙◌, refl, arith}
use Rattle.std.proofs.lemmas.List.{take-append-drop}
use Rattle.pdu_cut.specs.declared.cut.Cut.{Cut}
use Rattle.pdu_cut.specs.declared.cut.Cut.TheVariants as cut
use Rattle.pdu_cut.specs.declared.side.Side.{Side}
use Rattle.pdu_cut.specs.Cut.{IfPdu, front_shown}
use Rattle.pdu_cut.specs.Front.{BeginsWithPdu, Front, faulty, front, incomplete, whole}
use Rattle.pdu_cut.specs.Pdu.{Pdu}
use Rattle.pdu_cut.proofs.Fronts.{front_whole}
use Rattle.pdu_cut.proofs.Headers.{eight_within}
use Rattle.pdu_cut.specs.Short.{IsShort}
use Rattle.host_driver.specs.Event.{consumed_at, head_at}

-- a PDU is where the bytes begin
begins_with : (side : Side) (held : List ℕ) (pdu : Pdu) → BeginsWithPdu side held pdu → held ≡ pdu.bytes ++ drop (length pdu.bytes) held
begins_with side held pdu h =
    sym (take-append-drop (length pdu.bytes) held) ∙ ap (λ (l : List ℕ). l ++ drop (length pdu.bytes) held) (sym h.begins)

-- for the answers of a look into a buffer
pub begins : (side : Side) (held : List ℕ) (found : Cut) → IfPdu found (BeginsWithPdu side held)
    → held ≡ consumed_at (front_shown found) ++ drop (length (consumed_at (front_shown found))) held
begins side held cut.More h = refl
begins side held (cut.Pdu view) h = begins_with side held view h
begins side held (cut.Fault fes fei head) h = refl

pub within : (side : Side) (held : List ℕ) (found : Cut) → IfPdu found (BeginsWithPdu side held) → length (consumed_at (front_shown found)) ≤ length held
within side held cut.More h = omega arith
within side held (cut.Pdu view) h = h.within
within side held (cut.Fault fes fei head) h = omega arith

pub head_bound : (found : Front) → IsShort found → length (head_at found) ≤ 128
head_bound incomplete h = omega arith
head_bound (whole pdu) h = h
head_bound (faulty fault head) h = h

-- a whole PDU has some bytes
pub some_consumed : (side : Side) (held : List ℕ) (pdu : Pdu) → front side held ≡ whole pdu → 8 ≤ length pdu.bytes
some_consumed side held pdu is = eight_within side pdu (front_whole side held pdu is).is_pdu

pub ruleset fronts = (head_bound, begins, within)
