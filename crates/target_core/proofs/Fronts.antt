-- What a look into a stream shows is not longer than the stream, and its header fits in a termination.
use Rattle.std.proofs.Common.{ℕ, ◌≤◌, List, length, arith}
use Rattle.pdu_cut.specs.declared.cut.Cut.{Cut}
use Rattle.pdu_cut.specs.declared.cut.Cut.TheVariants as cut
use Rattle.pdu_cut.specs.declared.side.Side.{Side}
use Rattle.pdu_cut.specs.Cut.{IfPdu, front_shown}
use Rattle.pdu_cut.specs.Front.{BeginsWithPdu, Front, faulty, incomplete, whole}
use Rattle.pdu_cut.specs.Short.{IsShort}
use Rattle.target_decision.specs.Decision.{head_of, consumed_of}

pub head_bound : (found : Front) → IsShort found → length (head_of found) ≤ 128
head_bound incomplete h = omega arith
head_bound (whole pdu) h = h
head_bound (faulty fault head) h = h

pub front_within : (side : Side) (held : List ℕ) (found : Cut) → IfPdu found (BeginsWithPdu side held) → consumed_of (front_shown found) ≤ length held
front_within side held cut.More h = omega arith
front_within side held (cut.Pdu view) h = h.within
front_within side held (cut.Fault fes fei head) h = omega arith
