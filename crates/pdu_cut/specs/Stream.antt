-- The PDUs of a stream (TCP Transport 1.0, section 3.6).
use Rattle.std.specs.Prelude.{◌≡◌, ◌≢◌, ℕ, List, ◌++◌}
use Rattle.std.specs.List.{flat_map, AllByRecursion}
use Rattle.pdu_cut.specs.declared.side.Side.{Side}
use Rattle.pdu_cut.specs.Pdu.{Pdu, IsPdu}
use Rattle.pdu_cut.specs.Front.{whole, front}

-- the PDUs' bytes, one PDU after another
abbrev pub joined : List Pdu → List ℕ
joined pdus = flat_map (λ pdu. pdu.bytes) pdus

-- the stream is these whole PDUs, one after another, and then the rest
pub record BeginsWith (side : Side) (stream : List ℕ) (pdus : List Pdu) (rest : List ℕ)
    : Type 0 where
  pub bytes : stream ≡ joined pdus ++ rest
  pub each : AllByRecursion (IsPdu side) pdus

-- the bytes begin with no whole PDU: they are incomplete or faulty
abbrev pub HasNoWhole : Side → List ℕ → Type 0
HasNoWhole side bytes = (pdu : Pdu) → front side bytes ≢ whole pdu

-- how a stream is cut: it is these whole PDUs and no more, and the rest begins with none
pub record IsCut (side : Side) (stream : List ℕ) (pdus : List Pdu) (rest : List ℕ) : Type 0 where
  pub begins : BeginsWith side stream pdus rest
  pub stops : HasNoWhole side rest
