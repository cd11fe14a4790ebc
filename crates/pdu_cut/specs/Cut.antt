-- What a look into a receive buffer answers: it shows the front of the bytes held.
use Rattle.pdu_cut.specs.declared.cut.Cut.{Cut}
use Rattle.pdu_cut.specs.declared.cut.Cut.TheVariants.{More, Pdu, Fault}
use Rattle.pdu_cut.specs.Pdu.{Pdu as SpecPdu}
use Rattle.pdu_cut.specs.Front.{Front, incomplete, whole, faulty}

abbrev pub front_shown : Cut → Front
front_shown More = incomplete
front_shown (Pdu view) = whole view
front_shown (Fault fes fei head) = faulty (record { fes = fes; fei = fei }) head.now

-- a fact of the PDU, if one is shown
abbrev pub IfPdu : Cut → (SpecPdu → Type 0) → Type 0
IfPdu (Pdu view) P = P view
IfPdu More P = Unit {0}
IfPdu (Fault fes fei head) P = Unit {0}
