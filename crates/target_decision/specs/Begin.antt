-- What a decision begins: the controller that a Connect makes.
use Rattle.std.specs.Prelude.{◌≡◌, ℕ, List, [], Option, Some, None}
use Rattle.fabrics_connect.specs.declared.row.Row.{Row}
use Rattle.fabrics_connect.specs.Command.{HasNames}
use Rattle.fabrics_connect.specs.Laws.{IsLeastFree}
use Rattle.fabrics_connect.specs.Row.{row_begun}
use Rattle.nvt_fields.specs.declared.pdu_type.PduType.TheVariants.{CapsuleCmd}
use Rattle.pdu_cut.specs.Front.{Front, incomplete, whole, faulty}
use Rattle.pdu_cut.specs.Pdu.{data_part}
use Rattle.target_decision.specs.declared.consequence.Consequence.{Consequence}
use Rattle.target_decision.specs.declared.consequence.Consequence.TheVariants as consequence
use Rattle.target_decision.specs.declared.decision.Decision.{Decision}
use Rattle.target_decision.specs.declared.decision.Decision.TheVariants as decision
pub use Rattle.target_decision.specs.Decision.{bytes_at}
use Rattle.target_decision.specs.Decision.{entry_of}

-- the submission queue entry of the capsule at a front
abbrev pub entry_at : Front → List ℕ
entry_at (whole pdu) = entry_of pdu
entry_at incomplete = []
entry_at (faulty fault head) = []

-- ---- the row of the controller that it begins

abbrev pub row_by : Consequence → ℕ → Front → Option Row
row_by (consequence.Begin b) port front = Some (row_begun b.controller port (entry_at front) (bytes_at front))
row_by _ port front = None

-- .. of a decision on this front of a connection on this port
abbrev pub row_decided : Decision → ℕ → Front → Option Row
row_decided (decision.Reply r) port front = row_by r.consequence port front
row_decided _ port front = None

-- ---- what holds of it

-- a capsule that has the names of a row
abbrev pub NamesIn : Front → Type 0
NamesIn (whole pdu) = (pdu.kind ≡ CapsuleCmd) × HasNames (entry_of pdu) (data_part pdu)
NamesIn incomplete = ⊥
NamesIn (faulty fault head) = ⊥

abbrev pub NamesBy : Consequence → Front → Type 0
NamesBy (consequence.Begin b) front = NamesIn front
NamesBy _ front = Unit {0}

-- a controller begins by a capsule with the names of a row; of another decision any front will do
abbrev pub NamesWell : Decision → Front → Type 0
NamesWell (decision.Reply r) front = NamesBy r.consequence front
NamesWell _ front = Unit {0}

abbrev pub FreeBy : (ℕ → Option Row) → Consequence → Type 0
FreeBy row (consequence.Begin b) = IsLeastFree row b.controller.cntlid
FreeBy row _ = Unit {0}

-- a controller begins under the least identifier that is free
abbrev pub BeginsFree : (ℕ → Option Row) → Decision → Type 0
BeginsFree row (decision.Reply r) = FreeBy row r.consequence
BeginsFree row _ = Unit {0}
