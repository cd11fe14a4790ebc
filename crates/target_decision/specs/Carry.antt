-- What a decision makes of the transfers of its connection, and what they give to it.
use Rattle.std.specs.Prelude.{◌≡◌, ◌<◌, ℕ, ◌==◌, ◌++◌, Bool, false, List, [], Option, Some, None, Ok, if◌then◌else◌}
use Rattle.data_transfer.specs.declared.transfer.Progress.{Progress}
use Rattle.data_transfer.specs.declared.transfer.Progress.TheVariants as progress
use Rattle.data_transfer.specs.declared.transfer.Whole.{Whole}
use Rattle.data_transfer.specs.Part.{Part, begun, data_after, data_answer}
use Rattle.data_transfer.specs.Parts.{count_of, free_tag, part_at}
use Rattle.nvt_fields.specs.declared.pdu_type.PduType.TheVariants.{CapsuleCmd, H2cData}
use Rattle.pdu_cut.specs.Front.{Front, incomplete, whole, faulty}
use Rattle.target_decision.specs.declared.carry.Carried.{Carried}
use Rattle.target_decision.specs.declared.decision.Decision.{Decision}
use Rattle.target_decision.specs.declared.decision.Decision.TheVariants as decision
use Rattle.target_decision.specs.declared.transfer.WaitingCommand.{WaitingCommand}
use Rattle.target_decision.specs.Begin.{entry_at}
use Rattle.target_decision.specs.Decision.{Brought, bytes_at}
use Rattle.target_decision.specs.Transfer.{Tags, came_of, h2c_at, h2c_of}

-- ---- what becomes of the transfers

-- the command of the capsule at a front, as it waits for its data
abbrev pub waiting_at : Front → WaitingCommand
waiting_at front = record { entry = entry_at front }

abbrev pub is_tag : Option ℕ → ℕ → Bool
is_tag None t = false
is_tag (Some ttag) t = t == ttag

-- What stands under each tag after a decision on this front: an R2T begins a transfer under the least tag that is free; an
-- H2CData adds to the data that came; a reply may end one; and with the connection all end.
abbrev pub tags_after : Decision → Front → Tags → Tags
tags_after (decision.Request q) front tags t =
    if t == free_tag tags then Some (begun q.cid (waiting_at front) q.len) else tags t
tags_after (decision.Receive ttag) front tags t = if t == ttag then data_after (tags ttag) (h2c_at front) else tags t
tags_after (decision.Reply r) front tags t = if is_tag r.transfer t then None else tags t
tags_after (decision.Initialize alignment) front tags t = tags t
tags_after (decision.Wait cid) front tags t = tags t
tags_after (decision.Terminate u) front tags t = None
tags_after decision.Close front tags t = None

-- the transfers of one connection are these; those of the others stay
abbrev pub with_own : (ℕ → Tags) → ℕ → Tags → ℕ → Tags
with_own parts k tags j t = if j == k then tags t else parts j t

-- ---- what they give to it

-- the tag of the transfer that it begins
abbrev pub tag_for : Decision → Tags → ℕ
tag_for (decision.Request q) tags = free_tag tags
tag_for _ tags = 0

abbrev pub came_under : Option ℕ → Tags → List ℕ
came_under None tags = []
came_under (Some ttag) tags = came_of (tags ttag)

-- the data that came before for the command that it answers
abbrev pub came_for : Decision → Tags → List ℕ
came_for (decision.Reply r) tags = came_under r.transfer tags
came_for _ tags = []

-- .. with those that stand at the front
abbrev pub brought_by : Tags → Decision → Front → Brought
brought_by tags d front = record { ttag = tag_for d tags; bytes = came_for d tags ++ bytes_at front }

-- what was carried
abbrev pub bytes_in : Option (Whole WaitingCommand) → Front → List ℕ
bytes_in None front = bytes_at front
bytes_in (Some w) front = w.«data».items

abbrev pub brought_in : Carried → Front → Brought
brought_in c front = record { ttag = c.ttag; bytes = bytes_in c.whole front }

-- ---- what holds of it

-- an H2CData at the front has no fault, and its transfer has come so far with it
abbrev pub BringsPart : Tags → ℕ → Front → Progress → Type 0
BringsPart tags ttag (whole pdu) p = (pdu.kind ≡ H2cData) × (data_answer (tags ttag) (h2c_of pdu) ≡ Ok p)
BringsPart tags ttag incomplete p = ⊥
BringsPart tags ttag (faulty fault head) p = ⊥

abbrev pub BringsLast : Option ℕ → Tags → Front → Type 0
BringsLast None tags front = Unit {0}
BringsLast (Some ttag) tags front = BringsPart tags ttag front progress.Whole

-- a capsule stands at the front
abbrev pub IsCapsule : Front → Type 0
IsCapsule (whole pdu) = pdu.kind ≡ CapsuleCmd
IsCapsule incomplete = ⊥
IsCapsule (faulty fault head) = ⊥

-- a transfer is begun by a capsule, where one more may be; data are taken that have no fault; and one that is ended is whole with them
abbrev pub CarriesWell : Tags → Decision → Front → Type 0
CarriesWell tags (decision.Request q) front = (count_of tags < 63) × IsCapsule front
CarriesWell tags (decision.Receive ttag) front = BringsPart tags ttag front progress.More
CarriesWell tags (decision.Reply r) front = BringsLast r.transfer tags front
CarriesWell tags _ front = Unit {0}

-- what a decision on this front is carried on with: a number that a connection may have, and its transfers, of those of all
pub record CanCarry (k : ℕ) (transfers : List (List (Option (Part WaitingCommand)))) (d : Decision) (front : Front) : Type 0 where
  pub known : k < 64
  pub well : CarriesWell (part_at transfers k) d front
