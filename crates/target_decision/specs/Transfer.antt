-- The transfers of one connection: what stands under each tag (TTAG), and what an H2CData brings to them.
use Rattle.std.specs.Prelude.{ℕ, List, [], Option, Some, None}
use Rattle.data_transfer.specs.Part.{H2cData, Part, h2c_data}
use Rattle.data_transfer.specs.Parts.{part_at}
use Rattle.pdu_codec.specs.declared.data_head.DataHead.{DataHead}
use Rattle.pdu_codec.specs.DataHead.{data_head_of}
use Rattle.pdu_cut.specs.Front.{Front, incomplete, whole, faulty}
use Rattle.pdu_cut.specs.Pdu.{Pdu, data_part, header_part}
use Rattle.target_decision.specs.declared.transfer.OwnTransfers.{OwnTransfers}
use Rattle.target_decision.specs.declared.transfer.WaitingCommand.{WaitingCommand}

abbrev pub Tags : Type 0
Tags = ℕ → Option (Part WaitingCommand)

-- the transfers that are lent
abbrev pub tags_in : OwnTransfers → Tags
tags_in own = part_at own.transfers.now own.connection

-- no transfer
abbrev pub no_tags : Tags
no_tags ttag = None

-- ---- an H2CData

abbrev pub head_in : Pdu → DataHead
head_in pdu = data_head_of (header_part pdu)

-- what an H2CData of this head brings
abbrev pub carried_by : DataHead → List ℕ → H2cData
carried_by head bytes = h2c_data head.cccid head.datao head.datal bytes

abbrev pub h2c_of : Pdu → H2cData
h2c_of pdu = carried_by (head_in pdu) (data_part pdu)

-- .. at a front
abbrev pub h2c_at : Front → H2cData
h2c_at (whole pdu) = h2c_of pdu
h2c_at incomplete = h2c_data 0 0 0 []
h2c_at (faulty fault head) = h2c_data 0 0 0 []

-- the data that came for a transfer, where it is there
abbrev pub came_of : Option (Part WaitingCommand) → List ℕ
came_of None = []
came_of (Some part) = part.bytes
