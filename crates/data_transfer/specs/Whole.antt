-- A transfer of which all data has come.
use Rattle.std.specs.Prelude.{length}
use Rattle.data_transfer.specs.declared.transfer.Whole.{Whole}
use Rattle.data_transfer.specs.Part.{Part}

module _ {C : Type 0} where
  -- the transfer that was handed out
  abbrev pub part_of : Whole C → Part C
  part_of whole = record { cid = whole.cid; command = whole.command; asked = length whole.«data».items; bytes = whole.«data».items }
