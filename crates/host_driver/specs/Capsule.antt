-- The capsule of a command (Fabrics 1.1, section 2.1).
use Rattle.std.specs.Prelude.{ℕ, ◌+◌, List}
use Rattle.pdu_codec.specs.declared.sqe_fields.SqeFields.{SqeFields}
use Rattle.pdu_codec.specs.CapsuleCmd.{capsule_cmd}
use Rattle.host_driver.specs.declared.command.Data.{Data}
use Rattle.host_driver.specs.declared.command.Data.TheVariants.{InCapsule, Requested, Wanted}
use Rattle.host_driver.specs.Command.{Command, carried_by, data_of, descriptor_of}

-- the entry, with a descriptor of the data at address 0
abbrev pub capsule_entry : Command → ℕ → Data → SqeFields
capsule_entry c cid moves = record {
  opcode = c.opcode;
  cid = cid;
  nsid = c.nsid;
  sgl1 = descriptor_of moves;
  cdw = c.cdw;
}

abbrev pub capsule_with : ℕ → ℕ → Command → Data → List ℕ
capsule_with cpda cid c moves = capsule_cmd (capsule_entry c cid moves) cpda (carried_by moves c.out)

unfoldable pub capsule_of : ℕ → ℕ → ℕ → Command → List ℕ
capsule_of in_capsule cpda cid c = capsule_with cpda cid c (data_of in_capsule c)

-- the room that it needs at most
abbrev pub capsule_room : Data → ℕ
capsule_room (InCapsule len) = 200 + len
capsule_room (Requested len) = 200
capsule_room (Wanted len) = 200
