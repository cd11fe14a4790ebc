-- The Connect of a queue (Fabrics 1.1, section 3.3).
use Rattle.std.specs.Prelude.{ℕ, List}
use Rattle.pdu_codec.specs.declared.sqe_fields.DataSgl.TheVariants.{InCapsule}
use Rattle.pdu_codec.specs.declared.sqe_fields.SqeFields.{SqeFields}
use Rattle.pdu_codec.specs.declared.command.Connect.{Connect}
use Rattle.pdu_codec.specs.CapsuleCmd.{capsule_cmd}
use Rattle.pdu_codec.specs.SqeFields.{connect_dwords}
use Rattle.pdu_codec.specs.ConnectData.{connect_data}
use Rattle.host_driver.specs.declared.params.HostParams.{HostParams}

-- its record format and attributes are 0
abbrev pub connect_fields : HostParams → Connect
connect_fields p = record { recfmt = 0; qid = p.qid; sqsize = p.sqsize; cattr = 0; kato = p.kato }

-- a Fabrics command of type 01h, command 0, with its data in the capsule
abbrev pub connect_entry : HostParams → SqeFields
connect_entry p = record {
  opcode = 127;
  cid = 0;
  nsid = 1;
  sgl1 = InCapsule 1024;
  cdw = connect_dwords (connect_fields p);
}

unfoldable pub connect_data_of : HostParams → List ℕ
connect_data_of p = connect_data p.hostid p.cntlid p.subnqn p.hostnqn

unfoldable pub connect_of : ℕ → HostParams → List ℕ
connect_of cpda p = capsule_cmd (connect_entry p) cpda (connect_data_of p)
