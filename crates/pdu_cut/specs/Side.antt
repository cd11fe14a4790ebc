-- What each side of a connection may be sent (TCP Transport 1.0, section 3.6).
use Rattle.std.specs.Prelude.{ℕ, Bool, true, false}
use Rattle.nvt_fields.specs.declared.pdu_type.PduType.{PduType}
use Rattle.nvt_fields.specs.declared.pdu_type.PduType.TheVariants.{IcReq, IcResp, H2cTermReq, C2hTermReq, CapsuleCmd, CapsuleResp, H2cData, C2hData, R2t}
use Rattle.pdu_cut.specs.declared.side.Side.{Side}
use Rattle.pdu_cut.specs.declared.side.Side.TheVariants.{Target, Host}

-- the types of PDUs that are sent to this side
abbrev pub comes_to : Side → PduType → Bool
comes_to Target IcReq = true
comes_to Target H2cTermReq = true
comes_to Target CapsuleCmd = true
comes_to Target H2cData = true
comes_to Target _ = false
comes_to Host IcResp = true
comes_to Host C2hTermReq = true
comes_to Host CapsuleResp = true
comes_to Host C2hData = true
comes_to Host R2t = true
comes_to Host _ = false

-- the bytes that a side's receive buffer has room for
abbrev pub capacity_of : Side → ℕ
capacity_of Target = 32768
capacity_of Host = 135168
