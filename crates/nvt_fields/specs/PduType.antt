-- The types of PDUs and their codes, by the table of TCP Transport 1.0, section 3.6.
use Rattle.std.specs.Prelude.{ℕ, ◌==◌, Option, Some, None, if◌then◌else◌}
use Rattle.nvt_fields.specs.declared.pdu_type.PduType.{PduType}
use Rattle.nvt_fields.specs.declared.pdu_type.PduType.TheVariants.{IcReq, IcResp, H2cTermReq, C2hTermReq, CapsuleCmd, CapsuleResp, H2cData, C2hData, R2t}

-- even codes are of PDUs that a host sends, odd ones of a controller's; `type_of_code` reads them back
abbrev pub code_of : PduType → ℕ
code_of IcReq = 0x00
code_of IcResp = 0x01
code_of H2cTermReq = 0x02
code_of C2hTermReq = 0x03
code_of CapsuleCmd = 0x04
code_of CapsuleResp = 0x05
code_of H2cData = 0x06
code_of C2hData = 0x07
code_of R2t = 0x09

-- the type that has this code
abbrev pub type_of_code : ℕ → Option PduType
type_of_code n =
    if n == 0x00 then Some IcReq else
    if n == 0x01 then Some IcResp else
    if n == 0x02 then Some H2cTermReq else
    if n == 0x03 then Some C2hTermReq else
    if n == 0x04 then Some CapsuleCmd else
    if n == 0x05 then Some CapsuleResp else
    if n == 0x06 then Some H2cData else
    if n == 0x07 then Some C2hData else
    if n == 0x09 then Some R2t else None
