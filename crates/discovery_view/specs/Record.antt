-- A record of the discovery log page (Base 2.0, section 5.16.1.23; TCP Transport 1.0, section 3.1).
use Rattle.std.specs.Prelude.{ℕ, Bool, ◌==◌, ◌&&◌, List, ◌∷◌, ◌++◌, replicate}
use Rattle.std.specs.Fmt.{decimal}
use Rattle.std.specs.Int.{w16, to_le_bytes}
use Rattle.std.specs.Str.{bytes_eq}
use lib.Pointwise.{pointwise}
use Rattle.config_lists.specs.declared.port.Family.{Family}
use Rattle.config_lists.specs.declared.port.Family.TheVariants.{Ipv4, Ipv6}
use Rattle.nvt_fields.specs.Field.{padded}
use Rattle.discovery_view.specs.declared.record.Subtype.{Subtype}
use Rattle.discovery_view.specs.declared.record.Subtype.TheVariants.{Referral, NvmSubsystem}

-- what the record tells: what it leads to, the address's family, the port's number, the TCP port number
-- where it listens, the subsystem's name, the address
pub record Parts : Type 0 where
  pub subtype : Subtype
  pub family : Family
  pub port : ℕ
  pub service : ℕ
  pub nqn : List ℕ
  pub address : List ℕ

-- SUBTYPE
abbrev pub subtype_code : Subtype → ℕ
subtype_code Referral = 1
subtype_code NvmSubsystem = 2

-- ADRFAM
abbrev pub family_code : Family → ℕ
family_code Ipv4 = 1
family_code Ipv6 = 2

-- The 1,024 bytes: TRTYPE 3 (TCP), ADRFAM, SUBTYPE, TREQ 0, PORTID, CNTLID FFFFh (any
-- controller), ASQSZ 32, TRSVCID from byte 32, SUBNQN from 256, TRADDR from 512, TSAS 0 from 768. Texts are
-- padded with spaces and names with zeros.
unfoldable pub record_of : Parts → List ℕ
record_of p =
    3 ∷ family_code p.family ∷ subtype_code p.subtype ∷ 0 ∷ to_le_bytes w16 p.port ++ to_le_bytes w16 0xFFFF ++ to_le_bytes w16 32
    ++ replicate 22 0 ++ padded 32 0x20 (decimal p.service) ++ replicate 192 0 ++ padded 256 0 p.nqn
    ++ padded 256 0x20 p.address ++ replicate 256 0

-- whether two records tell the same
abbrev pub same_parts : Parts → Parts → Bool
same_parts p q =
    (subtype_code p.subtype == subtype_code q.subtype) && ((family_code p.family == family_code q.family)
    && ((p.port == q.port) && ((p.service == q.service) && (bytes_eq p.nqn q.nqn && bytes_eq p.address q.address))))

abbrev pub same_records : List Parts → List Parts → Bool
same_records ps qs = pointwise same_parts ps qs
