-- Which records a page has, and in which order (Base 2.0, section 5.16.1.23).
use Rattle.std.specs.Prelude.{◌≡◌, ◌<◌, ◌⊎◌, ◌↔◌, ℕ, List, AllPairs, Contains, IsTrue}
use Rattle.config_lists.specs.declared.port.Port.{Port}
use Rattle.config_lists.specs.declared.subsystem.Subsystem.{Subsystem}
use Rattle.nvt_config.specs.Configuration.{Configuration}
use Rattle.nvt_config.specs.Valid.{IsValid}
use Rattle.nvt_config.specs.Permission.{may_use}
use Rattle.discovery_view.specs.declared.record.Subtype.TheVariants.{Referral, NvmSubsystem}
use Rattle.discovery_view.specs.Order.{name_below}
use Rattle.discovery_view.specs.Record.{Parts}
use Rattle.discovery_view.specs.Records.{parts_of, records_of, referral_of}

-- subsystems come before referrals; of two of one kind the port's number is below the other's, or is the same
-- and the subsystem's name is below
abbrev pub IsBefore : Parts → Parts → Type 0
IsBefore p q =
    ((p.subtype ≡ NvmSubsystem) × (q.subtype ≡ Referral))
    ⊎ ((p.subtype ≡ q.subtype)
    × ((p.port < q.port) ⊎ ((p.port ≡ q.port) × IsTrue (name_below p.nqn q.nqn))))

-- the record is that of a subsystem on a port, both of the configuration, which the host may use
abbrev pub IsServed : Configuration → List ℕ → Parts → Type 0
IsServed c host p =
    (port : Port) × (subsystem : Subsystem) × Contains c.ports port × Contains c.subsystems subsystem
    × IsTrue (may_use c host subsystem.nqn port.id) × (p ≡ parts_of port subsystem)

-- the record is that of a referral of the configuration
abbrev pub IsReferral : Configuration → Parts → Type 0
IsReferral c p = (referral : Port) × Contains c.referrals referral × (p ≡ referral_of referral)

abbrev pub IsShown : Configuration → List ℕ → Parts → Type 0
IsShown c host p = IsServed c host p ⊎ IsReferral c p

-- the records are those, each before the ones after it, and so none twice
pub record IsListing (c : Configuration) (host : List ℕ) (records : List Parts) : Type 0 where
  pub rising : AllPairs IsBefore records
  pub shown : (p : Parts) → Contains records p ↔ IsShown c host p

abbrev pub RecordsAreListed : Type 0
RecordsAreListed = (c : Configuration) (host : List ℕ) → IsValid c → IsListing c host (records_of c host)
