-- The records that a configuration shows to a host: one for each subsystem and port that the host may
-- use, by the port's number and then by the subsystem's name, and then the referrals by their number (Base
-- 2.0, section 5.16.1.23).
use Rattle.std.specs.Prelude.{ℕ, nat_lt, List, ◌++◌, map, filter}
use Rattle.std.specs.List.{flat_map}
use Rattle.config_lists.specs.declared.port.Port.{Port}
use Rattle.config_lists.specs.declared.subsystem.Subsystem.{Subsystem}
use Rattle.nvt_config.specs.Configuration.{Configuration}
use Rattle.nvt_config.specs.Permission.{may_use}
use Rattle.nvt_fields.specs.Name.{discovery_nqn}
use Rattle.discovery_view.specs.declared.record.Subtype.{Subtype}
use Rattle.discovery_view.specs.declared.record.Subtype.TheVariants.{Referral, NvmSubsystem}
use Rattle.discovery_view.specs.Order.{in_order, name_below}
use Rattle.discovery_view.specs.Record.{Parts}

abbrev pub ports_in_order : Configuration → List Port
ports_in_order c = in_order (λ p q. nat_lt p.id q.id) c.ports

abbrev pub subsystems_in_order : Configuration → List Subsystem
subsystems_in_order c = in_order (λ s t. name_below s.nqn t.nqn) c.subsystems

abbrev pub referrals_in_order : Configuration → List Port
referrals_in_order c = in_order (λ p q. nat_lt p.id q.id) c.referrals

-- what is reached on a port, by its name
abbrev pub parts_on : Subtype → Port → List ℕ → Parts
parts_on subtype port nqn = record {
  subtype = subtype;
  family = port.family;
  port = port.id;
  service = port.service;
  nqn = nqn;
  address = port.address;
}

abbrev pub parts_of : Port → Subsystem → Parts
parts_of port subsystem = parts_on NvmSubsystem port subsystem.nqn

-- a referral has the discovery subsystem's name
abbrev pub referral_of : Port → Parts
referral_of port = parts_on Referral port discovery_nqn

-- those of one port, among these subsystems
abbrev pub records_among : Configuration → List ℕ → Port → List Subsystem → List Parts
records_among c host port subsystems = map (parts_of port) (filter (λ s. may_use c host s.nqn port.id) subsystems)

-- those of one port
abbrev pub records_on : Configuration → List ℕ → Port → List Parts
records_on c host port = records_among c host port (subsystems_in_order c)

abbrev pub records_of : Configuration → List ℕ → List Parts
records_of c host =
    flat_map (records_on c host) (ports_in_order c) ++ map referral_of (referrals_in_order c)
