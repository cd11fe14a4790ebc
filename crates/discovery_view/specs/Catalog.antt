-- The catalog of a configuration: its records, whoever is shown them; and which of them a host is shown.
use Rattle.std.specs.Prelude.{ℕ, Bool, true, false, ◌+◌, ◌||◌, List, [], ◌∷◌, ◌++◌, map, filter, slice_index_or, if◌then◌else◌}
use Rattle.std.specs.Borrow.{Bor}
use Rattle.std.specs.List.{flat_map}
use Rattle.config_lists.specs.declared.port.Port.{Port}
use Rattle.config_lists.specs.declared.port.Family.TheVariants.{Ipv4}
use Rattle.config_lists.specs.declared.subsystem.Subsystem.{Subsystem}
use Rattle.nvt_config.specs.Configuration.{Configuration, has_allow, has_link}
use Rattle.nvt_config.specs.Permission.{is_open_subsystem}
use Rattle.discovery_view.specs.Allowed.{is_named}
use Rattle.discovery_view.specs.declared.record.Subtype.{Subtype}
use Rattle.discovery_view.specs.declared.record.Subtype.TheVariants.{Referral, NvmSubsystem}
use Rattle.discovery_view.specs.Record.{Parts}
use Rattle.discovery_view.specs.Records.{parts_of, ports_in_order, referral_of, referrals_in_order, subsystems_in_order}

-- those of the links of one port, among these subsystems
abbrev pub linked_among : Configuration → Port → List Subsystem → List Parts
linked_among c port subsystems = map (parts_of port) (filter (λ s. has_link c.links port.id s.nqn) subsystems)

-- one for each link, by the port's number and then by the subsystem's name, and then the referrals by their number
abbrev pub catalog_of : Configuration → List Parts
catalog_of c =
    flat_map (λ port. linked_among c port (subsystems_in_order c)) (ports_in_order c) ++ map referral_of (referrals_in_order c)

-- a referral is shown to each host, since allows are of subsystems and never of referrals
abbrev pub is_referral : Subtype → Bool
is_referral Referral = true
is_referral NvmSubsystem = false

-- whether every host is shown a record of the catalog: it is a referral, or the subsystem is open
abbrev pub is_for_all : Configuration → Parts → Bool
is_for_all c p = is_referral p.subtype || is_open_subsystem c.subsystems p.nqn

-- whether a host is shown a record of the catalog: it is a referral, or the subsystem is open or allows the host
abbrev pub is_shown : Configuration → List ℕ → Parts → Bool
is_shown c host p =
    is_referral p.subtype || (is_open_subsystem c.subsystems p.nqn || has_allow c.allows p.nqn host)

-- the places of those that pass, where the first has this place
abbrev pub places_from : (Parts → Bool) → ℕ → List Parts → List ℕ
places_from test place [] = []
places_from test place (p ∷ rest) =
    if test p then place ∷ places_from test (1 + place) rest else places_from test (1 + place) rest

-- the places in the catalog of the records that a host is shown
abbrev pub places_of : Configuration → List ℕ → List ℕ
places_of c host = places_from (is_shown c host) 0 (catalog_of c)

-- .. that one is shown whom the subsystems of these names allow
abbrev pub places_by : Configuration → List (Bor (List ℕ)) → List ℕ
places_by c names =
    places_from (λ p. is_referral p.subtype || (is_open_subsystem c.subsystems p.nqn || is_named names p.nqn)) 0 (catalog_of c)

-- no record
abbrev pub no_parts : Parts
no_parts = record { subtype = Referral; family = Ipv4; port = 0; service = 0; nqn = []; address = [] }

-- the records at these places
abbrev pub records_at : List Parts → List ℕ → List Parts
records_at slots places = map (λ place. slice_index_or slots place no_parts) places
