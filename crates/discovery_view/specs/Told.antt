-- What records tell, and their bytes.
use Rattle.std.specs.Prelude.{◌≡◌, ◌≢◌, ◌↔◌, ℕ, true, List, All, length, map}
use Rattle.std.specs.List.{flat_map}
use Rattle.nvt_config.specs.Configuration.{Configuration}
use Rattle.nvt_config.specs.Valid.{IsValid}
use Rattle.nvt_fields.specs.Name.{IsName}
use Rattle.discovery_view.specs.Record.{Parts, record_of, same_records}
use Rattle.discovery_view.specs.Records.{records_of}
use Rattle.discovery_view.specs.View.{changes_records}

-- a configuration as its type has it: valid, with a well-formed name of each subsystem
pub record IsSound (c : Configuration) : Type 0 where
  pub valid : IsValid c
  pub names : All (λ subsystem. IsName subsystem.nqn) c.subsystems

-- two lists of records tell the same exactly where they have the same parts, where each record has the bytes of the
-- other, and where all their bytes in a row are the same
pub record TellByTheirBytes (ps qs : List Parts) : Type 0 where
  pub parts : (same_records ps qs ≡ true) ↔ (ps ≡ qs)
  pub records : (same_records ps qs ≡ true) ↔ (map record_of ps ≡ map record_of qs)
  pub row : (same_records ps qs ≡ true) ↔ (flat_map record_of ps ≡ flat_map record_of qs)

-- the bytes of a host's records, one after the other, as they follow the page's header
abbrev pub bytes_shown : Configuration → List ℕ → List ℕ
bytes_shown c host = flat_map record_of (records_of c host)

-- a change counts for a host where it changes the bytes of its records, and only there
pub record CountsBytes (old new : Configuration) (host : List ℕ) : Type 0 where
  pub counted : (changes_records old new host ≡ 1) ↔ (bytes_shown old host ≢ bytes_shown new host)
  pub passed : (changes_records old new host ≡ 0) ↔ (bytes_shown old host ≡ bytes_shown new host)

-- whatever two configurations hold, and whoever is shown them
pub record RecordsDifferWithTheirParts : Type 0 where
  pub sizes : (c : Configuration) (host : List ℕ) → IsSound c → All (λ p. length (record_of p) ≡ 1024) (records_of c host)
  pub told : (c d : Configuration) (host other : List ℕ) → IsSound c → IsSound d → TellByTheirBytes (records_of c host) (records_of d other)
  pub counts : (old new : Configuration) (host : List ℕ) → IsSound old → IsSound new → CountsBytes old new host
