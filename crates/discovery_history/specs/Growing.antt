-- The discovery log page of a host, after each event of a target's history.
use Rattle.std.specs.Prelude.{ℕ, ◌-◌, ◌%◌, ◌^◌, List, length, drop, map}
use Rattle.discovery_view.specs.Record.{record_of}
use Rattle.discovery_view.specs.Records.{records_of}
use Rattle.host_pages.specs.Moments.{Page}
use Rattle.target_history.specs.Event.{Event}
use Rattle.target_history.specs.History.{Opening, config_of, generation_of, happened}
use Rattle.target_history.specs.Occurrence.{Occurrence}

-- the first so many of the events, of which the newest stands first, with what each met
abbrev pub happened_by : Opening → List Event → ℕ → List Occurrence
happened_by disks events n = happened disks (drop (length events - n) events)

-- what its page has then, and how often its records had changed
abbrev pub page_at : Opening → List Event → List ℕ → ℕ → Page
page_at disks events host n = record {
  genctr = generation_of disks (happened_by disks events n) host % 2 ^ 64;
  records = map record_of (records_of (config_of disks (happened_by disks events n)) host);
}

abbrev pub changes_at : Opening → List Event → List ℕ → ℕ → ℕ
changes_at disks events host n = generation_of disks (happened_by disks events n) host
