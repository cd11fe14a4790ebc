use Rattle.std.proofs.Common.{◌≡◌, ◌+◌, filter, length, map, take}
use Rattle.std.specs.Option.{option_copied}
use Rattle.config_lists.specs.Namespace.{is_named, nsid_max}
use Rattle.config_lists.specs.Show.{is_seen}
use Rattle.config_lists.specs.Nsids.{nsids_in}
use Rattle.config_lists.specs.Tables.{IsTable}
use Rattle.config_lists.proofs.namespaces.set_places.Given as goal

-- the table is that of the namespaces so far, and so are the identifiers taken
abbrev pub invariant-loop-namespace : goal.invariant-loop-namespace
invariant-loop-namespace l = record {
  table : IsTable (is_named l.subsystem) (filter (is_seen l.fn.shows l.host) (take l.namespace-index l.namespaces)) l.places;
  taken : l.taken ≡ nsids_in (map option_copied l.places);
  len : length l.places ≡ nsid_max + 1;
}
