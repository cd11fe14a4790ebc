-- The configuration so far: a list as far as it was added, those before it whole, and no item of those after it.
use Rattle.std.proofs.Common.{List}
use Rattle.config_lists.specs.declared.allow.Allow.{Allow}
use Rattle.config_lists.specs.declared.group_state.GroupState.{GroupState}
use Rattle.config_lists.specs.declared.host.Host.{Host}
use Rattle.config_lists.specs.declared.link.Link.{Link}
use Rattle.config_lists.specs.declared.namespace.Namespace.{Namespace}
use Rattle.config_lists.specs.declared.port.Port.{Port}
use Rattle.config_lists.specs.declared.show.Show.{Show}
use Rattle.config_lists.specs.declared.subsystem.Subsystem.{Subsystem}
use Rattle.nvt_config.specs.Configuration.{Configuration, disks_alone}

module _ (c : Configuration) where
  abbrev pub at_subsystems : List Subsystem → Configuration
  at_subsystems subsystems = record (disks_alone c.units) { subsystems = subsystems }

  abbrev pub at_namespaces : List Namespace → Configuration
  at_namespaces namespaces = record (at_subsystems c.subsystems) { namespaces = namespaces }

  abbrev pub at_ports : List Port → Configuration
  at_ports ports = record (at_namespaces c.namespaces) { ports = ports }

  abbrev pub at_links : List Link → Configuration
  at_links links = record (at_ports c.ports) { links = links }

  abbrev pub at_states : List GroupState → Configuration
  at_states states = record (at_links c.links) { states = states }

  abbrev pub at_hosts : List Host → Configuration
  at_hosts hosts = record (at_states c.states) { hosts = hosts }

  abbrev pub at_allows : List Allow → Configuration
  at_allows allows = record (at_hosts c.hosts) { allows = allows }

  abbrev pub at_shows : List Show → Configuration
  at_shows shows = record (at_allows c.allows) { shows = shows }

  abbrev pub at_referrals : List Port → Configuration
  at_referrals referrals = record (at_shows c.shows) { referrals = referrals }
