-- The saved edits of a configuration make an equal one.
use Rattle.std.proofs.Common.{◌≡◌, flat_map, Ok}
use Rattle.nvt_config.specs.Configuration.{Configuration, disks_alone}
use Rattle.nvt_config.specs.Valid.{IsValid}
use Rattle.config_saved.specs.Saved.{after_all, edits_of_allow, edits_of_link, edits_of_port, edits_of_referral, edits_of_show, edits_of_state, edits_of_subsystem, edits_of_host, edits_of_namespace, saved_edits}
use Rattle.config_saved.proofs.Guests.{allows_added, hosts_added, shows_added}
use Rattle.config_saved.proofs.Listening.{links_added, ports_added, referrals_added, states_added}
use Rattle.config_saved.proofs.Rebuild.{after_both, after_each}
use Rattle.config_saved.proofs.Stages.{at_allows, at_hosts, at_links, at_namespaces, at_ports, at_referrals, at_shows, at_states, at_subsystems}
use Rattle.config_saved.proofs.Storage.{namespaces_added, subsystems_added}

pub saved_gives_equal : (c : Configuration) → IsValid c → after_all (disks_alone c.units) (saved_edits c) ≡ Ok c
saved_gives_equal c valid =
    after_both (disks_alone c.units) (at_subsystems c c.subsystems) (flat_map edits_of_subsystem c.subsystems) _ (Ok c) (after_each edits_of_subsystem (at_subsystems c) c.subsystems (subsystems_added c valid))
    (after_both (at_subsystems c c.subsystems) (at_namespaces c c.namespaces) (flat_map edits_of_namespace c.namespaces) _ (Ok c) (after_each edits_of_namespace (at_namespaces c) c.namespaces (namespaces_added c valid))
    (after_both (at_namespaces c c.namespaces) (at_ports c c.ports) (flat_map edits_of_port c.ports) _ (Ok c) (after_each edits_of_port (at_ports c) c.ports (ports_added c valid))
    (after_both (at_ports c c.ports) (at_links c c.links) (flat_map edits_of_link c.links) _ (Ok c) (after_each edits_of_link (at_links c) c.links (links_added c valid))
    (after_both (at_links c c.links) (at_states c c.states) (flat_map edits_of_state c.states) _ (Ok c) (after_each edits_of_state (at_states c) c.states (states_added c valid))
    (after_both (at_states c c.states) (at_hosts c c.hosts) (flat_map edits_of_host c.hosts) _ (Ok c) (after_each edits_of_host (at_hosts c) c.hosts (hosts_added c valid))
    (after_both (at_hosts c c.hosts) (at_allows c c.allows) (flat_map edits_of_allow c.allows) _ (Ok c) (after_each edits_of_allow (at_allows c) c.allows (allows_added c valid))
    (after_both (at_allows c c.allows) (at_shows c c.shows) (flat_map edits_of_show c.shows) (flat_map edits_of_referral c.referrals) (Ok c) (after_each edits_of_show (at_shows c) c.shows (shows_added c valid))
    (after_each edits_of_referral (at_referrals c) c.referrals (referrals_added c valid)))))))))
