-- What a change of the hosts keeps.
use Rattle.std.proofs.Common.{◌≡◌, ◌≤◌, ◌&&◌, ◌++◌, ◌∷◌, [], ℕ, Bool, true, false, not, List, All, nat_le, length, get_or, refl, sym, ◌∙◌, subst, inl, inr, arith}
use Rattle.std.proofs.lemmas.Bool.{and_cases, and_from, and_left, and_parts, both_ways, cases_Bool, cond_both, false_from_ne_true, not-false, or_left}
use Rattle.std.proofs.lemmas.Grind.{common_steps}
use Rattle.std.proofs.lemmas.List.Folds.{list_any-append}
use Rattle.std.specs.Str.{bytes_eq}
use Rattle.config_lists.specs.declared.allow.Allow.{Allow}
use Rattle.config_lists.specs.declared.host.Host.{Host}
use Rattle.config_lists.specs.declared.show.Show.{Show}
use Rattle.config_lists.specs.Lists.{changed_where}
use Rattle.config_lists.proofs.Distinct.{distinct-push}
use Rattle.config_lists.proofs.Lists.{no_item, length-changed_where, distinct-changed_where, list_any-changed_kept, list_any-changed_where}
use Rattle.config_lists.proofs.Names.{bytes_eq-same, other_name}
use Rattle.nvt_config.specs.Configuration.{Configuration, has_host, has_live_host, is_host_allowed, is_host_shown, with_host, with_live, with_new_host, without_host}
use Rattle.nvt_config.specs.Valid.{AreHosts, IsValid}
use Rattle.nvt_config.proofs.Allows.{AreAllows-elsewhere}
use Rattle.nvt_config.proofs.Shows.{AreShows-elsewhere}

AreHosts-push : (hosts : List Host) (host : Host) → AreHosts hosts → has_host hosts host.nqn ≡ false → nat_le 256 (length hosts) ≡ false → AreHosts (hosts ++ host ∷ [])
AreHosts-push hosts host valid absent room = record {
  count = grind (arith, common_steps);
  distinct = distinct-push (λ g h. g.nqn ≡ h.nqn) (λ h. bytes_eq h.nqn host.nqn) hosts host valid.distinct absent (λ h same. bytes_eq-same h.nqn host.nqn same);
}

abbrev live_set : Bool → Host → Host
live_set live h = record h { live = live }

AreHosts-set : (hosts : List Host) (nqn : List ℕ) (live : Bool) → AreHosts hosts → AreHosts (changed_where (λ h. bytes_eq h.nqn nqn) (live_set live) hosts)
AreHosts-set hosts nqn live valid =
    let named : Host → Bool = λ h. bytes_eq h.nqn nqn in
    record {
      count = subst (λ n. n ≤ 256) (sym (length-changed_where named (live_set live) hosts)) valid.count;
      distinct = distinct-changed_where (λ h. h.nqn) named (live_set live) (λ h _. refl) hosts valid.distinct;
    }

-- a host that is added changes the hosts alone
pub hosts_alone : (c : Configuration) (nqn : List ℕ) → with_host c nqn ≡ record c { hosts = (with_host c nqn).hosts }
hosts_alone c nqn = elim (cases_Bool (has_host c.hosts nqn)) [ inl back ↦ rw back refl | inr new ↦ rw new refl ]

-- what is true of a configuration stays where its hosts alone change, and those that are allowed or shown something are live
with_hosts : (c : Configuration) (hosts : List Host) → IsValid c → AreHosts hosts → All (λ a. has_live_host c.hosts a.host ≡ true → has_live_host hosts a.host ≡ true) c.allows
    → All (λ s. has_live_host c.hosts s.host ≡ true → has_live_host hosts s.host ≡ true) c.shows → IsValid (record c { hosts = hosts })
with_hosts c hosts valid sound allowed shown = record {
  disks = valid.disks;
  subsystems = valid.subsystems;
  namespaces = valid.namespaces;
  ports = valid.ports;
  links = valid.links;
  hosts = sound;
  allows = AreAllows-elsewhere c.subsystems c.subsystems c.hosts hosts c.allows (λ _ _ _ there. there) allowed valid.allows;
  states = valid.states;
  referrals = valid.referrals;
  shows = AreShows-elsewhere c.namespaces c.namespaces c.hosts hosts c.shows (λ _ _ _ there. there) shown valid.shows;
}

-- hosts that are made live are live
still_live : (hosts : List Host) (nqn name : List ℕ) → has_live_host hosts name ≡ true → has_live_host (changed_where (λ h. bytes_eq h.nqn nqn) (live_set true) hosts) name ≡ true
still_live hosts nqn name =
    list_any-changed_kept (λ h. bytes_eq h.nqn name && h.live) (λ h. bytes_eq h.nqn nqn) (live_set true) (λ h _ live. and_from (bytes_eq h.nqn name) true (and_parts (bytes_eq h.nqn name) h.live live).0 refl) hosts

IsValid-coming_back : (c : Configuration) (nqn : List ℕ) → IsValid c → IsValid (with_live c nqn true)
IsValid-coming_back c nqn valid =
    let hosts : List Host = changed_where (λ h. bytes_eq h.nqn nqn) (live_set true) c.hosts in
    with_hosts c hosts valid (AreHosts-set c.hosts nqn true valid.hosts)
    (λ k d _. still_live c.hosts nqn (get_or c.allows k d).host)
    (λ k d _. still_live c.hosts nqn (get_or c.shows k d).host)

live_beside : (hosts : List Host) (host : Host) (name : List ℕ) → has_live_host hosts name ≡ true → has_live_host (hosts ++ host ∷ []) name ≡ true
live_beside hosts host name there =
    list_any-append (λ h. bytes_eq h.nqn name && h.live) hosts (host ∷ []) ∙ or_left (has_live_host hosts name) _ there

IsValid-with_new_host : (c : Configuration) (host : Host) → IsValid c → has_host c.hosts host.nqn ≡ false → nat_le 256 (length c.hosts) ≡ false → IsValid (with_new_host c host)
IsValid-with_new_host c host valid absent room =
    let hosts : List Host = c.hosts ++ host ∷ [] in
    with_hosts c hosts valid (AreHosts-push c.hosts host valid.hosts absent room)
    (λ k d _. live_beside c.hosts host (get_or c.allows k d).host)
    (λ k d _. live_beside c.hosts host (get_or c.shows k d).host)

-- a new name has room
room_for : (hosts : List Host) (nqn : List ℕ) → (not (has_host hosts nqn) && nat_le 256 (length hosts)) ≡ false → has_host hosts nqn ≡ false → nat_le 256 (length hosts) ≡ false
room_for hosts nqn fits absent = elim (and_cases (not (has_host hosts nqn)) (nat_le 256 (length hosts)) fits) [
  | inl known ↦ absurd (both_ways (has_host hosts nqn) absent (not-false (has_host hosts nqn) known))
  | inr room ↦ room
]

pub IsValid-with_host : (c : Configuration) (nqn : List ℕ) → IsValid c → (not (has_host c.hosts nqn) && nat_le 256 (length c.hosts)) ≡ false → IsValid (with_host c nqn)
IsValid-with_host c nqn valid fits =
    let new : Host = record { nqn = nqn; live = true } in
    cond_both (has_host c.hosts nqn) (with_live c nqn true) (with_new_host c new) IsValid
    (λ _. IsValid-coming_back c nqn valid)
    (λ absent. IsValid-with_new_host c new valid absent (room_for c.hosts nqn fits absent))

-- a host that goes is no other
other_live : (hosts : List Host) (nqn name : List ℕ) → bytes_eq name nqn ≡ false → has_live_host (changed_where (λ h. bytes_eq h.nqn nqn) (live_set false) hosts) name ≡ has_live_host hosts name
other_live hosts nqn name differ =
    list_any-changed_where (λ h. bytes_eq h.nqn name && h.live) (λ h. bytes_eq h.nqn nqn) (live_set false) (λ h same.
    let other : bytes_eq h.nqn name ≡ false = false_from_ne_true (bytes_eq h.nqn name) (λ also. both_ways (bytes_eq h.nqn nqn) (other_name h.nqn nqn name differ also) same) in
    and_left (bytes_eq h.nqn name) false other ∙ sym (and_left (bytes_eq h.nqn name) h.live other)) hosts

pub IsValid-without_host : (c : Configuration) (nqn : List ℕ) → IsValid c → is_host_allowed c.allows nqn ≡ false → is_host_shown c.shows nqn ≡ false → IsValid (without_host c nqn)
IsValid-without_host c nqn valid free unshown =
    let hosts : List Host = changed_where (λ h. bytes_eq h.nqn nqn) (live_set false) c.hosts in
    with_hosts c hosts valid (AreHosts-set c.hosts nqn false valid.hosts)
    (λ k d below there.
    let allow : Allow = get_or c.allows k d in
    let differ : bytes_eq allow.host nqn ≡ false = no_item (λ a. bytes_eq a.host nqn) c.allows k d free below in
    other_live c.hosts nqn allow.host differ ∙ there)
    (λ k d below there.
    let show : Show = get_or c.shows k d in
    let differ : bytes_eq show.host nqn ≡ false = no_item (λ s. bytes_eq s.host nqn) c.shows k d unshown below in
    other_live c.hosts nqn show.host differ ∙ there)
