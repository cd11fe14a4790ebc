-- The edits of hosts, of allows and of shows add them.
use Rattle.std.proofs.Common.{◌≡◌, ◌==◌, ◌++◌, ◌∷◌, [], ℕ, Bool, true, false, not, ◌&&◌, List, Ok, nat_le, length, refl, ap, sym, ◌∙◌, subst}
use Rattle.std.proofs.lemmas.Bool.{and_from, and_left, and_parts, and_right, cond-false, cond_both, eqb-true, not_from_true, or_from, or_parts}
use Rattle.std.specs.Str.{bytes_eq}
use Rattle.config_lists.specs.declared.allow.Allow.{Allow}
use Rattle.config_lists.specs.declared.host.Host.{Host}
use Rattle.config_lists.specs.declared.namespace.Namespace.{Namespace}
use Rattle.config_lists.specs.declared.show.Show.{Show}
use Rattle.config_lists.specs.Namespace.{is_named}
use Rattle.config_lists.specs.Show.{has_show, is_show_of, is_show_to}
use Rattle.config_lists.proofs.Names.{bytes_eq-same, same_name}
use Rattle.config_lists.specs.declared.edit.Edit.TheVariants.{AllowAdd, HostAdd, HostDel, NamespaceShow}
use Rattle.nvt_config.specs.Accept.{accept}
use Rattle.nvt_config.specs.Configuration.{Configuration, has_allow, has_host, has_live_host, has_namespace, has_subsystem, with_live, with_new_host}
use Rattle.nvt_config.specs.Valid.{AreAllows, AreHosts, AreShows, IsAllow, IsNamespace, IsShow, IsValid}
use Rattle.config_saved.specs.Saved.{after_all, edits_of_allow, edits_of_show, edits_of_host}
use Rattle.config_saved.proofs.Items.{changed_last, finds_last, found_sound, item_fits, item_new, item_sound}
use Rattle.config_saved.proofs.Rebuild.{AddEach, accept_where_none, after_first, after_one}
use Rattle.config_saved.proofs.Stages.{at_allows, at_hosts, at_shows}

-- ---- hosts

-- the host before it is deleted
abbrev made_live : Host → Host
made_live h = record h { live = true }

-- where no host has the name, no live one has
no_live_host : (hosts : List Host) (nqn : List ℕ) → has_host hosts nqn ≡ false → has_live_host hosts nqn ≡ false
no_live_host [] nqn absent = refl
no_live_host (h ∷ hosts) nqn absent =
    let parts = or_parts (bytes_eq h.nqn nqn) (has_host hosts nqn) absent in
    or_from (bytes_eq h.nqn nqn && h.live) (has_live_host hosts nqn) (and_left (bytes_eq h.nqn nqn) h.live parts.0) (no_live_host hosts nqn parts.1)

module _ (c : Configuration) (valid : IsValid c) (before : List Host) (h : Host) (after : List Host) (whole : before ++ h ∷ after ≡ c.hosts) where
  are : AreHosts (before ++ h ∷ after)
  are = subst AreHosts (sym whole) valid.hosts

  new_name : has_host before h.nqn ≡ false
  new_name = item_new (λ (g h : Host). g.nqn ≡ h.nqn) (λ g. bytes_eq g.nqn h.nqn) before h after are.distinct (λ g. same_name g.nqn h.nqn)

  -- it is added as one that is live
  host_added : accept (at_hosts c before) (HostAdd h.nqn) ≡ Ok (at_hosts c (before ++ made_live h ∷ []))
  host_added =
      accept_where_none (at_hosts c before) (HostAdd h.nqn) (
        no_live_host before h.nqn new_name,
        (and_right (not (has_host before h.nqn)) (nat_le 256 (length before)) (item_fits 256 before h after are.count), tt),
      )
      ∙ ap Ok (cond-false (has_host before h.nqn) (with_live (at_hosts c before) h.nqn true) (with_new_host (at_hosts c before) (made_live h)) new_name)

  -- .. and is then deleted, while nothing names it
  host_deleted : accept (at_hosts c (before ++ made_live h ∷ [])) (HostDel h.nqn) ≡ Ok (at_hosts c (before ++ record h { live = false } ∷ []))
  host_deleted =
      let set : Host → Host = λ g. record g { live = false } in
      let same : bytes_eq h.nqn h.nqn ≡ true = bytes_eq-same h.nqn h.nqn refl in
      accept_where_none (at_hosts c (before ++ made_live h ∷ [])) (HostDel h.nqn) (
        not_from_true (has_live_host (before ++ made_live h ∷ []) h.nqn) (finds_last (λ g. bytes_eq g.nqn h.nqn && g.live) before (made_live h) (and_from (bytes_eq h.nqn h.nqn) true same refl)),
        (refl, (refl, tt)),
      )
      ∙ ap (λ l. Ok (at_hosts c l)) (changed_last (λ g. bytes_eq g.nqn h.nqn) set before (made_live h) new_name same)

  edits_add_host : after_all (at_hosts c before) (edits_of_host h) ≡ Ok (at_hosts c (before ++ h ∷ []))
  edits_add_host =
      cond_both h.live [] (HostDel h.nqn ∷ []) (λ more. after_all (at_hosts c before) (HostAdd h.nqn ∷ more) ≡ Ok (at_hosts c (before ++ h ∷ [])))
      (λ live. after_one (at_hosts c before) (at_hosts c (before ++ h ∷ [])) (HostAdd h.nqn)
      (host_added ∙ ap (λ (b : Bool). Ok (at_hosts c (before ++ record h { live = b } ∷ []))) (sym live)))
      (λ gone. after_first (at_hosts c before) (at_hosts c (before ++ made_live h ∷ [])) (HostAdd h.nqn) (HostDel h.nqn ∷ []) (Ok (at_hosts c (before ++ h ∷ []))) host_added
      (after_one (at_hosts c (before ++ made_live h ∷ [])) (at_hosts c (before ++ h ∷ [])) (HostDel h.nqn)
      (host_deleted ∙ ap (λ (b : Bool). Ok (at_hosts c (before ++ record h { live = b } ∷ []))) (sym gone))))

pub hosts_added : (c : Configuration) → IsValid c → AddEach edits_of_host (at_hosts c) c.hosts
hosts_added c valid before h after whole = edits_add_host c valid before h after whole

-- ---- allows

abbrev IsSameAllow : Allow → Allow → Type 0
IsSameAllow a b = (a.subsystem ≡ b.subsystem) × (a.host ≡ b.host)

pub allows_added : (c : Configuration) → IsValid c → AddEach edits_of_allow (at_allows c) c.allows
allows_added c valid before a after whole =
    let are : AreAllows c.subsystems c.hosts (before ++ a ∷ after) = subst (AreAllows c.subsystems c.hosts) (sym whole) valid.allows in
    let sound : IsAllow c.subsystems c.hosts a = item_sound (IsAllow c.subsystems c.hosts) before a after are.sound in
    let new : has_allow before a.subsystem a.host ≡ false = item_new IsSameAllow (λ b. bytes_eq b.subsystem a.subsystem && bytes_eq b.host a.host) before a after are.distinct (λ b same.
    let parts = and_parts (bytes_eq b.subsystem a.subsystem) (bytes_eq b.host a.host) same in
    (same_name b.subsystem a.subsystem parts.0, same_name b.host a.host parts.1)) in
    after_one (at_allows c before) (at_allows c (before ++ a ∷ [])) (AllowAdd a.subsystem a.host)
    (accept_where_none (at_allows c before) (AllowAdd a.subsystem a.host) (
      not_from_true (has_subsystem c.subsystems a.subsystem) sound.subsystem,
      (
        not_from_true (has_live_host c.hosts a.host) sound.host,
        (
          new,
          (item_fits 1024 before a after are.count, tt),
        ),
      ),
    ))

-- ---- shows

-- the subsystem of a namespace that is there is there
namespace_end : (c : Configuration) → IsValid c → (nqn : List ℕ) (nsid : ℕ) → has_namespace c.namespaces nqn nsid ≡ true → has_subsystem c.subsystems nqn ≡ true
namespace_end c valid nqn nsid there =
    let found = found_sound (IsNamespace c.units c.subsystems) (is_named nqn nsid) c.namespaces valid.namespaces.sound there in
    let n : Namespace = found.0 in
    let sound : IsNamespace c.units c.subsystems n = found.1 in
    let parts = and_parts (bytes_eq n.subsystem nqn) (n.nsid == nsid) found.2 in
    subst (λ name. has_subsystem c.subsystems name ≡ true) (same_name n.subsystem nqn parts.0) sound.subsystem

abbrev IsSameShow : Show → Show → Type 0
IsSameShow s t = (s.subsystem ≡ t.subsystem) × (s.nsid ≡ t.nsid) × (s.host ≡ t.host)

same_show : (s t : Show) → is_show_to t.subsystem t.nsid t.host s ≡ true → IsSameShow s t
same_show s t same =
    let parts = and_parts (is_show_of t.subsystem t.nsid s) (bytes_eq s.host t.host) same in
    let of = and_parts (s.nsid == t.nsid) (bytes_eq s.subsystem t.subsystem) parts.0 in
    (same_name s.subsystem t.subsystem of.1, eqb-true s.nsid t.nsid of.0, same_name s.host t.host parts.1)

pub shows_added : (c : Configuration) → IsValid c → AddEach edits_of_show (at_shows c) c.shows
shows_added c valid before s after whole =
    let are : AreShows c.namespaces c.hosts (before ++ s ∷ after) = subst (AreShows c.namespaces c.hosts) (sym whole) valid.shows in
    let sound : IsShow c.namespaces c.hosts s = item_sound (IsShow c.namespaces c.hosts) before s after are.sound in
    let new : has_show before s.subsystem s.nsid s.host ≡ false = item_new IsSameShow (is_show_to s.subsystem s.nsid s.host) before s after are.distinct (λ t. same_show t s) in
    after_one (at_shows c before) (at_shows c (before ++ s ∷ [])) (NamespaceShow s.subsystem s.nsid s.host)
    (accept_where_none (at_shows c before) (NamespaceShow s.subsystem s.nsid s.host) (
      not_from_true (has_subsystem c.subsystems s.subsystem) (namespace_end c valid s.subsystem s.nsid sound.named_namespace),
      (
        not_from_true (has_namespace c.namespaces s.subsystem s.nsid) sound.named_namespace,
        (
          not_from_true (has_live_host c.hosts s.host) sound.host,
          (
            new,
            (item_fits 1024 before s after are.count, tt),
          ),
        ),
      ),
    ))
