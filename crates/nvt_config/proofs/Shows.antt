-- What a change of the shows keeps.
use Rattle.std.proofs.Common.{◌≡◌, ◌==◌, ◌++◌, ◌∷◌, [], ℕ, Bool, true, false, not, List, All, nat_le, length, get_or, arith}
use Rattle.std.proofs.lemmas.Bool.{and_from, eq-eqb}
use Rattle.std.proofs.lemmas.Grind.{common_steps}
use Rattle.std.proofs.lemmas.List.Elements.{All-push, All-filter}
use Rattle.std.proofs.lemmas.List.Kept.{AllPairs-filter}
use Rattle.std.specs.Str.{bytes_eq}
use Rattle.config_lists.specs.declared.host.Host.{Host}
use Rattle.config_lists.specs.declared.namespace.Namespace.{Namespace}
use Rattle.config_lists.specs.declared.show.Show.{Show}
use Rattle.config_lists.specs.Lists.{without}
use Rattle.config_lists.specs.Show.{has_show, is_show_of, is_show_to}
use Rattle.config_lists.proofs.Distinct.{distinct-push}
use Rattle.config_lists.proofs.Lists.{length-without}
use Rattle.config_lists.proofs.Names.{bytes_eq-same}
use Rattle.nvt_config.specs.Configuration.{Configuration, has_live_host, has_namespace, with_show, without_show}
use Rattle.nvt_config.specs.Valid.{AreShows, IsShow, IsValid}

-- two shows of the same namespace to the same host
abbrev IsSameShow : Show → Show → Type 0
IsSameShow a b = (a.subsystem ≡ b.subsystem) × (a.nsid ≡ b.nsid) × (a.host ≡ b.host)

-- where each of the namespaces and of the live hosts that they name stays
pub AreShows-elsewhere : (ms ns : List Namespace) (gs hs : List Host) (shows : List Show)
    → All (λ s. has_namespace ms s.subsystem s.nsid ≡ true → has_namespace ns s.subsystem s.nsid ≡ true) shows
    → All (λ s. has_live_host gs s.host ≡ true → has_live_host hs s.host ≡ true) shows → AreShows ms gs shows → AreShows ns hs shows
AreShows-elsewhere ms ns gs hs shows namespaces hosts valid = record {
  count = valid.count;
  sound = λ k d below.
      let old : IsShow ms gs (get_or shows k d) = valid.sound k d below in
      record { named_namespace = namespaces k d below old.named_namespace; host = hosts k d below old.host };
  distinct = valid.distinct;
}

is_same_show : (s t : Show) → IsSameShow t s → is_show_to s.subsystem s.nsid s.host t ≡ true
is_same_show s t same =
    and_from (is_show_of s.subsystem s.nsid t) (bytes_eq t.host s.host)
    (and_from (t.nsid == s.nsid) (bytes_eq t.subsystem s.subsystem) (eq-eqb t.nsid s.nsid same.1) (bytes_eq-same t.subsystem s.subsystem same.0))
    (bytes_eq-same t.host s.host same.2)

AreShows-push : (ns : List Namespace) (hs : List Host) (shows : List Show) (s : Show) → AreShows ns hs shows → IsShow ns hs s
    → has_show shows s.subsystem s.nsid s.host ≡ false → nat_le 1024 (length shows) ≡ false → AreShows ns hs (shows ++ s ∷ [])
AreShows-push ns hs shows s valid sound absent room = record {
  count = grind (arith, common_steps);
  sound = All-push (IsShow ns hs) shows s valid.sound sound;
  distinct = distinct-push IsSameShow (is_show_to s.subsystem s.nsid s.host) shows s valid.distinct absent (is_same_show s);
}

pub AreShows-without : (ns : List Namespace) (hs : List Host) (shows : List Show) (test : Show → Bool) → AreShows ns hs shows → AreShows ns hs (without test shows)
AreShows-without ns hs shows test valid = record {
  count = omega (arith, length-without test shows, valid.count);
  sound = All-filter (λ s. not (test s)) (IsShow ns hs) shows valid.sound;
  distinct = AllPairs-filter (λ s t. ¬ IsSameShow s t) (λ s. not (test s)) shows valid.distinct;
}

-- what is true of a configuration stays where its shows alone change
with_shows : (c : Configuration) (shows : List Show) → IsValid c → AreShows c.namespaces c.hosts shows → IsValid (record c { shows = shows })
with_shows c shows valid sound = record {
  disks = valid.disks;
  subsystems = valid.subsystems;
  namespaces = valid.namespaces;
  ports = valid.ports;
  links = valid.links;
  hosts = valid.hosts;
  allows = valid.allows;
  states = valid.states;
  referrals = valid.referrals;
  shows = sound;
}

pub IsValid-with_show : (c : Configuration) (show : Show) → IsValid c → has_namespace c.namespaces show.subsystem show.nsid ≡ true → has_live_host c.hosts show.host ≡ true
    → has_show c.shows show.subsystem show.nsid show.host ≡ false → nat_le 1024 (length c.shows) ≡ false → IsValid (with_show c show)
IsValid-with_show c show valid there live absent room =
    with_shows c (c.shows ++ show ∷ []) valid (AreShows-push c.namespaces c.hosts c.shows show valid.shows (record { named_namespace = there; host = live }) absent room)

pub IsValid-without_show : (c : Configuration) (nqn : List ℕ) (nsid : ℕ) (host : List ℕ) → IsValid c → IsValid (without_show c nqn nsid host)
IsValid-without_show c nqn nsid host valid =
    let goes : Show → Bool = is_show_to nqn nsid host in
    with_shows c (without goes c.shows) valid (AreShows-without c.namespaces c.hosts c.shows goes valid.shows)
