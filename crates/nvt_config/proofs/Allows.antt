-- What a change of the allows keeps.
use Rattle.std.proofs.Common.{◌≡◌, ◌&&◌, ◌++◌, ◌∷◌, [], ℕ, Bool, true, false, not, List, All, nat_le, length, get_or, arith}
use Rattle.std.proofs.lemmas.Bool.{and_from}
use Rattle.std.proofs.lemmas.Grind.{common_steps}
use Rattle.std.proofs.lemmas.List.Elements.{All-push, All-filter}
use Rattle.std.proofs.lemmas.List.Kept.{AllPairs-filter}
use Rattle.std.specs.Str.{bytes_eq}
use Rattle.config_lists.specs.declared.allow.Allow.{Allow}
use Rattle.config_lists.specs.declared.host.Host.{Host}
use Rattle.config_lists.specs.declared.subsystem.Subsystem.{Subsystem}
use Rattle.config_lists.specs.Lists.{without}
use Rattle.config_lists.proofs.Distinct.{distinct-push}
use Rattle.config_lists.proofs.Lists.{length-without}
use Rattle.config_lists.proofs.Names.{bytes_eq-same}
use Rattle.nvt_config.specs.Configuration.{Configuration, has_allow, has_live_host, has_subsystem, with_allow, without_allow}
use Rattle.nvt_config.specs.Valid.{AreAllows, IsAllow, IsValid}

-- two allows of the same subsystem and host
abbrev IsSameAllow : Allow → Allow → Type 0
IsSameAllow a b = (a.subsystem ≡ b.subsystem) × (a.host ≡ b.host)

-- where each of the subsystems and of the live hosts that they name stays
pub AreAllows-elsewhere : (ss ts : List Subsystem) (gs hs : List Host) (allows : List Allow) → All (λ a. has_subsystem ss a.subsystem ≡ true → has_subsystem ts a.subsystem ≡ true) allows → All (λ a. has_live_host gs a.host ≡ true → has_live_host hs a.host ≡ true) allows → AreAllows ss gs allows → AreAllows ts hs allows
AreAllows-elsewhere ss ts gs hs allows subsystems hosts valid = record {
  count = valid.count;
  sound = λ k d below.
      let old : IsAllow ss gs (get_or allows k d) = valid.sound k d below in
      record { subsystem = subsystems k d below old.subsystem; host = hosts k d below old.host };
  distinct = valid.distinct;
}

AreAllows-push : (ss : List Subsystem) (hs : List Host) (allows : List Allow) (a : Allow) → AreAllows ss hs allows → IsAllow ss hs a → has_allow allows a.subsystem a.host ≡ false → nat_le 1024 (length allows) ≡ false → AreAllows ss hs (allows ++ a ∷ [])
AreAllows-push ss hs allows a valid sound absent room = record {
  count = grind (arith, common_steps);
  sound = All-push (IsAllow ss hs) allows a valid.sound sound;
  distinct = distinct-push IsSameAllow (λ b. bytes_eq b.subsystem a.subsystem && bytes_eq b.host a.host) allows a valid.distinct absent (λ b same.
      and_from (bytes_eq b.subsystem a.subsystem) (bytes_eq b.host a.host) (bytes_eq-same b.subsystem a.subsystem same.0) (bytes_eq-same b.host a.host same.1));
}

AreAllows-without : (ss : List Subsystem) (hs : List Host) (allows : List Allow) (test : Allow → Bool) → AreAllows ss hs allows → AreAllows ss hs (without test allows)
AreAllows-without ss hs allows test valid = record {
  count = omega (arith, length-without test allows, valid.count);
  sound = All-filter (λ a. not (test a)) (IsAllow ss hs) allows valid.sound;
  distinct = AllPairs-filter (λ a b. ¬ IsSameAllow a b) (λ a. not (test a)) allows valid.distinct;
}

-- what is true of a configuration stays where its allows alone change
with_allows : (c : Configuration) (allows : List Allow) → IsValid c → AreAllows c.subsystems c.hosts allows → IsValid (record c { allows = allows })
with_allows c allows valid sound = record {
  disks = valid.disks;
  subsystems = valid.subsystems;
  namespaces = valid.namespaces;
  ports = valid.ports;
  links = valid.links;
  hosts = valid.hosts;
  allows = sound;
  states = valid.states;
  referrals = valid.referrals;
  shows = valid.shows;
}

pub IsValid-with_allow : (c : Configuration) (allow : Allow) → IsValid c → has_subsystem c.subsystems allow.subsystem ≡ true → has_live_host c.hosts allow.host ≡ true → has_allow c.allows allow.subsystem allow.host ≡ false → nat_le 1024 (length c.allows) ≡ false → IsValid (with_allow c allow)
IsValid-with_allow c allow valid subsystem host absent room =
    with_allows c (c.allows ++ allow ∷ []) valid (AreAllows-push c.subsystems c.hosts c.allows allow valid.allows (record { subsystem = subsystem; host = host }) absent room)

pub IsValid-without_allow : (c : Configuration) (nqn host : List ℕ) → IsValid c → IsValid (without_allow c nqn host)
IsValid-without_allow c nqn host valid =
    let goes : Allow → Bool = λ a. bytes_eq a.subsystem nqn && bytes_eq a.host host in
    with_allows c (without goes c.allows) valid (AreAllows-without c.subsystems c.hosts c.allows goes valid.allows)
