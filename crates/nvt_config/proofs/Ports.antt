-- What a change of the ports, or of the referrals, keeps.
use Rattle.std.proofs.Common.{◌≡◌, ◌≢◌, ◌≤◌, ◌==◌, ◌++◌, ◌∷◌, [], ℕ, Bool, true, false, not, List, IsTrue, nat_le, length, get_or, sym, ◌∙◌, subst, ap, arith}
use Rattle.std.proofs.lemmas.Bool.{eq-eqb, eqb-true, or_left}
use Rattle.std.proofs.lemmas.Grind.{common_steps}
use Rattle.std.proofs.lemmas.List.Elements.{All-push, All-filter}
use Rattle.std.proofs.lemmas.List.Folds.{list_any-append}
use Rattle.std.proofs.lemmas.List.Kept.{AllPairs-filter}
use Rattle.config_lists.specs.declared.link.Link.{Link}
use Rattle.config_lists.specs.declared.port.Port.{Port}
use Rattle.config_lists.specs.Port.{is_port}
use Rattle.config_lists.proofs.Distinct.{distinct-push}
use Rattle.config_lists.proofs.Lists.{no_item, length-without, length-changed_where, All-changed_where, distinct-changed_where, list_any-changed_where, list_any-without}
use Rattle.nvt_config.specs.Configuration.{Configuration, has_port, is_port_linked, ports_set, ports_without, with_port, with_port_set, with_referral, with_referral_set, without_port, without_referral}
use Rattle.nvt_config.specs.Valid.{AreLinks, ArePorts, IsValid}
use Rattle.nvt_config.proofs.Links.{AreLinks-elsewhere}

ArePorts-push : (ports : List Port) (port : Port) → ArePorts ports → IsTrue (is_port port) → has_port ports port.id ≡ false → nat_le 16 (length ports) ≡ false → ArePorts (ports ++ port ∷ [])
ArePorts-push ports port valid sound absent room = record {
  count = grind (arith, common_steps);
  sound = All-push (λ p. IsTrue (is_port p)) ports port valid.sound sound;
  distinct = distinct-push (λ p q. p.id ≡ q.id) (λ p. p.id == port.id) ports port valid.distinct absent (λ p same. eq-eqb p.id port.id same);
}

-- a port in place of another keeps its number
same_number : (port p : Port) → (p.id == port.id) ≡ true → port.id ≡ p.id
same_number port p same = sym (eqb-true p.id port.id same)

ArePorts-set : (ports : List Port) (port : Port) → ArePorts ports → IsTrue (is_port port) → ArePorts (ports_set ports port)
ArePorts-set ports port valid sound =
    let numbered : Port → Bool = λ p. p.id == port.id in
    record {
      count = subst (λ n. n ≤ 16) (sym (length-changed_where numbered (λ _. port) ports)) valid.count;
      sound = All-changed_where (λ p. IsTrue (is_port p)) numbered (λ _. port) (λ _ _. sound) ports valid.sound;
      distinct = distinct-changed_where (λ p. p.id) numbered (λ _. port) (same_number port) ports valid.distinct;
    }

ArePorts-without : (ports : List Port) (id : ℕ) → ArePorts ports → ArePorts (ports_without ports id)
ArePorts-without ports id valid =
    let numbered : Port → Bool = λ p. p.id == id in
    record {
      count = omega (arith, length-without numbered ports, valid.count);
      sound = All-filter (λ p. not (numbered p)) (λ p. IsTrue (is_port p)) ports valid.sound;
      distinct = AllPairs-filter (λ p q. p.id ≢ q.id) (λ p. not (numbered p)) ports valid.distinct;
    }

-- what is true of a configuration stays where its ports alone change, and its links still name ports
with_ports : (c : Configuration) (ports : List Port) → IsValid c → ArePorts ports → AreLinks ports c.subsystems c.links → IsValid (record c { ports = ports })
with_ports c ports valid sound links = record {
  disks = valid.disks;
  subsystems = valid.subsystems;
  namespaces = valid.namespaces;
  ports = sound;
  links = links;
  hosts = valid.hosts;
  allows = valid.allows;
  states = valid.states;
  referrals = valid.referrals;
  shows = valid.shows;
}

pub IsValid-with_port : (c : Configuration) (port : Port) → IsValid c → IsTrue (is_port port) → has_port c.ports port.id ≡ false → nat_le 16 (length c.ports) ≡ false → IsValid (with_port c port)
IsValid-with_port c port valid sound absent room =
    let ports : List Port = c.ports ++ port ∷ [] in
    with_ports c ports valid (ArePorts-push c.ports port valid.ports sound absent room)
    (AreLinks-elsewhere c.ports ports c.subsystems c.subsystems c.links (λ k d _ there.
    let link : Link = get_or c.links k d in
    list_any-append (λ p. p.id == link.port) c.ports (port ∷ []) ∙ or_left (has_port c.ports link.port) _ there)
    (λ _ _ _ there. there) valid.links)

pub IsValid-with_port_set : (c : Configuration) (port : Port) → IsValid c → IsTrue (is_port port) → IsValid (with_port_set c port)
IsValid-with_port_set c port valid sound =
    with_ports c (ports_set c.ports port) valid (ArePorts-set c.ports port valid.ports sound)
    (AreLinks-elsewhere c.ports (ports_set c.ports port) c.subsystems c.subsystems c.links (λ k d _ there.
    let link : Link = get_or c.links k d in
    list_any-changed_where (λ p. p.id == link.port) (λ p. p.id == port.id) (λ _. port) (λ p same. ap (λ n. n == link.port) (same_number port p same)) c.ports ∙ there)
    (λ _ _ _ there. there) valid.links)

-- a port that goes is not the one of another number
other_number : (a n other : ℕ) → (other == n) ≡ false → (a == other) ≡ true → (a == n) ≡ false
other_number a n other differ same = subst (λ b. (b == n) ≡ false) (sym (eqb-true a other same)) differ

pub IsValid-without_port : (c : Configuration) (id : ℕ) → IsValid c → is_port_linked c.links id ≡ false → IsValid (without_port c id)
IsValid-without_port c id valid free =
    with_ports c (ports_without c.ports id) valid (ArePorts-without c.ports id valid.ports)
    (AreLinks-elsewhere c.ports (ports_without c.ports id) c.subsystems c.subsystems c.links (λ k d below there.
    let link : Link = get_or c.links k d in
    let differ : (link.port == id) ≡ false = no_item (λ l. l.port == id) c.links k d free below in
    list_any-without (λ p. p.id == link.port) (λ p. p.id == id) (λ p same. other_number p.id id link.port differ same) c.ports ∙ there)
    (λ _ _ _ there. there) valid.links)

-- what is true of a configuration stays where its referrals alone change
with_referrals : (c : Configuration) (referrals : List Port) → IsValid c → ArePorts referrals → IsValid (record c { referrals = referrals })
with_referrals c referrals valid sound = record {
  disks = valid.disks;
  subsystems = valid.subsystems;
  namespaces = valid.namespaces;
  ports = valid.ports;
  links = valid.links;
  hosts = valid.hosts;
  allows = valid.allows;
  states = valid.states;
  referrals = sound;
  shows = valid.shows;
}

pub IsValid-with_referral : (c : Configuration) (referral : Port) → IsValid c → IsTrue (is_port referral) → has_port c.referrals referral.id ≡ false → nat_le 16 (length c.referrals) ≡ false → IsValid (with_referral c referral)
IsValid-with_referral c referral valid sound absent room =
    with_referrals c (c.referrals ++ referral ∷ []) valid (ArePorts-push c.referrals referral valid.referrals sound absent room)

pub IsValid-with_referral_set : (c : Configuration) (referral : Port) → IsValid c → IsTrue (is_port referral) → IsValid (with_referral_set c referral)
IsValid-with_referral_set c referral valid sound =
    with_referrals c (ports_set c.referrals referral) valid (ArePorts-set c.referrals referral valid.referrals sound)

pub IsValid-without_referral : (c : Configuration) (id : ℕ) → IsValid c → IsValid (without_referral c id)
IsValid-without_referral c id valid =
    with_referrals c (ports_without c.referrals id) valid (ArePorts-without c.referrals id valid.referrals)
