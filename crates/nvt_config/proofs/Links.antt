-- What a change of the links keeps.
use Rattle.std.proofs.Common.{◌≡◌, ◌==◌, ◌&&◌, ◌++◌, ◌∷◌, [], ℕ, Bool, true, false, not, List, All, get_or, sym, ◌∙◌, subst}
use Rattle.std.proofs.lemmas.Bool.{and_from, and_parts, eq-eqb, eqb-true, or_left}
use Rattle.std.proofs.lemmas.List.Elements.{All-push, All-filter}
use Rattle.std.proofs.lemmas.List.Folds.{list_any-append}
use Rattle.std.proofs.lemmas.List.Kept.{AllPairs-filter}
use Rattle.std.specs.Str.{bytes_eq}
use Rattle.config_lists.specs.declared.link.Link.{Link}
use Rattle.config_lists.specs.declared.port.Port.{Port}
use Rattle.config_lists.specs.declared.subsystem.Subsystem.{Subsystem}
use Rattle.config_lists.specs.GroupState.{is_state_on}
use Rattle.config_lists.specs.Lists.{without}
use Rattle.config_lists.proofs.Distinct.{distinct-push}
use Rattle.config_lists.proofs.Lists.{list_any-without}
use Rattle.config_lists.proofs.Names.{bytes_eq-same, same_name}
use Rattle.nvt_config.specs.Configuration.{Configuration, has_link, has_port, has_subsystem, with_link, without_link}
use Rattle.nvt_config.specs.Valid.{AreLinks, IsLink, IsValid}
use Rattle.nvt_config.proofs.States.{AreStates-elsewhere, AreStates-more}

-- two links of the same port and subsystem
abbrev IsSameLink : Link → Link → Type 0
IsSameLink k l = (k.port ≡ l.port) × (k.subsystem ≡ l.subsystem)

-- where each of the ports and of the subsystems that they name stays
pub AreLinks-elsewhere : (ps qs : List Port) (ss ts : List Subsystem) (links : List Link) → All (λ l. has_port ps l.port ≡ true → has_port qs l.port ≡ true) links → All (λ l. has_subsystem ss l.subsystem ≡ true → has_subsystem ts l.subsystem ≡ true) links → AreLinks ps ss links → AreLinks qs ts links
AreLinks-elsewhere ps qs ss ts links ports subsystems valid = record {
  sound = λ k d below.
      let old : IsLink ps ss (get_or links k d) = valid.sound k d below in
      record { port = ports k d below old.port; subsystem = subsystems k d below old.subsystem };
  distinct = valid.distinct;
}

-- a link that goes is not another
other_link : (port other : ℕ) (nqn name : List ℕ) (l : Link) → (other == port && bytes_eq name nqn) ≡ false → (l.port == other && bytes_eq l.subsystem name) ≡ true → (l.port == port && bytes_eq l.subsystem nqn) ≡ false
other_link port other nqn name l differ same =
    let both : ((l.port == other) ≡ true) × (bytes_eq l.subsystem name ≡ true) = and_parts (l.port == other) (bytes_eq l.subsystem name) same in
    subst (λ p. (p == port && bytes_eq l.subsystem nqn) ≡ false) (sym (eqb-true l.port other both.0)) (subst (λ n. (other == port && bytes_eq n nqn) ≡ false) (sym (same_name l.subsystem name both.1)) differ)

pub IsValid-with_link : (c : Configuration) (link : Link) → IsValid c → has_port c.ports link.port ≡ true → has_subsystem c.subsystems link.subsystem ≡ true → has_link c.links link.port link.subsystem ≡ false → IsValid (with_link c link)
IsValid-with_link c link valid port subsystem absent = record {
  disks = valid.disks;
  subsystems = valid.subsystems;
  namespaces = valid.namespaces;
  ports = valid.ports;
  links = record {
    sound = All-push (IsLink c.ports c.subsystems) c.links link valid.links.sound (record { port = port; subsystem = subsystem });
    distinct = distinct-push IsSameLink (λ l. l.port == link.port && bytes_eq l.subsystem link.subsystem) c.links link valid.links.distinct absent (λ l same.
        and_from (l.port == link.port) (bytes_eq l.subsystem link.subsystem) (eq-eqb l.port link.port same.0) (bytes_eq-same l.subsystem link.subsystem same.1));
  };
  hosts = valid.hosts;
  allows = valid.allows;
  states = AreStates-more c.links (c.links ++ link ∷ []) c.states (λ s there.
      list_any-append (λ l. l.port == s.port && bytes_eq l.subsystem s.subsystem) c.links (link ∷ []) ∙ or_left (has_link c.links s.port s.subsystem) _ there) valid.states;
  referrals = valid.referrals;
  shows = valid.shows;
}

pub IsValid-without_link : (c : Configuration) (port : ℕ) (nqn : List ℕ) → IsValid c → IsValid (without_link c port nqn)
IsValid-without_link c port nqn valid =
    let goes : Link → Bool = λ l. l.port == port && bytes_eq l.subsystem nqn in
    record {
      disks = valid.disks;
      subsystems = valid.subsystems;
      namespaces = valid.namespaces;
      ports = valid.ports;
      links = record {
        sound = All-filter (λ l. not (goes l)) (IsLink c.ports c.subsystems) c.links valid.links.sound;
        distinct = AllPairs-filter (λ k l. ¬ IsSameLink k l) (λ l. not (goes l)) c.links valid.links.distinct;
      };
      hosts = valid.hosts;
      allows = valid.allows;
      states = AreStates-elsewhere c.links (without goes c.links) c.states (is_state_on port nqn) (λ s differ there.
          list_any-without (λ l. l.port == s.port && bytes_eq l.subsystem s.subsystem) goes (λ l same. other_link port s.port nqn s.subsystem l differ same) c.links ∙ there) valid.states;
      referrals = valid.referrals;
      shows = valid.shows;
    }
