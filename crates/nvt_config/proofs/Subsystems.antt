-- What a change of the subsystems keeps.
use Rattle.std.proofs.Common.{◌≡◌, ◌≢◌, ◌≤◌, ◌++◌, ◌∷◌, [], ℕ, Bool, true, false, not, List, All, IsTrue, nat_le, length, get_or, refl, sym, ◌∙◌, subst, arith}
use Rattle.std.proofs.lemmas.Bool.{or_left}
use Rattle.std.proofs.lemmas.Grind.{common_steps}
use Rattle.std.proofs.lemmas.List.Elements.{All-push, All-filter}
use Rattle.std.proofs.lemmas.List.Folds.{list_any-append}
use Rattle.std.proofs.lemmas.List.Kept.{AllPairs-filter}
use Rattle.std.specs.List.{list_any}
use Rattle.std.specs.Str.{bytes_eq}
use Rattle.config_lists.specs.declared.subsystem.Access.{Access}
use Rattle.config_lists.specs.declared.subsystem.Subsystem.{Subsystem}
use Rattle.config_lists.specs.Lists.{changed_where, without}
use Rattle.config_lists.specs.Subsystem.{is_subsystem}
use Rattle.config_lists.proofs.Distinct.{distinct-push}
use Rattle.config_lists.proofs.Lists.{no_item, length-without, length-changed_where, All-changed_where, distinct-changed_where, list_any-changed_where, list_any-without}
use Rattle.config_lists.proofs.Names.{bytes_eq-same, other_name}
use Rattle.nvt_config.specs.Configuration.{Configuration, has_namespaces, has_subsystem, is_subsystem_allowing, is_subsystem_linked, with_access, with_subsystem, without_subsystem}
use Rattle.nvt_config.specs.Valid.{AreSubsystems, IsValid}
use Rattle.nvt_config.proofs.Allows.{AreAllows-elsewhere}
use Rattle.nvt_config.proofs.Links.{AreLinks-elsewhere}
use Rattle.nvt_config.proofs.Namespaces.{AreNamespaces-elsewhere}

AreSubsystems-push : (ss : List Subsystem) (s : Subsystem) → AreSubsystems ss → IsTrue (is_subsystem s) → has_subsystem ss s.nqn ≡ false → nat_le 32 (length ss) ≡ false → AreSubsystems (ss ++ s ∷ [])
AreSubsystems-push ss s valid sound absent room = record {
  count = grind (arith, common_steps);
  sound = All-push (λ t. IsTrue (is_subsystem t)) ss s valid.sound sound;
  distinct = distinct-push (λ t u. t.nqn ≡ u.nqn) (λ t. bytes_eq t.nqn s.nqn) ss s valid.distinct absent (λ t same. bytes_eq-same t.nqn s.nqn same);
}

abbrev access_set : Access → Subsystem → Subsystem
access_set access s = record s { access = access }

AreSubsystems-set : (ss : List Subsystem) (nqn : List ℕ) (access : Access) → AreSubsystems ss → AreSubsystems (changed_where (λ s. bytes_eq s.nqn nqn) (access_set access) ss)
AreSubsystems-set ss nqn access valid =
    let named : Subsystem → Bool = λ s. bytes_eq s.nqn nqn in
    let set : Subsystem → Subsystem = access_set access in
    record {
      count = subst (λ n. n ≤ 32) (sym (length-changed_where named set ss)) valid.count;
      sound = All-changed_where (λ s. IsTrue (is_subsystem s)) named set (λ s sound. sound) ss valid.sound;
      distinct = distinct-changed_where (λ s. s.nqn) named set (λ s _. refl) ss valid.distinct;
    }

AreSubsystems-without : (ss : List Subsystem) (nqn : List ℕ) → AreSubsystems ss → AreSubsystems (without (λ s. bytes_eq s.nqn nqn) ss)
AreSubsystems-without ss nqn valid =
    let named : Subsystem → Bool = λ s. bytes_eq s.nqn nqn in
    record {
      count = omega (arith, length-without named ss, valid.count);
      sound = All-filter (λ s. not (named s)) (λ s. IsTrue (is_subsystem s)) ss valid.sound;
      distinct = AllPairs-filter (λ s t. s.nqn ≢ t.nqn) (λ s. not (named s)) ss valid.distinct;
    }

-- each subsystem that an item names stays
abbrev Stay : {X : Type 0} → (X → List ℕ) → List Subsystem → List Subsystem → List X → Type 0
Stay name ss ts xs = All (λ x. has_subsystem ss (name x) ≡ true → has_subsystem ts (name x) ≡ true) xs

-- what is true of a configuration stays where its subsystems alone change, and those that are named stay
with_subsystems : (c : Configuration) (ss : List Subsystem) → IsValid c → AreSubsystems ss → Stay (λ n. n.subsystem) c.subsystems ss c.namespaces → Stay (λ l. l.subsystem) c.subsystems ss c.links → Stay (λ a. a.subsystem) c.subsystems ss c.allows → IsValid (record c { subsystems = ss })
with_subsystems c ss valid sound namespaces links allows = record {
  disks = valid.disks;
  subsystems = sound;
  namespaces = AreNamespaces-elsewhere c.units c.subsystems ss c.namespaces namespaces valid.namespaces;
  ports = valid.ports;
  links = AreLinks-elsewhere c.ports c.ports c.subsystems ss c.links (λ _ _ _ there. there) links valid.links;
  hosts = valid.hosts;
  allows = AreAllows-elsewhere c.subsystems ss c.hosts c.hosts c.allows allows (λ _ _ _ there. there) valid.allows;
  states = valid.states;
  referrals = valid.referrals;
  shows = valid.shows;
}

-- a subsystem is found where it was found
stays_beside : (ss : List Subsystem) (s : Subsystem) (name : List ℕ) → has_subsystem ss name ≡ true → has_subsystem (ss ++ s ∷ []) name ≡ true
stays_beside ss s name there =
    list_any-append (λ t. bytes_eq t.nqn name) ss (s ∷ []) ∙ or_left (has_subsystem ss name) _ there

pub IsValid-with_subsystem : (c : Configuration) (s : Subsystem) → IsValid c → IsTrue (is_subsystem s) → has_subsystem c.subsystems s.nqn ≡ false → nat_le 32 (length c.subsystems) ≡ false → IsValid (with_subsystem c s)
IsValid-with_subsystem c s valid sound absent room =
    with_subsystems c (c.subsystems ++ s ∷ []) valid (AreSubsystems-push c.subsystems s valid.subsystems sound absent room)
    (λ k d _. stays_beside c.subsystems s (get_or c.namespaces k d).subsystem)
    (λ k d _. stays_beside c.subsystems s (get_or c.links k d).subsystem)
    (λ k d _. stays_beside c.subsystems s (get_or c.allows k d).subsystem)

stays_set : (ss : List Subsystem) (nqn : List ℕ) (access : Access) (name : List ℕ) → has_subsystem ss name ≡ true → has_subsystem (changed_where (λ s. bytes_eq s.nqn nqn) (access_set access) ss) name ≡ true
stays_set ss nqn access name there =
    list_any-changed_where (λ s. bytes_eq s.nqn name) (λ s. bytes_eq s.nqn nqn) (access_set access) (λ s _. refl) ss ∙ there

pub IsValid-with_access : (c : Configuration) (nqn : List ℕ) (access : Access) → IsValid c → IsValid (with_access c nqn access)
IsValid-with_access c nqn access valid =
    with_subsystems c (changed_where (λ s. bytes_eq s.nqn nqn) (access_set access) c.subsystems) valid (AreSubsystems-set c.subsystems nqn access valid.subsystems)
    (λ k d _. stays_set c.subsystems nqn access (get_or c.namespaces k d).subsystem)
    (λ k d _. stays_set c.subsystems nqn access (get_or c.links k d).subsystem)
    (λ k d _. stays_set c.subsystems nqn access (get_or c.allows k d).subsystem)

-- what no item names may go
stays_unnamed : {X : Type 0} (name : X → List ℕ) (ss : List Subsystem) (nqn : List ℕ) (xs : List X) → list_any (λ x. bytes_eq (name x) nqn) xs ≡ false → Stay name ss (without (λ s. bytes_eq s.nqn nqn) ss) xs
stays_unnamed {X = X} name ss nqn xs free k d below there =
    let x : X = get_or xs k d in
    let differ : bytes_eq (name x) nqn ≡ false = no_item (λ x. bytes_eq (name x) nqn) xs k d free below in
    list_any-without (λ s. bytes_eq s.nqn (name x)) (λ s. bytes_eq s.nqn nqn) (λ s same. other_name s.nqn nqn (name x) differ same) ss ∙ there

pub IsValid-without_subsystem : (c : Configuration) (nqn : List ℕ) → IsValid c → has_namespaces c.namespaces nqn ≡ false → is_subsystem_linked c.links nqn ≡ false → is_subsystem_allowing c.allows nqn ≡ false → IsValid (without_subsystem c nqn)
IsValid-without_subsystem c nqn valid empty unlinked unallowed =
    with_subsystems c (without (λ s. bytes_eq s.nqn nqn) c.subsystems) valid (AreSubsystems-without c.subsystems nqn valid.subsystems)
    (stays_unnamed (λ n. n.subsystem) c.subsystems nqn c.namespaces empty)
    (stays_unnamed (λ l. l.subsystem) c.subsystems nqn c.links unlinked)
    (stays_unnamed (λ a. a.subsystem) c.subsystems nqn c.allows unallowed)
