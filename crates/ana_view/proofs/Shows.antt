-- What is ready of all subsystems: a view shows each host what it sees, and a subsystem that is not there shows nothing.
use Rattle.std.proofs.Common.{◌≡◌, ◌&&◌, ◌||◌, ℕ, Bool, true, false, Option, Some, None, is_some, List, [], ◌∷◌, ◌++◌, IfSome, find, map, bytes_eq, refl, ap, sym, subst, ◌∙◌, inl, inr, if◌then◌else◌}
use Rattle.std.proofs.lemmas.Bool.{both_ways, cases_Bool, false_from_ne_true}
use Rattle.std.specs.List.{list_any}
use Rattle.std.specs.Option.{option_map}
use Rattle.std.specs.Prelude.{unwrap_or}
use Rattle.config_lists.specs.declared.subsystem.Subsystem.{Subsystem}
use Rattle.config_lists.specs.GroupState.{state_for}
use Rattle.config_lists.specs.Namespace.{is_named}
use Rattle.config_lists.specs.Show.{is_shown_of}
use Rattle.config_lists.proofs.Names.{bytes_eq-same, same_name}
use Rattle.nvt_config.specs.Configuration.{Configuration, has_subsystem}
use Rattle.nvt_config.specs.SeenBy.{seen_by, seen_by_strangers}
use Rattle.nvt_config.specs.Valid.{IsValid}
use Rattle.nvt_config.proofs.Seeing.{strangers_valid}
use Rattle.config_lists.proofs.Sets.{no_nsids}
use Rattle.nvt_config.proofs.Found.{none_found, unshown_absent}
use Rattle.nvt_config.proofs.Others.{unshown_sees}
use Rattle.tables.specs.NameTable.{IsPut, IsRemoved, value_of}
use Rattle.tables.specs.Variants.{VariantsState, common_of, own_of, variant_of}
use Rattle.ana_view.specs.Bodies.{AddsVariants, AreSet, no_variants}
use Rattle.ana_view.specs.Group.{Descriptor, descriptor, descriptor_with, is_in_group, listed, listed_by, members}
use Rattle.ana_view.specs.Reached.{AreGroupsFor, AreVariantsOf}
use Rattle.ana_view.specs.View.{OfSubsystem, Shown, ShowsAna, groups_at, groups_in, groups_on, own_in, strangers_in}
use Rattle.ana_view.proofs.Counting.{listed_alike}
use Rattle.ana_view.proofs.Stays.{groups_stay, listed_stays}

-- ---- what a view shows

-- a host that has no groups of its own is shown what strangers are
by_own : (c : Configuration) (host subsystem : List ℕ) (port : ℕ) (strangers : List Descriptor) (own : Option OfSubsystem) → strangers ≡ listed (seen_by_strangers c) subsystem port
    → is_some own ≡ is_shown_of c.shows subsystem host → IfSome own (AreGroupsFor c subsystem host) → unwrap_or (option_map (λ s. groups_on s port) own) strangers ≡ listed (seen_by c host) subsystem port
by_own c host subsystem port strangers (Some groups) is who what = what.on_each port
by_own c host subsystem port strangers None is who what =
    is ∙ sym (listed_stays (seen_by_strangers c) (seen_by c host) subsystem (unshown_sees c host subsystem (sym who)) port)

-- so that a view shows a configuration where strangers and those who have their own are shown theirs
pub shows_by : (c : Configuration) (v : Shown) → ((subsystem : List ℕ) (port : ℕ) → strangers_in v subsystem port ≡ listed (seen_by_strangers c) subsystem port)
    → ((host subsystem : List ℕ) → is_some (own_in v host subsystem) ≡ is_shown_of c.shows subsystem host)
    → ((host subsystem : List ℕ) → IfSome (own_in v host subsystem) (AreGroupsFor c subsystem host)) → ShowsAna c v
unfolding groups_in
shows_by c v strangers who what = record {
  groups = λ host subsystem port.
      by_own c host subsystem port (strangers_in v subsystem port) (own_in v host subsystem) (strangers subsystem port) (who host subsystem) (what host subsystem);
  strangers = strangers;
  own = who;
}

-- what a host has of its own is what it is shown
own_are : (c : Configuration) (host subsystem : List ℕ) (strangers : ℕ → List Descriptor) (own : Option OfSubsystem)
    → ((port : ℕ) → unwrap_or (option_map (λ s. groups_on s port) own) (strangers port) ≡ listed (seen_by c host) subsystem port) → IfSome own (AreGroupsFor c subsystem host)
own_are c host subsystem strangers (Some groups) are = record { on_each = are }
own_are c host subsystem strangers None are = tt

pub what_is_own : (c : Configuration) (v : Shown) (host subsystem : List ℕ) → ShowsAna c v → IfSome (own_in v host subsystem) (AreGroupsFor c subsystem host)
unfolding groups_in
what_is_own c v host subsystem shows = own_are c host subsystem (strangers_in v subsystem) (own_in v host subsystem) (shows.groups host subsystem)

-- what a host sees of the variants of a subsystem
pub variant_is : (c : Configuration) (host subsystem : List ℕ) (groups : VariantsState OfSubsystem) → AreVariantsOf c subsystem groups → AreGroupsFor c subsystem host (variant_of groups host)
variant_is c host subsystem groups are = by_value (value_of groups.own host) (are.own.who host) (are.own.what host) where
  by_value : (own : Option OfSubsystem) → is_some own ≡ is_shown_of c.shows subsystem host → IfSome own (AreGroupsFor c subsystem host) → AreGroupsFor c subsystem host (unwrap_or own groups.common)
  by_value (Some g) who what = what
  by_value None who what = groups_stay (seen_by_strangers c) (seen_by c host) subsystem (unshown_sees c host subsystem (sym who)) groups.common are.strangers

-- what a table lends is what is shown
pub lent : (o : Option (VariantsState OfSubsystem)) (host : List ℕ) (port : ℕ)
    → groups_at (option_map (λ v. variant_of v host) o) port ≡ unwrap_or (option_map (λ s. groups_on s port) (own_of o host)) (groups_at (common_of o) port)
lent None host port = refl
lent (Some v) host port = by_value (value_of v.own host) where
  by_value : (own : Option OfSubsystem) → groups_on (unwrap_or own v.common) port ≡ unwrap_or (option_map (λ s. groups_on s port) own) (groups_on v.common port)
  by_value None = refl
  by_value (Some g) = refl

-- ---- the groups of one subsystem are set

pub put_set : (old new : Shown) (name : List ℕ) (groups : VariantsState OfSubsystem) → IsPut old.subsystems new.subsystems name groups → AreSet old name groups new
put_set old new name groups put = record {
  own = λ host other. rw (put other) (elim (cases_Bool (bytes_eq other name)) [
    | inl same ↦ rw same refl
    | inr apart ↦ rw apart refl
  ]);
  strangers = λ other port. rw (put other) (elim (cases_Bool (bytes_eq other name)) [
    | inl same ↦ rw same refl
    | inr apart ↦ rw apart refl
  ]);
}

pub removed_set : (old new : Shown) (name : List ℕ) (groups : VariantsState OfSubsystem) → groups ≡ no_variants → IsRemoved old.subsystems new.subsystems name → AreSet old name groups new
removed_set old new name groups none removed = record {
  own = λ host other. rw (removed other, none) (elim (cases_Bool (bytes_eq other name)) [
    | inl same ↦ rw same refl
    | inr apart ↦ rw apart refl
  ]);
  strangers = λ other port. rw (removed other, none) (elim (cases_Bool (bytes_eq other name)) [
    | inl same ↦ rw same refl
    | inr apart ↦ rw apart refl
  ]);
}

-- ---- the subsystems

abbrev pub names_of : List Subsystem → List (List ℕ)
names_of subsystems = map (λ s. s.nqn) subsystems

among : (subsystems : List Subsystem) (name : List ℕ) → has_subsystem subsystems name ≡ true → list_any (bytes_eq name) (names_of subsystems) ≡ true
among [] name there = there
among (s ∷ subsystems) name there =
    elim (cases_Bool (bytes_eq s.nqn name)) [
      | inl same ↦
          let is : s.nqn ≡ name = same_name s.nqn name same in
          ap (λ b. b || list_any (bytes_eq name) (names_of subsystems)) (bytes_eq-same name s.nqn (sym is))
      | inr apart ↦
          let rest : list_any (bytes_eq name) (names_of subsystems) ≡ true = among subsystems name (sym (ap (λ b. b || has_subsystem subsystems name) apart) ∙ there) in
          ap (λ b. bytes_eq name s.nqn || b) rest ∙ or_true (bytes_eq name s.nqn)
    ]
  where
    or_true : (b : Bool) → (b || true) ≡ true
    or_true true = refl
    or_true false = refl

no_members : (c : Configuration) (subsystem : List ℕ) (group : ℕ) → ((nsid : ℕ) → find (is_named subsystem nsid) c.namespaces ≡ None) → members c subsystem group ≡ []
unfolding members
no_members c subsystem group none =
    no_nsids (λ nsid. is_in_group (find (is_named subsystem nsid) c.namespaces) group) (λ nsid above below. ap (λ o. is_in_group o group) (none nsid))

none_listed : (c : Configuration) (subsystem : List ℕ) (port : ℕ) → IsValid c → has_subsystem c.subsystems subsystem ≡ false → listed c subsystem port ≡ []
unfolding listed_by
none_listed c subsystem port valid none =
    listed_alike (descriptor c subsystem port) (λ _. None) (λ group above below.
    ap (descriptor_with group (state_for port subsystem group c.states)) (no_members c subsystem group (none_found c subsystem valid none)))

-- of these subsystems are shown the groups that they have in a configuration, and of no other any
pub record AreReady (c : Configuration) (names : List (List ℕ)) (v : Shown) : Type 0 where
  pub strangers : (subsystem : List ℕ) (port : ℕ) → strangers_in v subsystem port ≡ (if list_any (bytes_eq subsystem) names then listed (seen_by_strangers c) subsystem port else [])
  pub who : (host subsystem : List ℕ) → is_some (own_in v host subsystem) ≡ (list_any (bytes_eq subsystem) names && is_shown_of c.shows subsystem host)
  pub what : (host subsystem : List ℕ) → IfSome (own_in v host subsystem) (AreGroupsFor c subsystem host)

pub none_ready : (c : Configuration) (v : Shown) → v.subsystems ≡ [] → AreReady c [] v
none_ready c v none = rw none (record { strangers = λ subsystem port. refl; who = λ host subsystem. refl; what = λ host subsystem. tt })

among_more : (names : List (List ℕ)) (name subsystem : List ℕ) → list_any (bytes_eq subsystem) (names ++ name ∷ []) ≡ (list_any (bytes_eq subsystem) names || bytes_eq subsystem name)
among_more [] name subsystem = or_none (bytes_eq subsystem name) where
  or_none : (b : Bool) → (b || false) ≡ b
  or_none true = refl
  or_none false = refl
among_more (n ∷ names) name subsystem = ap (λ b. bytes_eq subsystem n || b) (among_more names name subsystem) ∙ regroup (bytes_eq subsystem n) (list_any (bytes_eq subsystem) names) (bytes_eq subsystem name) where
  regroup : (a b c : Bool) → (a || (b || c)) ≡ ((a || b) || c)
  regroup true b c = refl
  regroup false b c = refl

-- those of one more
pub one_more_ready : (c : Configuration) (names : List (List ℕ)) (old new : Shown) (name : List ℕ) → AddsVariants c old name new → AreReady c names old → AreReady c (names ++ name ∷ []) new
one_more_ready c names old new name (groups, are, set) ready = record {
  strangers = λ subsystem port. rw (set.strangers subsystem port, among_more names name subsystem) (elim (cases_Bool (bytes_eq subsystem name)) [
    | inl same ↦
        let is : subsystem ≡ name = same_name subsystem name same in
        rw (same, or_yes (list_any (bytes_eq subsystem) names)) (are.strangers.on_each port ∙ ap (λ (s : List ℕ). listed (seen_by_strangers c) s port) (sym is))
    | inr apart ↦ rw (apart, or_none (list_any (bytes_eq subsystem) names)) (ready.strangers subsystem port)
  ]);
  who = λ host subsystem. rw (set.own host subsystem, among_more names name subsystem) (elim (cases_Bool (bytes_eq subsystem name)) [
    | inl same ↦
        let is : subsystem ≡ name = same_name subsystem name same in
        rw (same, or_yes (list_any (bytes_eq subsystem) names)) (are.own.who host ∙ ap (λ (s : List ℕ). is_shown_of c.shows s host) (sym is))
    | inr apart ↦ rw (apart, or_none (list_any (bytes_eq subsystem) names)) (ready.who host subsystem)
  ]);
  what = λ host subsystem. rw (set.own host subsystem) (elim (cases_Bool (bytes_eq subsystem name)) [
    | inl same ↦
        let is : subsystem ≡ name = same_name subsystem name same in
        rw same (subst (λ (s : List ℕ). IfSome (value_of groups.own host) (AreGroupsFor c s host)) (sym is) (are.own.what host))
    | inr apart ↦ rw apart (ready.what host subsystem)
  ]);
} where
  or_yes : (b : Bool) → (b || true) ≡ true
  or_yes true = refl
  or_yes false = refl

  or_none : (b : Bool) → (b || false) ≡ b
  or_none true = refl
  or_none false = refl

pub shows_ana : (c : Configuration) (v : Shown) → IsValid c → AreReady c (names_of c.subsystems) v → ShowsAna c v
shows_ana c v valid ready =
    shows_by c v
    (λ subsystem port. ready.strangers subsystem port ∙ elim (cases_Bool (list_any (bytes_eq subsystem) (names_of c.subsystems))) [
      | inl some ↦ rw some refl
      | inr none ↦ rw none (sym (none_listed (seen_by_strangers c) subsystem port (strangers_valid c valid) (absent subsystem none)))
    ])
    (λ host subsystem. ready.who host subsystem ∙ elim (cases_Bool (list_any (bytes_eq subsystem) (names_of c.subsystems))) [
      | inl some ↦ rw some refl
      | inr none ↦ rw none (sym (unshown_absent c subsystem host valid (absent subsystem none)))
    ])
    ready.what where
      absent : (subsystem : List ℕ) → list_any (bytes_eq subsystem) (names_of c.subsystems) ≡ false → has_subsystem c.subsystems subsystem ≡ false
      absent subsystem none =
          false_from_ne_true (has_subsystem c.subsystems subsystem) (λ has. both_ways (list_any (bytes_eq subsystem) (names_of c.subsystems)) none (among c.subsystems subsystem has))
