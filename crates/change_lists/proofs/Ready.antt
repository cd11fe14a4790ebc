-- The lists that are ready: each is that of its subsystem as a host sees it, and a subsystem that is not there has none.
use Rattle.std.proofs.Common.{◌≡◌, ◌≤◌, ℕ, Bool, true, false, not, ◌||◌, ◌&&◌, Option, Some, None, IfSome, is_some, List, [], ◌∷◌, ◌++◌, find, get_or, map, bytes_eq, refl, ap, sym, subst, ◌∙◌, inl, inr, if◌then◌else◌}
use Rattle.std.proofs.lemmas.Bool.{cases_Bool, both_ways, false_from_ne_true}
use Rattle.std.specs.List.{list_any}
use Rattle.std.specs.Option.{option_map}
use Rattle.std.specs.Prelude.{unwrap_or}
use Rattle.config_lists.specs.declared.namespace.Namespace.{Namespace}
use Rattle.config_lists.specs.declared.subsystem.Subsystem.{Subsystem}
use Rattle.config_lists.specs.Namespace.{is_named, nsid_max}
use Rattle.config_lists.specs.Show.{is_shown_of}
use Rattle.config_lists.proofs.Names.{bytes_eq-same, same_name}
use Rattle.nvt_config.specs.Configuration.{Configuration, has_subsystem}
use Rattle.nvt_config.specs.SeenBy.{seen_by, seen_by_strangers}
use Rattle.nvt_config.specs.Valid.{IsValid}
use Rattle.nvt_config.proofs.Seeing.{strangers_valid}
use Rattle.config_lists.specs.Nsids.{is_taken, nsids_in as nsids_of_table}
use Rattle.config_lists.specs.Numbered.{active_nsids, is_there}
use Rattle.config_lists.proofs.Sets.{no_nsids, nsids_alike}
use Rattle.nvt_config.specs.Reach.{StaysAsItWas}
use Rattle.nvt_config.specs.Viewers.{AreOwnOf}
use Rattle.nvt_config.proofs.Found.{none_found, same_namespace, unshown_absent}
use Rattle.nvt_config.proofs.Others.{unshown_sees}
use Rattle.tables.specs.NameTable.{IsPut, IsRemoved, value_of}
use Rattle.tables.specs.Variants.{VariantsState, common_of, own_of, variant_of}
use Rattle.change_lists.specs.ActiveView.{Shown, ShowsActive, nsids_in, own_in, strangers_in}
use Rattle.change_lists.specs.Reached.{IsListFor}

-- ---- the list of one subsystem

pub found_there : (namespaces : List Namespace) (subsystem : List ℕ) (nsid : ℕ) → is_some (find (is_named subsystem nsid) namespaces) ≡ is_there namespaces subsystem nsid
found_there [] subsystem nsid = refl
found_there (n ∷ namespaces) subsystem nsid =
    elim (cases_Bool (is_named subsystem nsid n)) [
      | inl is ↦ rw is refl
      | inr not ↦ rw not (found_there namespaces subsystem nsid)
    ]

-- a table of the subsystem's namespaces has the same identifiers
pub table_active : (namespaces : List Namespace) (subsystem : List ℕ) (table : List (Option Namespace))
    → ((nsid : ℕ) → nsid ≤ nsid_max → get_or table nsid None ≡ find (is_named subsystem nsid) namespaces) → nsids_of_table table ≡ active_nsids namespaces subsystem
unfolding active_nsids
table_active namespaces subsystem table found =
    nsids_alike (is_taken table) (is_there namespaces subsystem) (λ nsid above below. ap is_some (found nsid below) ∙ found_there namespaces subsystem nsid)

-- two configurations that have the same namespaces of a subsystem have the same list of it
pub same_active : (old new : Configuration) (subsystem : List ℕ) → StaysAsItWas old new subsystem → active_nsids new.namespaces subsystem ≡ active_nsids old.namespaces subsystem
unfolding active_nsids
same_active old new subsystem stays =
    nsids_alike (is_there new.namespaces subsystem) (is_there old.namespaces subsystem) (λ nsid above below.
    sym (found_there new.namespaces subsystem nsid) ∙ ap is_some (same_namespace old new subsystem stays nsid) ∙ found_there old.namespaces subsystem nsid)

none_active : (c : Configuration) (subsystem : List ℕ) → IsValid c → has_subsystem c.subsystems subsystem ≡ false → active_nsids c.namespaces subsystem ≡ []
unfolding active_nsids
none_active c subsystem valid none =
    no_nsids (is_there c.namespaces subsystem) (λ nsid above below. sym (found_there c.namespaces subsystem nsid) ∙ ap is_some (none_found c subsystem valid none nsid))

-- ---- what a view shows

-- a host that has no list of its own is shown what strangers are
by_own : (c : Configuration) (host subsystem strangers : List ℕ) (own : Option (List ℕ)) → (let seen = seen_by_strangers c in strangers ≡ active_nsids seen.namespaces subsystem)
    → is_some own ≡ is_shown_of c.shows subsystem host → IfSome own (IsListFor c subsystem host) → IsListFor c subsystem host (unwrap_or own strangers)
by_own c host subsystem strangers (Some list) is who what = what
by_own c host subsystem strangers None is who what =
    is ∙ sym (same_active (seen_by_strangers c) (seen_by c host) subsystem (unshown_sees c host subsystem (sym who)))

-- so that a view shows a configuration where strangers and those who have their own are shown theirs
pub shows_by : (c : Configuration) (v : Shown) → ((subsystem : List ℕ) → let seen = seen_by_strangers c in strangers_in v subsystem ≡ active_nsids seen.namespaces subsystem)
    → ((host subsystem : List ℕ) → is_some (own_in v host subsystem) ≡ is_shown_of c.shows subsystem host)
    → ((host subsystem : List ℕ) → IfSome (own_in v host subsystem) (IsListFor c subsystem host)) → ShowsActive c v
unfolding nsids_in
shows_by c v strangers who what = record {
  nsids = λ host subsystem. by_own c host subsystem (strangers_in v subsystem) (own_in v host subsystem) (strangers subsystem) (who host subsystem) (what host subsystem);
  strangers = strangers;
  own = who;
}

-- what a host has of its own is what it is shown
own_is : (c : Configuration) (host subsystem strangers : List ℕ) (own : Option (List ℕ)) → IsListFor c subsystem host (unwrap_or own strangers) → IfSome own (IsListFor c subsystem host)
own_is c host subsystem strangers (Some list) is = is
own_is c host subsystem strangers None is = tt

pub what_is_own : (c : Configuration) (v : Shown) (host subsystem : List ℕ) → ShowsActive c v → IfSome (own_in v host subsystem) (IsListFor c subsystem host)
unfolding nsids_in
what_is_own c v host subsystem shows = own_is c host subsystem (strangers_in v subsystem) (own_in v host subsystem) (shows.nsids host subsystem)

-- what a table lends is what is shown
pub lent : (o : Option (VariantsState (List ℕ))) (host : List ℕ) → unwrap_or (option_map (λ v. variant_of v host) o) [] ≡ unwrap_or (own_of o host) (unwrap_or (common_of o) [])
lent None host = refl
lent (Some v) host = refl

-- ---- the lists of a subsystem in the place of those of before

pub strangers_put : (old new : Shown) (name : List ℕ) (lists : VariantsState (List ℕ)) → IsPut old.lists new.lists name lists
    → (subsystem : List ℕ) → strangers_in new subsystem ≡ (if bytes_eq subsystem name then lists.common else strangers_in old subsystem)
strangers_put old new name lists put subsystem =
    rw (put subsystem) (elim (cases_Bool (bytes_eq subsystem name)) [
      | inl same ↦ rw same refl
      | inr apart ↦ rw apart refl
    ])

pub own_put : (old new : Shown) (name : List ℕ) (lists : VariantsState (List ℕ)) → IsPut old.lists new.lists name lists
    → (host subsystem : List ℕ) → own_in new host subsystem ≡ (if bytes_eq subsystem name then value_of lists.own host else own_in old host subsystem)
own_put old new name lists put host subsystem =
    rw (put subsystem) (elim (cases_Bool (bytes_eq subsystem name)) [
      | inl same ↦ rw same refl
      | inr apart ↦ rw apart refl
    ])

pub strangers_removed : (old new : Shown) (name : List ℕ) (lists : VariantsState (List ℕ)) → IsRemoved old.lists new.lists name → lists.common ≡ []
    → (subsystem : List ℕ) → strangers_in new subsystem ≡ (if bytes_eq subsystem name then lists.common else strangers_in old subsystem)
strangers_removed old new name lists removed none subsystem =
    rw (removed subsystem, none) (elim (cases_Bool (bytes_eq subsystem name)) [
      | inl same ↦ rw same refl
      | inr apart ↦ rw apart refl
    ])

pub own_removed : (old new : Shown) (name : List ℕ) (lists : VariantsState (List ℕ)) → IsRemoved old.lists new.lists name → lists.own ≡ []
    → (host subsystem : List ℕ) → own_in new host subsystem ≡ (if bytes_eq subsystem name then value_of lists.own host else own_in old host subsystem)
own_removed old new name lists removed none host subsystem =
    rw (removed subsystem, none) (elim (cases_Bool (bytes_eq subsystem name)) [
      | inl same ↦ rw same refl
      | inr apart ↦ rw apart refl
    ])

-- ---- the lists of all

abbrev pub names_of : List Subsystem → List (List ℕ)
names_of subsystems = map (λ s. s.nqn) subsystems

not_among : (subsystems : List Subsystem) (name : List ℕ) → has_subsystem subsystems name ≡ true → list_any (bytes_eq name) (names_of subsystems) ≡ true
not_among [] name there = there
not_among (s ∷ subsystems) name there =
    elim (cases_Bool (bytes_eq s.nqn name)) [
      | inl same ↦
          let is : s.nqn ≡ name = same_name s.nqn name same in
          ap (λ b. b || list_any (bytes_eq name) (names_of subsystems)) (bytes_eq-same name s.nqn (sym is))
      | inr apart ↦
          let rest : list_any (bytes_eq name) (names_of subsystems) ≡ true = not_among subsystems name (sym (ap (λ b. b || has_subsystem subsystems name) apart) ∙ there) in
          ap (λ b. bytes_eq name s.nqn || b) rest ∙ or_true (bytes_eq name s.nqn)
    ]
  where
    or_true : (b : Bool) → (b || true) ≡ true
    or_true true = refl
    or_true false = refl

-- the lists of these subsystems are there, and no others
pub record AreReady (c : Configuration) (names : List (List ℕ)) (v : Shown) : Type 0 where
  pub strangers : (subsystem : List ℕ) → let seen = seen_by_strangers c in
      strangers_in v subsystem ≡ (if list_any (bytes_eq subsystem) names then active_nsids seen.namespaces subsystem else [])
  pub who : (host subsystem : List ℕ) → is_some (own_in v host subsystem) ≡ (list_any (bytes_eq subsystem) names && is_shown_of c.shows subsystem host)
  pub what : (host subsystem : List ℕ) → IfSome (own_in v host subsystem) (IsListFor c subsystem host)

pub none_ready : (c : Configuration) (v : Shown) → v.lists ≡ [] → AreReady c [] v
none_ready c v none = rw none (record { strangers = λ subsystem. refl; who = λ host subsystem. refl; what = λ host subsystem. tt })

among_more : (names : List (List ℕ)) (name subsystem : List ℕ) → list_any (bytes_eq subsystem) (names ++ name ∷ []) ≡ (list_any (bytes_eq subsystem) names || bytes_eq subsystem name)
among_more [] name subsystem = or_none (bytes_eq subsystem name) where
  or_none : (b : Bool) → (b || false) ≡ b
  or_none true = refl
  or_none false = refl
among_more (n ∷ names) name subsystem = ap (λ b. bytes_eq subsystem n || b) (among_more names name subsystem) ∙ regroup (bytes_eq subsystem n) (list_any (bytes_eq subsystem) names) (bytes_eq subsystem name) where
  regroup : (a b c : Bool) → (a || (b || c)) ≡ ((a || b) || c)
  regroup true b c = refl
  regroup false b c = refl

-- those of one more
pub one_more_ready : (c : Configuration) (names : List (List ℕ)) (old new : Shown) (name : List ℕ) (lists : VariantsState (List ℕ)) → IsPut old.lists new.lists name lists
    → (let seen = seen_by_strangers c in lists.common ≡ active_nsids seen.namespaces name) → AreOwnOf c.shows name (λ host list. IsListFor c name host list) lists.own
    → AreReady c names old → AreReady c (names ++ name ∷ []) new
one_more_ready c names old new name lists put common own ready =
    let strangers : Configuration = seen_by_strangers c in
    record {
      strangers = λ subsystem. rw (strangers_put old new name lists put subsystem, among_more names name subsystem) (elim (cases_Bool (bytes_eq subsystem name)) [
        | inl same ↦
            let is : subsystem ≡ name = same_name subsystem name same in
            rw (same, or_yes (list_any (bytes_eq subsystem) names)) (common ∙ ap (active_nsids strangers.namespaces) (sym is))
        | inr apart ↦ rw (apart, or_none (list_any (bytes_eq subsystem) names)) (ready.strangers subsystem)
      ]);
      who = λ host subsystem. rw (own_put old new name lists put host subsystem, among_more names name subsystem) (elim (cases_Bool (bytes_eq subsystem name)) [
        | inl same ↦
            let is : subsystem ≡ name = same_name subsystem name same in
            rw (same, or_yes (list_any (bytes_eq subsystem) names)) (own.who host ∙ ap (λ (s : List ℕ). is_shown_of c.shows s host) (sym is))
        | inr apart ↦ rw (apart, or_none (list_any (bytes_eq subsystem) names)) (ready.who host subsystem)
      ]);
      what = λ host subsystem. rw (own_put old new name lists put host subsystem) (elim (cases_Bool (bytes_eq subsystem name)) [
        | inl same ↦
            let is : subsystem ≡ name = same_name subsystem name same in
            rw same (subst (λ (s : List ℕ). IfSome (value_of lists.own host) (IsListFor c s host)) (sym is) (own.what host))
        | inr apart ↦ rw apart (ready.what host subsystem)
      ]);
    } where
      or_yes : (b : Bool) → (b || true) ≡ true
      or_yes true = refl
      or_yes false = refl

      or_none : (b : Bool) → (b || false) ≡ b
      or_none true = refl
      or_none false = refl

pub shows_active : (c : Configuration) (v : Shown) → IsValid c → AreReady c (names_of c.subsystems) v → ShowsActive c v
shows_active c v valid ready =
    shows_by c v
    (λ subsystem. ready.strangers subsystem ∙ elim (cases_Bool (list_any (bytes_eq subsystem) (names_of c.subsystems))) [
      | inl some ↦ rw some refl
      | inr none ↦ rw none (sym (none_active (seen_by_strangers c) subsystem (strangers_valid c valid) (absent subsystem none)))
    ])
    (λ host subsystem. ready.who host subsystem ∙ elim (cases_Bool (list_any (bytes_eq subsystem) (names_of c.subsystems))) [
      | inl some ↦ rw some refl
      | inr none ↦ rw none (sym (unshown_absent c subsystem host valid (absent subsystem none)))
    ])
    ready.what where
      absent : (subsystem : List ℕ) → list_any (bytes_eq subsystem) (names_of c.subsystems) ≡ false → has_subsystem c.subsystems subsystem ≡ false
      absent subsystem none = false_from_ne_true (has_subsystem c.subsystems subsystem) (λ has. both_ways (list_any (bytes_eq subsystem) (names_of c.subsystems)) none (not_among c.subsystems subsystem has))
