-- What a plan has of two configurations, what is shown after it, and what it says that changes.
use Rattle.std.proofs.Common.{◌≡◌, ◌≤◌, ◌&&◌, ℕ, Bool, true, false, ◌-◌, not, arith, Option, Some, None, Result, Ok, Err, IfOk, IfSome, is_none, is_some, List, replicate, bytes_eq, refl, ap, sym, subst, ◌∙◌, inl, inr, if◌then◌else◌}
use Rattle.std.proofs.lemmas.Bool.{and_parts, cases_Bool}
use Rattle.std.proofs.lemmas.List.{get_or-replicate}
use Rattle.std.proofs.lemmas.Result.{IfOk-at_ok}
use Rattle.config_lists.specs.declared.show.Show.{Show}
use Rattle.config_lists.specs.Show.{is_shown_of}
use Rattle.config_lists.proofs.Names.{same_name}
use Rattle.nvt_config.specs.Accept.{accept}
use Rattle.nvt_config.specs.Configuration.{Configuration}
use Rattle.nvt_config.specs.SeenBy.{seen_by, seen_by_strangers}
use Rattle.config_lists.specs.declared.edit.Edit.{Edit}
use Rattle.config_lists.specs.declared.fault.EditFault.{EditFault}
use Rattle.nvt_config.specs.Reach.{StaysAsItWas, host_reached, is_host_reached, is_reached, reaches, subsystem_reached}
use Rattle.nvt_config.proofs.Others.{shown_stays, stays, strangers_stay}
use Rattle.nvt_config.proofs.Viewers.{either_way}
use Rattle.nvt_config.specs.Seen.{ChangesShowsAlone}
use Rattle.tables.specs.NameTable.{value_of}
use Rattle.tables.specs.Variants.{variant_of}
use Rattle.ana_view.specs.Group.{are_same, changes_group, descriptor, listed}
use Rattle.ana_view.specs.GroupChanges.{differs_in, has_changed}
use Rattle.ana_view.specs.Reached.{AreGroupsFor, IsOfEveryone, IsOfHost}
use Rattle.ana_view.specs.View.{AreThoseReached, BeforeAfter, EveryoneReached, HostReached, LeadsTo, OfSubsystem, PlansEdit, Shown, ShowsAna, everyone, groups_on, nothing, one_host, own_in}
use Rattle.ana_view.proofs.Listed.{group_in-listed}
use Rattle.ana_view.proofs.Members.{same_itself}
use Rattle.ana_view.proofs.Shows.{shows_by, variant_is, what_is_own}
use Rattle.ana_view.proofs.Stays.{descriptor_stays, groups_stay, listed_stays}

and_none : (b : Bool) → (b && false) ≡ false
and_none true = refl
and_none false = refl

-- ---- the plan of an edit, and what it leads to

module _ (old new : Configuration) (edit : Edit) (made : accept old edit ≡ Ok new) where
  as_it_was : (host subsystem : List ℕ) → reaches edit host subsystem ≡ false → StaysAsItWas (seen_by old host) (seen_by new host) subsystem
  as_it_was host subsystem apart = rw made at (stays old edit host subsystem apart)

  shown_as_before : (host subsystem : List ℕ) → reaches edit host subsystem ≡ false → is_shown_of new.shows subsystem host ≡ is_shown_of old.shows subsystem host
  shown_as_before host subsystem apart = rw made at (shown_stays old edit host subsystem apart)

  strangers_as_before : (subsystem : List ℕ) (port : ℕ) → (is_reached (subsystem_reached edit) subsystem && is_none (host_reached edit)) ≡ false
      → listed (seen_by_strangers new) subsystem port ≡ listed (seen_by_strangers old) subsystem port
  strangers_as_before subsystem port apart = listed_stays (seen_by_strangers old) (seen_by_strangers new) subsystem (rw made at (strangers_stay old edit subsystem apart)) port

  unreached : (host subsystem : List ℕ) → reaches edit host subsystem ≡ false → AreThoseReached (seen_by old host) (seen_by new host) subsystem None
  unreached host subsystem apart = descriptor_stays (seen_by old host) (seen_by new host) subsystem (as_it_was host subsystem apart)

  -- what a host had of its own it has still
  own_as_before : (v : Shown) (host subsystem : List ℕ) → ShowsAna old v → reaches edit host subsystem ≡ false → IfSome (own_in v host subsystem) (AreGroupsFor new subsystem host)
  own_as_before v host subsystem shows apart = still (own_in v host subsystem) (what_is_own old v host subsystem shows) where
    still : (o : Option OfSubsystem) → IfSome o (AreGroupsFor old subsystem host) → IfSome o (AreGroupsFor new subsystem host)
    still None are = tt
    still (Some groups) are = groups_stay (seen_by old host) (seen_by new host) subsystem (as_it_was host subsystem apart) groups are

  -- where it reaches nothing
  module _ (none : subsystem_reached edit ≡ None) where
    nowhere : (host subsystem : List ℕ) → reaches edit host subsystem ≡ false
    nowhere host subsystem = ap (λ o. is_reached o subsystem && is_host_reached (host_reached edit) host) none

    pub plans_nothing : PlansEdit old new nothing
    plans_nothing = record { reached = λ host subsystem. unreached host subsystem (nowhere host subsystem) }

    pub leads_nothing : (v : Shown) → ShowsAna old v → LeadsTo new v nothing
    leads_nothing v shows next after =
        shows_by new next
        (λ subsystem port. after.strangers subsystem port ∙ shows.strangers subsystem port ∙ sym (strangers_as_before subsystem port (ap (λ o. is_reached o subsystem && is_none (host_reached edit)) none)))
        (λ host subsystem. ap is_some (after.own host subsystem) ∙ shows.own host subsystem ∙ sym (shown_as_before host subsystem (nowhere host subsystem)))
        (λ host subsystem. subst (λ o. IfSome o (AreGroupsFor new subsystem host)) (sym (after.own host subsystem)) (own_as_before v host subsystem shows (nowhere host subsystem)))

  -- where it reaches a subsystem for every host
  module _ (name : List ℕ) (r : EveryoneReached) (one : subsystem_reached edit ≡ Some name) (all : host_reached edit ≡ None) (of : IsOfEveryone old new name r) where
    other : (subsystem : List ℕ) → bytes_eq subsystem r.subsystem ≡ false → is_reached (subsystem_reached edit) subsystem ≡ false
    other subsystem apart = ap (λ o. is_reached o subsystem) one ∙ either_way name subsystem ∙ ap (bytes_eq subsystem) (sym of.subsystem_is) ∙ apart

    not_reached : (host subsystem : List ℕ) → bytes_eq subsystem r.subsystem ≡ false → reaches edit host subsystem ≡ false
    not_reached host subsystem apart = ap (λ b. b && is_host_reached (host_reached edit) host) (other subsystem apart)

    is_it : (subsystem : List ℕ) → bytes_eq subsystem r.subsystem ≡ true → name ≡ subsystem
    is_it subsystem same = sym (same_name subsystem r.subsystem same ∙ of.subsystem_is)

    pub plans_everyone : PlansEdit old new (everyone r)
    plans_everyone = record {
      reached = λ host subsystem. elim (cases_Bool (bytes_eq subsystem r.subsystem)) [
        | inl same ↦
            rw same (
              subst (λ (s : List ℕ). AreGroupsFor old s host (variant_of r.before host)) (is_it subsystem same) (variant_is old host name r.before of.before),
              subst (λ (s : List ℕ). AreGroupsFor new s host (variant_of r.after host)) (is_it subsystem same) (variant_is new host name r.after of.after),
            )
        | inr apart ↦ rw apart (unreached host subsystem (not_reached host subsystem apart))
      ];
    }

    pub leads_everyone : (v : Shown) → ShowsAna old v → LeadsTo new v (everyone r)
    leads_everyone v shows next after =
        shows_by new next
        (λ subsystem port. after.strangers subsystem port ∙ elim (cases_Bool (bytes_eq subsystem r.subsystem)) [
          | inl same ↦ rw same (of.after.strangers.on_each port ∙ ap (λ (s : List ℕ). listed (seen_by_strangers new) s port) (is_it subsystem same))
          | inr apart ↦ rw apart (shows.strangers subsystem port ∙ sym (strangers_as_before subsystem port (ap (λ b. b && is_none (host_reached edit)) (other subsystem apart))))
        ])
        (λ host subsystem. ap is_some (after.own host subsystem) ∙ elim (cases_Bool (bytes_eq subsystem r.subsystem)) [
          | inl same ↦ rw same (of.after.own.who host ∙ ap (λ (s : List ℕ). is_shown_of new.shows s host) (is_it subsystem same))
          | inr apart ↦ rw apart (shows.own host subsystem ∙ sym (shown_as_before host subsystem (not_reached host subsystem apart)))
        ])
        (λ host subsystem. subst (λ o. IfSome o (AreGroupsFor new subsystem host)) (sym (after.own host subsystem)) (elim (cases_Bool (bytes_eq subsystem r.subsystem)) [
          | inl same ↦ rw same (subst (λ (s : List ℕ). IfSome (value_of r.after.own host) (AreGroupsFor new s host)) (is_it subsystem same) (of.after.own.what host))
          | inr apart ↦ rw apart (own_as_before v host subsystem shows (not_reached host subsystem apart))
        ]))

  -- where it reaches a subsystem for one host
  module _ (name host_name : List ℕ) (r : HostReached) (one : subsystem_reached edit ≡ Some name) (alone : host_reached edit ≡ Some host_name) (of : IsOfHost old new host_name name r) where
    other_two : (host subsystem : List ℕ) → (bytes_eq subsystem r.subsystem && bytes_eq host r.host) ≡ false → reaches edit host subsystem ≡ false
    other_two host subsystem apart =
        ap (λ o. is_reached o subsystem && is_host_reached (host_reached edit) host) one ∙ ap (λ o. bytes_eq name subsystem && is_host_reached o host) alone
        ∙ ap (λ b. b && bytes_eq host_name host) (either_way name subsystem) ∙ ap (λ b. bytes_eq subsystem name && b) (either_way host_name host)
        ∙ ap (λ (s : List ℕ). bytes_eq subsystem s && bytes_eq host host_name) (sym of.subsystem_is) ∙ ap (λ (h : List ℕ). bytes_eq subsystem r.subsystem && bytes_eq host h) (sym of.host_is) ∙ apart

    are_they : (host subsystem : List ℕ) → (bytes_eq subsystem r.subsystem && bytes_eq host r.host) ≡ true → (name ≡ subsystem) × (host_name ≡ host)
    are_they host subsystem both =
        let parts = and_parts (bytes_eq subsystem r.subsystem) (bytes_eq host r.host) both in
        (sym (same_name subsystem r.subsystem parts.0 ∙ of.subsystem_is), sym (same_name host r.host parts.1 ∙ of.host_is))

    strangers_stay_here : (subsystem : List ℕ) → (is_reached (subsystem_reached edit) subsystem && is_none (host_reached edit)) ≡ false
    strangers_stay_here subsystem = ap (λ o. is_reached (subsystem_reached edit) subsystem && is_none o) alone ∙ and_none (is_reached (subsystem_reached edit) subsystem)

    -- what is meant for that host, under other names of it and of the subsystem
    for_them : (c : Configuration) (groups : OfSubsystem) (host subsystem : List ℕ) → (bytes_eq subsystem r.subsystem && bytes_eq host r.host) ≡ true → AreGroupsFor c name host_name groups → AreGroupsFor c subsystem host groups
    for_them c groups host subsystem both are =
        let they = are_they host subsystem both in
        subst (λ (s : List ℕ). AreGroupsFor c s host groups) they.0 (subst (λ (h : List ℕ). AreGroupsFor c name h groups) they.1 are)

    pub plans_one_host : PlansEdit old new (one_host r)
    plans_one_host = record {
      reached = λ host subsystem. elim (cases_Bool (bytes_eq subsystem r.subsystem && bytes_eq host r.host)) [
        | inl both ↦ rw both (for_them old r.before host subsystem both of.before, for_them new r.after host subsystem both of.after)
        | inr apart ↦ rw apart (unreached host subsystem (other_two host subsystem apart))
      ];
    }

    its_own : (host subsystem : List ℕ) → (b : Bool) → AreGroupsFor new subsystem host r.after → IfSome (if b then Some r.after else None) (AreGroupsFor new subsystem host)
    its_own host subsystem true are = are
    its_own host subsystem false are = tt

    has_own : (b : Bool) → is_some (if b then Some r.after else None) ≡ b
    has_own true = refl
    has_own false = refl

    pub leads_one_host : (v : Shown) → ShowsAna old v → LeadsTo new v (one_host r)
    leads_one_host v shows next after =
        shows_by new next
        (λ subsystem port. after.strangers subsystem port ∙ shows.strangers subsystem port ∙ sym (strangers_as_before subsystem port (strangers_stay_here subsystem)))
        (λ host subsystem. ap is_some (after.own host subsystem) ∙ elim (cases_Bool (bytes_eq subsystem r.subsystem && bytes_eq host r.host)) [
          | inl both ↦
              let they = are_they host subsystem both in
              rw both (has_own r.is_own ∙ of.is_own ∙ ap (λ (s : List ℕ). is_shown_of new.shows s host_name) they.0 ∙ ap (λ (h : List ℕ). is_shown_of new.shows subsystem h) they.1)
          | inr apart ↦ rw apart (shows.own host subsystem ∙ sym (shown_as_before host subsystem (other_two host subsystem apart)))
        ])
        (λ host subsystem. subst (λ o. IfSome o (AreGroupsFor new subsystem host)) (sym (after.own host subsystem)) (elim (cases_Bool (bytes_eq subsystem r.subsystem && bytes_eq host r.host)) [
          | inl both ↦ rw both (its_own host subsystem r.is_own (for_them new r.after host subsystem both of.after))
          | inr apart ↦ rw apart (own_as_before v host subsystem shows (other_two host subsystem apart))
        ]))

-- ---- where an edit is known to be accepted alone

if_made : (r : Result Configuration EditFault) (P : Configuration → Type 0) → ((next : Configuration) → r ≡ Ok next → P next) → IfOk r P
if_made (Ok next) P each = each next refl
if_made (Err fault) P each = tt

pub plans_nothing_accepted : (c : Configuration) (edit : Edit) → subsystem_reached edit ≡ None → IfOk (accept c edit) (λ next. PlansEdit c next nothing)
plans_nothing_accepted c edit unreached = if_made (accept c edit) (λ next. PlansEdit c next nothing) (λ next made. plans_nothing c next edit made unreached)

pub leads_nothing_accepted : (c : Configuration) (edit : Edit) → subsystem_reached edit ≡ None → (v : Shown) → ShowsAna c v → IfOk (accept c edit) (λ next. LeadsTo next v nothing)
leads_nothing_accepted c edit unreached v shows = if_made (accept c edit) (λ next. LeadsTo next v nothing) (λ next made. leads_nothing c next edit made unreached v shows)

-- an edit that reaches one host alone makes the configuration with these shows
module _ (c : Configuration) (edit : Edit) (shows : List Show) (name host : List ℕ) (r : HostReached) (changes : ChangesShowsAlone c edit shows) (reached : subsystem_reached edit ≡ Some name) (alone : host_reached edit ≡ Some host)
    (of : IsOfHost c (record c { shows = shows }) host name r) where
  of_next : (next : Configuration) → accept c edit ≡ Ok next → IsOfHost c next host name r
  of_next next made =
      let is : next ≡ record c { shows = shows } = IfOk-at_ok (λ next. (h : List ℕ) → host_reached edit ≡ Some h → next ≡ record c { shows = shows }) made changes host alone in
      subst (λ n. IsOfHost c n host name r) (sym is) of

  pub plans_one_accepted : IfOk (accept c edit) (λ next. PlansEdit c next (one_host r))
  plans_one_accepted = if_made (accept c edit) (λ next. PlansEdit c next (one_host r)) (λ next made. plans_one_host c next edit made name host r reached alone (of_next next made))

  pub leads_one_accepted : (v : Shown) → ShowsAna c v → IfOk (accept c edit) (λ next. LeadsTo next v (one_host r))
  leads_one_accepted v shown = if_made (accept c edit) (λ next. LeadsTo next v (one_host r)) (λ next made. leads_one_host c next edit made name host r reached alone (of_next next made) v shown)

-- ---- what changes

pub none_changed : (group : ℕ) → 1 ≤ group → group ≤ 32 → has_changed (replicate 32 false) group ≡ false
none_changed group above below = get_or-replicate {A = Bool} 32 (group - 1) false false (omega arith)

pub nothing_changes : (old new : Configuration) (subsystem : List ℕ) (port group : ℕ) → AreThoseReached old new subsystem None → changes_group old new subsystem port group ≡ false
nothing_changes old new subsystem port group stays =
    ap (λ d. not (are_same (descriptor old subsystem port group) d)) (stays port group) ∙ ap not (same_itself (descriptor old subsystem port group))

pub differing_changes : (old new : Configuration) (subsystem : List ℕ) (r : BeforeAfter) (port group : ℕ) → AreThoseReached old new subsystem (Some r) → 1 ≤ group → group ≤ 32
    → differs_in (groups_on r.before port) (groups_on r.after port) group ≡ changes_group old new subsystem port group
differing_changes old new subsystem r port group (before, after) above below =
    rw (before.on_each port, after.on_each port, group_in-listed old subsystem port group above below, group_in-listed new subsystem port group above below) refl
