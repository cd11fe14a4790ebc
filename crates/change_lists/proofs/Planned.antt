-- What an edit makes of the lists.
use Rattle.std.proofs.Common.{◌≡◌, ℕ, Bool, true, false, not, ◌&&◌, ◌==◌, Option, Some, None, Result, Ok, Err, IfOk, IfSome, is_none, is_some, List, ◌++◌, bytes_eq, refl, ap, sym, subst, ◌∙◌, inl, inr, if◌then◌else◌}
use Rattle.std.proofs.lemmas.Bool.{and_from, and_parts, cases_Bool, eq-eqb, or_parts}
use Rattle.std.proofs.lemmas.List.Folds.{list_any-append}
use Rattle.std.proofs.lemmas.Result.{IfOk-at_ok}
use Rattle.std.specs.Option.{option_map}
use Rattle.std.specs.Prelude.{unwrap_or}
use Rattle.config_lists.specs.declared.show.Show.{Show}
use Rattle.config_lists.specs.Show.{is_show_in, is_shown_of}
use Rattle.config_lists.proofs.Names.{bytes_eq-same, same_name}
use Rattle.nvt_config.specs.Accept.{accept}
use Rattle.nvt_config.specs.Configuration.{Configuration}
use Rattle.nvt_config.specs.SeenBy.{seen_by, seen_by_strangers}
use Rattle.config_lists.specs.Numbered.{active_nsids, nsids_where}
use Rattle.config_lists.proofs.Sets.{nsids_alike}
use Rattle.config_lists.specs.declared.edit.Edit.{Edit}
use Rattle.config_lists.specs.declared.fault.EditFault.{EditFault}
use Rattle.nvt_config.specs.Reach.{StaysAsItWas, host_reached, is_host_reached, is_reached, reaches, subsystem_reached}
use Rattle.nvt_config.proofs.Found.{same_namespace}
use Rattle.nvt_config.proofs.Others.{shown_stays, stays, strangers_stay, unshown_sees}
use Rattle.nvt_config.proofs.Viewers.{either_way}
use Rattle.nvt_config.specs.Seen.{ChangesShowsAlone}
use Rattle.tables.specs.NameTable.{value_of}
use Rattle.tables.specs.Variants.{variant_of}
use Rattle.change_lists.specs.ActiveView.{AreThoseChanged, EveryoneReached, HostReached, LeadsTo, PlansEdit, Shown, ShowsActive, everyone, nothing, one_host, own_in}
use Rattle.change_lists.specs.Changes.{Attributes, are_same, attributes_in, attributes_of, changes_namespace}
use Rattle.change_lists.specs.Reached.{AreChangesFor, IsListFor, IsOfEveryone, IsOfHost}
use Rattle.change_lists.proofs.Ready.{same_active, shows_by, what_is_own}

-- ---- what changes

bytes_same : (l : List ℕ) → bytes_eq l l ≡ true
bytes_same l = bytes_eq-same l l refl

same_as_itself : (a : Option Attributes) → are_same a a ≡ true
same_as_itself None = refl
same_as_itself (Some a) =
    and_from (a.blocks == a.blocks) _ (eq-eqb a.blocks a.blocks refl)
    (and_from (a.block_size == a.block_size) (bytes_eq a.uuid a.uuid) (eq-eqb a.block_size a.block_size refl) (bytes_same a.uuid))

-- a namespace of a subsystem that stays does not change
stays_unchanged : (old new : Configuration) (subsystem : List ℕ) → StaysAsItWas old new subsystem → (nsid : ℕ) → changes_namespace old new subsystem nsid ≡ false
stays_unchanged old new subsystem stays nsid =
    ap (λ a. not (are_same (attributes_in old subsystem nsid) a)) (ap (option_map attributes_of) (same_namespace old new subsystem stays nsid))
    ∙ ap not (same_as_itself (attributes_in old subsystem nsid))

-- what changes is the same for two who see the same of both
changes_alike : (old new other_old other_new : Configuration) (subsystem : List ℕ) → StaysAsItWas old other_old subsystem → StaysAsItWas new other_new subsystem
    → nsids_where (changes_namespace old new subsystem) ≡ nsids_where (changes_namespace other_old other_new subsystem)
changes_alike old new other_old other_new subsystem before after =
    nsids_alike (changes_namespace old new subsystem) (changes_namespace other_old other_new subsystem) (λ nsid above below.
    sym (ap (λ a. not (are_same a (attributes_in other_new subsystem nsid))) (ap (option_map attributes_of) (same_namespace old other_old subsystem before nsid))
    ∙ ap (λ a. not (are_same (attributes_in old subsystem nsid) a)) (ap (option_map attributes_of) (same_namespace new other_new subsystem after nsid))))

neither_shown : (old new : Configuration) (subsystem host : List ℕ) → is_shown_of (old.shows ++ new.shows) subsystem host ≡ false
    → (is_shown_of old.shows subsystem host ≡ false) × (is_shown_of new.shows subsystem host ≡ false)
neither_shown old new subsystem host none =
    or_parts (is_shown_of old.shows subsystem host) (is_shown_of new.shows subsystem host) (sym (list_any-append (is_show_in subsystem host) old.shows new.shows) ∙ none)

-- a host that has no changes of its own sees those of strangers
changed_by_own : (old new : Configuration) (host subsystem strangers : List ℕ) (own : Option (List ℕ)) → strangers ≡ nsids_where (changes_namespace (seen_by_strangers old) (seen_by_strangers new) subsystem)
    → is_some own ≡ is_shown_of (old.shows ++ new.shows) subsystem host → IfSome own (AreChangesFor old new subsystem host) → AreChangesFor old new subsystem host (unwrap_or own strangers)
changed_by_own old new host subsystem strangers (Some changed) is who what = what
changed_by_own old new host subsystem strangers None is who what =
    let none = neither_shown old new subsystem host (sym who) in
    is ∙ changes_alike (seen_by_strangers old) (seen_by_strangers new) (seen_by old host) (seen_by new host) subsystem (unshown_sees old host subsystem none.0) (unshown_sees new host subsystem none.1)

and_none : (b : Bool) → (b && false) ≡ false
and_none true = refl
and_none false = refl

-- what a plan lends is what changes
pub lent_changed : (old new : Configuration) (subsystem : List ℕ) (o lent : Option (List ℕ)) → AreThoseChanged old new subsystem o → lent ≡ o → AreThoseChanged old new subsystem lent
lent_changed old new subsystem o lent those is = subst (AreThoseChanged old new subsystem) (sym is) those

-- ---- the plan of an edit, and what it leads to

module _ (old new : Configuration) (edit : Edit) (made : accept old edit ≡ Ok new) where
  as_it_was : (host subsystem : List ℕ) → reaches edit host subsystem ≡ false → StaysAsItWas (seen_by old host) (seen_by new host) subsystem
  as_it_was host subsystem apart = rw made at (stays old edit host subsystem apart)

  shown_as_before : (host subsystem : List ℕ) → reaches edit host subsystem ≡ false → is_shown_of new.shows subsystem host ≡ is_shown_of old.shows subsystem host
  shown_as_before host subsystem apart = rw made at (shown_stays old edit host subsystem apart)

  strangers_as_before : (subsystem : List ℕ) → (is_reached (subsystem_reached edit) subsystem && is_none (host_reached edit)) ≡ false
      → (let before = seen_by_strangers old in let after = seen_by_strangers new in active_nsids after.namespaces subsystem ≡ active_nsids before.namespaces subsystem)
  strangers_as_before subsystem apart = same_active (seen_by_strangers old) (seen_by_strangers new) subsystem (rw made at (strangers_stay old edit subsystem apart))

  unchanged : (host subsystem : List ℕ) → reaches edit host subsystem ≡ false → AreThoseChanged (seen_by old host) (seen_by new host) subsystem None
  unchanged host subsystem apart nsid = stays_unchanged (seen_by old host) (seen_by new host) subsystem (as_it_was host subsystem apart) nsid

  -- what a host had of its own it has still
  own_as_before : (v : Shown) (host subsystem : List ℕ) → ShowsActive old v → reaches edit host subsystem ≡ false → IfSome (own_in v host subsystem) (IsListFor new subsystem host)
  own_as_before v host subsystem shows apart = still (own_in v host subsystem) (what_is_own old v host subsystem shows) where
    still : (o : Option (List ℕ)) → IfSome o (IsListFor old subsystem host) → IfSome o (IsListFor new subsystem host)
    still None is = tt
    still (Some list) is = is ∙ sym (same_active (seen_by old host) (seen_by new host) subsystem (as_it_was host subsystem apart))

  -- where it reaches nothing
  module _ (none : subsystem_reached edit ≡ None) where
    nowhere : (host subsystem : List ℕ) → reaches edit host subsystem ≡ false
    nowhere host subsystem = ap (λ o. is_reached o subsystem && is_host_reached (host_reached edit) host) none

    pub plans_nothing : PlansEdit old new nothing
    plans_nothing = record { changed = λ host subsystem. unchanged host subsystem (nowhere host subsystem) }

    pub leads_nothing : (v : Shown) → ShowsActive old v → LeadsTo new v nothing
    leads_nothing v shows next after =
        shows_by new next
        (λ subsystem. after.strangers subsystem ∙ shows.strangers subsystem ∙ sym (strangers_as_before subsystem (ap (λ o. is_reached o subsystem && is_none (host_reached edit)) none)))
        (λ host subsystem. ap is_some (after.own host subsystem) ∙ shows.own host subsystem ∙ sym (shown_as_before host subsystem (nowhere host subsystem)))
        (λ host subsystem. subst (λ o. IfSome o (IsListFor new subsystem host)) (sym (after.own host subsystem)) (own_as_before v host subsystem shows (nowhere host subsystem)))

  -- where it reaches a subsystem for every host
  module _ (name : List ℕ) (r : EveryoneReached) (one : subsystem_reached edit ≡ Some name) (all : host_reached edit ≡ None) (of : IsOfEveryone old new name r) where
    other : (subsystem : List ℕ) → bytes_eq subsystem r.subsystem ≡ false → is_reached (subsystem_reached edit) subsystem ≡ false
    other subsystem apart = ap (λ o. is_reached o subsystem) one ∙ either_way name subsystem ∙ ap (bytes_eq subsystem) (sym of.subsystem_is) ∙ apart

    not_reached : (host subsystem : List ℕ) → bytes_eq subsystem r.subsystem ≡ false → reaches edit host subsystem ≡ false
    not_reached host subsystem apart = ap (λ b. b && is_host_reached (host_reached edit) host) (other subsystem apart)

    is_it : (subsystem : List ℕ) → bytes_eq subsystem r.subsystem ≡ true → name ≡ subsystem
    is_it subsystem same = sym (same_name subsystem r.subsystem same ∙ of.subsystem_is)

    pub plans_everyone : PlansEdit old new (everyone r)
    plans_everyone = record {
      changed = λ host subsystem. elim (cases_Bool (bytes_eq subsystem r.subsystem)) [
        | inl same ↦
            rw same (subst (λ (s : List ℕ). AreChangesFor old new s host (variant_of r.changed host)) (is_it subsystem same)
            (changed_by_own old new host name r.changed.common (value_of r.changed.own host) of.strangers_changed (of.own_changed.who host) (of.own_changed.what host)))
        | inr apart ↦ rw apart (unchanged host subsystem (not_reached host subsystem apart))
      ];
    }

    pub leads_everyone : (v : Shown) → ShowsActive old v → LeadsTo new v (everyone r)
    leads_everyone v shows next after =
        let strangers : Configuration = seen_by_strangers new in
        shows_by new next
        (λ subsystem. after.strangers subsystem ∙ elim (cases_Bool (bytes_eq subsystem r.subsystem)) [
          | inl same ↦ rw same (of.strangers ∙ ap (active_nsids strangers.namespaces) (is_it subsystem same))
          | inr apart ↦ rw apart (shows.strangers subsystem ∙ sym (strangers_as_before subsystem (ap (λ b. b && is_none (host_reached edit)) (other subsystem apart))))
        ])
        (λ host subsystem. ap is_some (after.own host subsystem) ∙ elim (cases_Bool (bytes_eq subsystem r.subsystem)) [
          | inl same ↦ rw same (of.own.who host ∙ ap (λ (s : List ℕ). is_shown_of new.shows s host) (is_it subsystem same))
          | inr apart ↦ rw apart (shows.own host subsystem ∙ sym (shown_as_before host subsystem (not_reached host subsystem apart)))
        ])
        (λ host subsystem. subst (λ o. IfSome o (IsListFor new subsystem host)) (sym (after.own host subsystem)) (elim (cases_Bool (bytes_eq subsystem r.subsystem)) [
          | inl same ↦ rw same (subst (λ (s : List ℕ). IfSome (value_of r.lists.own host) (IsListFor new s host)) (is_it subsystem same) (of.own.what host))
          | inr apart ↦ rw apart (own_as_before v host subsystem shows (not_reached host subsystem apart))
        ]))

  -- where it reaches a subsystem for one host
  module _ (name host_name : List ℕ) (r : HostReached) (one : subsystem_reached edit ≡ Some name) (alone : host_reached edit ≡ Some host_name) (of : IsOfHost old new host_name name r) where
    other_two : (host subsystem : List ℕ) → (bytes_eq subsystem r.subsystem && bytes_eq host r.host) ≡ false → reaches edit host subsystem ≡ false
    other_two host subsystem apart =
        ap (λ o. is_reached o subsystem && is_host_reached (host_reached edit) host) one ∙ ap (λ o. bytes_eq name subsystem && is_host_reached o host) alone
        ∙ ap (λ b. b && bytes_eq host_name host) (either_way name subsystem) ∙ ap (λ b. bytes_eq subsystem name && b) (either_way host_name host)
        ∙ ap (λ (s : List ℕ). bytes_eq subsystem s && bytes_eq host host_name) (sym of.subsystem_is) ∙ ap (λ (h : List ℕ). bytes_eq subsystem r.subsystem && bytes_eq host h) (sym of.host_is) ∙ apart

    are_they : (host subsystem : List ℕ) → (bytes_eq subsystem r.subsystem && bytes_eq host r.host) ≡ true → (name ≡ subsystem) × (host_name ≡ host)
    are_they host subsystem both =
        let parts = and_parts (bytes_eq subsystem r.subsystem) (bytes_eq host r.host) both in
        (sym (same_name subsystem r.subsystem parts.0 ∙ of.subsystem_is), sym (same_name host r.host parts.1 ∙ of.host_is))

    strangers_stay_here : (subsystem : List ℕ) → (is_reached (subsystem_reached edit) subsystem && is_none (host_reached edit)) ≡ false
    strangers_stay_here subsystem = ap (λ o. is_reached (subsystem_reached edit) subsystem && is_none o) alone ∙ and_none (is_reached (subsystem_reached edit) subsystem)

    pub plans_one_host : PlansEdit old new (one_host r)
    plans_one_host = record {
      changed = λ host subsystem. elim (cases_Bool (bytes_eq subsystem r.subsystem && bytes_eq host r.host)) [
        | inl both ↦
            let they = are_they host subsystem both in
            rw both (subst (λ (s : List ℕ). AreChangesFor old new s host r.changed) they.0 (subst (λ (h : List ℕ). AreChangesFor old new name h r.changed) they.1 of.changed))
        | inr apart ↦ rw apart (unchanged host subsystem (other_two host subsystem apart))
      ];
    }

    its_own : (host subsystem : List ℕ) → (b : Bool) → IsListFor new subsystem host r.nsids → IfSome (if b then Some r.nsids else None) (IsListFor new subsystem host)
    its_own host subsystem true is = is
    its_own host subsystem false is = tt

    has_own : (b : Bool) → is_some (if b then Some r.nsids else None) ≡ b
    has_own true = refl
    has_own false = refl

    pub leads_one_host : (v : Shown) → ShowsActive old v → LeadsTo new v (one_host r)
    leads_one_host v shows next after =
        shows_by new next
        (λ subsystem. after.strangers subsystem ∙ shows.strangers subsystem ∙ sym (strangers_as_before subsystem (strangers_stay_here subsystem)))
        (λ host subsystem. ap is_some (after.own host subsystem) ∙ elim (cases_Bool (bytes_eq subsystem r.subsystem && bytes_eq host r.host)) [
          | inl both ↦
              let they = are_they host subsystem both in
              rw both (has_own r.is_own ∙ of.is_own ∙ ap (λ (s : List ℕ). is_shown_of new.shows s host_name) they.0 ∙ ap (λ (h : List ℕ). is_shown_of new.shows subsystem h) they.1)
          | inr apart ↦ rw apart (shows.own host subsystem ∙ sym (shown_as_before host subsystem (other_two host subsystem apart)))
        ])
        (λ host subsystem. subst (λ o. IfSome o (IsListFor new subsystem host)) (sym (after.own host subsystem)) (elim (cases_Bool (bytes_eq subsystem r.subsystem && bytes_eq host r.host)) [
          | inl both ↦
              let they = are_they host subsystem both in
              rw both (its_own host subsystem r.is_own (subst (λ (s : List ℕ). IsListFor new s host r.nsids) they.0 (subst (λ (h : List ℕ). IsListFor new name h r.nsids) they.1 of.nsids)))
          | inr apart ↦ rw apart (own_as_before v host subsystem shows (other_two host subsystem apart))
        ]))

-- ---- where an edit is known to be accepted alone

if_made : (r : Result Configuration EditFault) (P : Configuration → Type 0) → ((next : Configuration) → r ≡ Ok next → P next) → IfOk r P
if_made (Ok next) P each = each next refl
if_made (Err fault) P each = tt

pub leads_nothing_accepted : (c : Configuration) (edit : Edit) (v : Shown) → subsystem_reached edit ≡ None → ShowsActive c v → IfOk (accept c edit) (λ next. LeadsTo next v nothing)
leads_nothing_accepted c edit v none shows = if_made (accept c edit) (λ next. LeadsTo next v nothing) (λ next made. leads_nothing c next edit made none v shows)

pub plans_nothing_accepted : (c : Configuration) (edit : Edit) → subsystem_reached edit ≡ None → IfOk (accept c edit) (λ next. PlansEdit c next nothing)
plans_nothing_accepted c edit none = if_made (accept c edit) (λ next. PlansEdit c next nothing) (λ next made. plans_nothing c next edit made none)

-- an edit that reaches one host alone makes the configuration with these shows
module _ (c : Configuration) (edit : Edit) (shows : List Show) (name host : List ℕ) (r : HostReached) (changes : ChangesShowsAlone c edit shows) (reached : subsystem_reached edit ≡ Some name) (alone : host_reached edit ≡ Some host)
    (of : IsOfHost c (record c { shows = shows }) host name r) where
  of_next : (next : Configuration) → accept c edit ≡ Ok next → IsOfHost c next host name r
  of_next next made =
      let is : next ≡ record c { shows = shows } = IfOk-at_ok (λ next. (h : List ℕ) → host_reached edit ≡ Some h → next ≡ record c { shows = shows }) made changes host alone in
      subst (λ n. IsOfHost c n host name r) (sym is) of

  pub plans_one_accepted : IfOk (accept c edit) (λ next. PlansEdit c next (one_host r))
  plans_one_accepted = if_made (accept c edit) (λ next. PlansEdit c next (one_host r)) (λ next made. plans_one_host c next edit made name host r reached alone (of_next next made))

  pub leads_one_accepted : (v : Shown) → ShowsActive c v → IfOk (accept c edit) (λ next. LeadsTo next v (one_host r))
  leads_one_accepted v shown = if_made (accept c edit) (λ next. LeadsTo next v (one_host r)) (λ next made. leads_one_host c next edit made name host r reached alone (of_next next made) v shown)
