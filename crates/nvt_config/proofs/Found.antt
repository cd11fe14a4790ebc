-- What is found of a subsystem is found among its own, and nothing of one that is not there.
use Rattle.std.proofs.Common.{◌≡◌, ◌==◌, ℕ, Bool, true, false, None, List, [], ◌∷◌, All, Any, filter, find, bytes_eq, refl, ap, sym, subst, ◌∙◌, inl, inr}
use Rattle.std.proofs.lemmas.Bool.{and_parts, both_ways, cases_Bool, false_from_ne_true}
use Rattle.std.proofs.lemmas.List.Elements.{All-head, All-tail}
use Rattle.std.proofs.lemmas.List.Folds.{Any-from_list_any}
use Rattle.config_lists.specs.declared.group_state.GroupState.{GroupState}
use Rattle.config_lists.specs.declared.namespace.Namespace.{Namespace}
use Rattle.config_lists.specs.declared.show.Show.{Show}
use Rattle.config_lists.specs.GroupState.{is_state_for, is_state_on, state_for, state_or}
use Rattle.config_lists.specs.Namespace.{is_named}
use Rattle.config_lists.specs.Show.{is_show_in, is_shown_of}
use Rattle.config_lists.proofs.Names.{same_name}
use Rattle.nvt_config.specs.Configuration.{Configuration, has_subsystem}
use Rattle.nvt_config.specs.Valid.{IsNamespace, IsShow, IsValid}
use Rattle.nvt_config.specs.Reach.{StaysAsItWas}

found_among : {X : Type 0} (p test : X → Bool) → ((x : X) → test x ≡ true → p x ≡ true) → (xs : List X) → find test (filter p xs) ≡ find test xs
found_among p test passes [] = refl
found_among p test passes (x ∷ xs) =
    elim (cases_Bool (test x)) [
      | inl is ↦ rw (passes x is, is) refl
      | inr not_it ↦ elim (cases_Bool (p x)) [
        | inl kept ↦ rw (kept, not_it) (found_among p test passes xs)
        | inr left ↦ rw (left, not_it) (found_among p test passes xs)
      ]
    ]

module _ (old new : Configuration) (subsystem : List ℕ) (stays : StaysAsItWas old new subsystem) where
  -- the namespace of an identifier is the one that it was
  pub same_namespace : (nsid : ℕ) → find (is_named subsystem nsid) new.namespaces ≡ find (is_named subsystem nsid) old.namespaces
  same_namespace nsid =
      let own : Namespace → Bool = λ n. bytes_eq n.subsystem subsystem in
      let named : (n : Namespace) → is_named subsystem nsid n ≡ true → own n ≡ true = λ n is. (and_parts (own n) (n.nsid == nsid) is).0 in
      sym (found_among own (is_named subsystem nsid) named new.namespaces)
      ∙ ap (find (is_named subsystem nsid)) stays.namespaces
      ∙ found_among own (is_named subsystem nsid) named old.namespaces

  -- the state of a group on a port is the one that it was
  pub same_state : (port group : ℕ) → state_for port subsystem group new.states ≡ state_for port subsystem group old.states
  same_state port group =
      let own : GroupState → Bool = λ s. bytes_eq s.subsystem subsystem in
      let for_it : GroupState → Bool = is_state_for port subsystem group in
      let named : (s : GroupState) → for_it s ≡ true → own s ≡ true =
      λ s is. (and_parts (s.port == port) (own s) (and_parts (is_state_on port subsystem s) (s.group == group) is).0).1 in
      ap state_or (sym (found_among own for_it named new.states) ∙ ap (find for_it) stays.states ∙ found_among own for_it named old.states)

-- ---- a subsystem that is not there

none_of : (c : Configuration) (subsystem : List ℕ) (nsid : ℕ) (namespaces : List Namespace) → All (IsNamespace c.units c.subsystems) namespaces → has_subsystem c.subsystems subsystem ≡ false
    → find (is_named subsystem nsid) namespaces ≡ None
none_of c subsystem nsid [] sound none = refl
none_of c subsystem nsid (n ∷ namespaces) sound none =
    elim (cases_Bool (is_named subsystem nsid n)) [
      | inl is ↦
          let parts = and_parts (bytes_eq n.subsystem subsystem) (n.nsid == nsid) is in
          let own = (All-head (IsNamespace c.units c.subsystems) n namespaces sound).subsystem in
          let there : has_subsystem c.subsystems subsystem ≡ true = subst (λ (s : List ℕ). has_subsystem c.subsystems s ≡ true) (same_name n.subsystem subsystem parts.0) own in
          absurd (both_ways (has_subsystem c.subsystems subsystem) none there)
      | inr not_it ↦ rw not_it (none_of c subsystem nsid namespaces (All-tail (IsNamespace c.units c.subsystems) n namespaces sound) none)
    ]

pub none_found : (c : Configuration) (subsystem : List ℕ) → IsValid c → has_subsystem c.subsystems subsystem ≡ false → (nsid : ℕ) → find (is_named subsystem nsid) c.namespaces ≡ None
none_found c subsystem valid none nsid = none_of c subsystem nsid c.namespaces valid.namespaces.sound none

-- and nobody is shown anything of it
pub unshown_absent : (c : Configuration) (subsystem host : List ℕ) → IsValid c → has_subsystem c.subsystems subsystem ≡ false → is_shown_of c.shows subsystem host ≡ false
unshown_absent c subsystem host valid none =
    false_from_ne_true (is_shown_of c.shows subsystem host) (λ shown.
    let any : Any (λ s. is_show_in subsystem host s ≡ true) c.shows = Any-from_list_any (is_show_in subsystem host) c.shows shown in
    let s : Show = any.1 in
    let sound : IsShow c.namespaces c.hosts s = subst (λ (x : Show). IsShow c.namespaces c.hosts x) any.3 (valid.shows.sound any.0 s any.2) in
    let own : bytes_eq s.subsystem subsystem ≡ true = (and_parts (bytes_eq s.subsystem subsystem) (bytes_eq s.host host) any.4).0 in
    let of_it : Any (λ n. is_named s.subsystem s.nsid n ≡ true) c.namespaces = Any-from_list_any (is_named s.subsystem s.nsid) c.namespaces sound.named_namespace in
    let n : Namespace = of_it.1 in
    let there : IsNamespace c.units c.subsystems n = subst (λ (x : Namespace). IsNamespace c.units c.subsystems x) of_it.3 (valid.namespaces.sound of_it.0 n of_it.2) in
    let named : n.subsystem ≡ subsystem = same_name n.subsystem s.subsystem (and_parts (bytes_eq n.subsystem s.subsystem) (n.nsid == s.nsid) of_it.4).0 ∙ same_name s.subsystem subsystem own in
    both_ways (has_subsystem c.subsystems subsystem) none (subst (λ (l : List ℕ). has_subsystem c.subsystems l ≡ true) named there.subsystem))
