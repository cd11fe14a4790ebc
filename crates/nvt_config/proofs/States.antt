-- What a change of the ANA states keeps.
use Rattle.std.proofs.Common.{◌≡◌, ◌==◌, ◌++◌, ◌∷◌, [], ℕ, Bool, true, false, not, List, IsFalse, get_or, refl, inl, inr, if◌then◌else◌}
use Rattle.std.proofs.lemmas.Bool.{and_from, cases_Bool, cond_both, eq-eqb, not-true}
use Rattle.std.proofs.lemmas.List.Elements.{All-push, All-filter, filter_passes}
use Rattle.std.proofs.lemmas.List.Kept.{AllPairs-filter}
use Rattle.std.specs.Str.{bytes_eq}
use Rattle.config_lists.specs.declared.group_state.AnaState.{AnaState}
use Rattle.config_lists.specs.declared.group_state.GroupState.{GroupState}
use Rattle.config_lists.specs.declared.link.Link.{Link}
use Rattle.config_lists.specs.GroupState.{is_optimized, is_state_for, is_state_on, with_state}
use Rattle.config_lists.specs.Lists.{changed_where, without}
use Rattle.config_lists.specs.Namespace.{is_group}
use Rattle.config_lists.proofs.Distinct.{distinct-push, distinct_after}
use Rattle.config_lists.proofs.Lists.{All-changed_where}
use Rattle.config_lists.proofs.Names.{bytes_eq-same}
use Rattle.nvt_config.specs.Configuration.{Configuration, has_link, has_state, with_ana_state, with_new_state, with_state_set, without_state}
use Rattle.nvt_config.specs.Valid.{AreStates, IsGroupState, IsValid}

-- two states for the same port, subsystem and group
abbrev IsSameState : GroupState → GroupState → Type 0
IsSameState s t = (s.port ≡ t.port) × (s.subsystem ≡ t.subsystem) × (s.group ≡ t.group)

AreStates-push : (links : List Link) (states : List GroupState) (s : GroupState) → AreStates links states → IsGroupState links s → has_state states s.port s.subsystem s.group ≡ false → AreStates links (states ++ s ∷ [])
AreStates-push links states s valid sound absent = record {
  sound = All-push (IsGroupState links) states s valid.sound sound;
  distinct = distinct-push IsSameState (is_state_for s.port s.subsystem s.group) states s valid.distinct absent (λ t same.
      and_from (is_state_on s.port s.subsystem t) (t.group == s.group)
      (and_from (t.port == s.port) (bytes_eq t.subsystem s.subsystem) (eq-eqb t.port s.port same.0) (bytes_eq-same t.subsystem s.subsystem same.1))
      (eq-eqb t.group s.group same.2));
}

AreStates-set : (links : List Link) (states : List GroupState) (test : GroupState → Bool) (state : AnaState) → AreStates links states → IsFalse (is_optimized state) → AreStates links (changed_where test (with_state state) states)
AreStates-set links states test state valid other = record {
  sound = All-changed_where (IsGroupState links) test (with_state state) (λ s old. record { link = old.link; group = old.group; state = other }) states valid.sound;
  distinct = distinct_after IsSameState test (with_state state) (λ s t same. same) (λ s t same. same) states valid.distinct;
}

AreStates-without : (links : List Link) (states : List GroupState) (test : GroupState → Bool) → AreStates links states → AreStates links (without test states)
AreStates-without links states test valid = record {
  sound = All-filter (λ s. not (test s)) (IsGroupState links) states valid.sound;
  distinct = AllPairs-filter (λ s t. ¬ IsSameState s t) (λ s. not (test s)) states valid.distinct;
}

-- the states that are left, where each whose link goes is among those that go
pub AreStates-elsewhere : (ks ls : List Link) (states : List GroupState) (test : GroupState → Bool) → ((s : GroupState) → test s ≡ false → has_link ks s.port s.subsystem ≡ true → has_link ls s.port s.subsystem ≡ true) → AreStates ks states → AreStates ls (without test states)
AreStates-elsewhere ks ls states test stay valid =
    let left : List GroupState = without test states in
    let kept : AreStates ks left = AreStates-without ks states test valid in
    record {
      sound = λ k d below.
          let old : IsGroupState ks (get_or left k d) = kept.sound k d below in
          let stays : test (get_or left k d) ≡ false = not-true (test (get_or left k d)) (filter_passes (λ s. not (test s)) states k d below) in
          record { link = stay (get_or left k d) stays old.link; group = old.group; state = old.state };
      distinct = kept.distinct;
    }

-- where no link goes each state stays
pub AreStates-more : (ks ls : List Link) (states : List GroupState) → ((s : GroupState) → has_link ks s.port s.subsystem ≡ true → has_link ls s.port s.subsystem ≡ true) → AreStates ks states → AreStates ls states
AreStates-more ks ls states stay valid = record {
  sound = λ k d below.
      let old : IsGroupState ks (get_or states k d) = valid.sound k d below in
      record { link = stay (get_or states k d) old.link; group = old.group; state = old.state };
  distinct = valid.distinct;
}

-- a state that is set changes the states alone
pub states_alone : (c : Configuration) (port : ℕ) (nqn : List ℕ) (group : ℕ) (state : AnaState) → with_ana_state c port nqn group state ≡ record c { states = (with_ana_state c port nqn group state).states }
states_alone c port nqn group state =
    elim (cases_Bool (is_optimized state)) [
      | inl optimized ↦ rw optimized refl
      | inr set ↦ rw set (elim (cases_Bool (has_state c.states port nqn group)) [ inl there ↦ rw there refl | inr new ↦ rw new refl ])
    ]

-- what is true of a configuration stays where its states alone change
with_states : (c : Configuration) (states : List GroupState) → IsValid c → AreStates c.links states → IsValid (record c { states = states })
with_states c states valid sound = record {
  disks = valid.disks;
  subsystems = valid.subsystems;
  namespaces = valid.namespaces;
  ports = valid.ports;
  links = valid.links;
  hosts = valid.hosts;
  allows = valid.allows;
  states = sound;
  referrals = valid.referrals;
  shows = valid.shows;
}

pub IsValid-with_ana_state : (c : Configuration) (port : ℕ) (nqn : List ℕ) (group : ℕ) (state : AnaState) → IsValid c → is_group group ≡ true → has_link c.links port nqn ≡ true → IsValid (with_ana_state c port nqn group state)
IsValid-with_ana_state c port nqn group state valid sound linked =
    let for : GroupState → Bool = is_state_for port nqn group in
    let new : GroupState = record { port = port; subsystem = nqn; group = group; state = state } in
    let rest : Configuration = if has_state c.states port nqn group then with_state_set c port nqn group state else with_new_state c new in
    cond_both (is_optimized state) (without_state c port nqn group) rest IsValid
    (λ _. with_states c (without for c.states) valid (AreStates-without c.links c.states for valid.states))
    (λ other. cond_both (has_state c.states port nqn group) (with_state_set c port nqn group state) (with_new_state c new) IsValid
    (λ _. with_states c (changed_where for (with_state state) c.states) valid (AreStates-set c.links c.states for state valid.states other))
    (λ absent. with_states c (c.states ++ new ∷ []) valid (AreStates-push c.links c.states new valid.states (record { link = linked; group = sound; state = other }) absent)))
