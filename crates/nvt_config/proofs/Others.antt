-- What an edit leaves of what hosts see, but for the subsystem and the host that it reaches.
use Rattle.std.proofs.Common.{◌≡◌, ◌==◌, ℕ, Bool, true, false, List, [], ◌∷◌, ◌++◌, ◌&&◌, ◌||◌, ◌⊎◌, Option, None, Some, IfOk, is_none, filter, bytes_eq, refl, ap, sym, subst, ◌∙◌, inl, inr}
use Rattle.std.proofs.lemmas.Bool.{and_cases, and_from, and_parts, both_ways, cases_Bool, false_from_ne_true, or_parts}
use Rattle.std.proofs.lemmas.List.{append-nil}
use Rattle.std.proofs.lemmas.List.Elements.{filter-append}
use Rattle.std.proofs.lemmas.List.Folds.{list_any-append}
use Rattle.config_lists.specs.declared.group_state.AnaState.{AnaState}
use Rattle.config_lists.specs.declared.group_state.GroupState.{GroupState}
use Rattle.config_lists.specs.declared.namespace.Namespace.{Namespace}
use Rattle.config_lists.specs.declared.namespace.Setting.TheVariants.{Blocks, Group, Visibility as VisibilitySet}
use Rattle.config_lists.specs.declared.namespace.Visibility.{Visibility}
use Rattle.config_lists.specs.declared.show.Show.{Show}
use Rattle.config_lists.specs.GroupState.{is_optimized, is_state_for, is_state_on, with_state}
use Rattle.config_lists.specs.Lists.{changed_where, without}
use Rattle.config_lists.specs.Namespace.{is_for_all, is_named, with_setting}
use Rattle.config_lists.specs.Show.{has_show, is_seen, is_show_in, is_show_of, is_show_to, is_shown_of}
use Rattle.config_lists.proofs.Lists.{list_any-without}
use Rattle.config_lists.proofs.Names.{same_name}
use Rattle.config_lists.specs.declared.edit.Edit.{Edit}
use Rattle.config_lists.specs.declared.edit.Edit.TheVariants.{NamespaceAdd, NamespaceSize, NamespaceGroup, NamespaceDel, NamespaceView, NamespaceShow, NamespaceHide, LinkDel, HostAdd, AnaSet}
use Rattle.std.specs.List.{list_any}
use Rattle.nvt_config.specs.Accept.{accept, effect, namespace_of}
use Rattle.nvt_config.specs.Configuration.{Configuration, has_state, with_ana_state, with_host, with_namespace, with_namespace_set, with_show, without_link, without_namespace}
use Rattle.nvt_config.proofs.Hosts.{hosts_alone}
use Rattle.nvt_config.proofs.Refusals.{IfOk-effect}
use Rattle.nvt_config.proofs.States.{states_alone}
use Rattle.nvt_config.specs.SeenBy.{seen_by, seen_by_strangers}
use Rattle.nvt_config.specs.Reach.{OthersStay, StaysAsItWas, host_reached, is_host_reached, is_reached, namespaces_of, reaches, subsystem_reached}

-- ---- what passes a test, after a change of items that fail it

module _ {X : Type 0} (p : X → Bool) where
  kept_push : (xs : List X) (y : X) → p y ≡ false → filter p (xs ++ y ∷ []) ≡ filter p xs
  kept_push xs y fails = rw (filter-append, fails) (append-nil (filter p xs))

  module _ (test : X → Bool) (fails : (x : X) → test x ≡ true → p x ≡ false) where
    kept_without : (xs : List X) → filter p (without test xs) ≡ filter p xs
    kept_without [] = refl
    kept_without (x ∷ xs) =
        elim (cases_Bool (test x)) [
          | inl is ↦ rw is (rw (fails x is) (kept_without xs))
          | inr not_it ↦ rw not_it (elim (cases_Bool (p x)) [
            | inl kept ↦ rw kept (ap (λ l. x ∷ l) (kept_without xs))
            | inr left ↦ rw left (kept_without xs)
          ])
        ]

    kept_changed : (change : X → X) → ((x : X) → test x ≡ true → p (change x) ≡ false) → (xs : List X) → filter p (changed_where test change xs) ≡ filter p xs
    kept_changed change after [] = refl
    kept_changed change after (x ∷ xs) =
        elim (cases_Bool (test x)) [
          | inl is ↦ rw is (rw (fails x is, after x is) (kept_changed change after xs))
          | inr not_it ↦ rw not_it (elim (cases_Bool (p x)) [
            | inl kept ↦ rw kept (ap (λ l. x ∷ l) (kept_changed change after xs))
            | inr left ↦ rw left (kept_changed change after xs)
          ])
        ]

-- ---- what an accepted edit leaves

module _ (c : Configuration) (subsystem : List ℕ) where
  abbrev Stays : Configuration → Type 0
  Stays next = StaysAsItWas c next subsystem

  abbrev own : Namespace → Bool
  own n = bytes_eq n.subsystem subsystem

  abbrev own_state : GroupState → Bool
  own_state s = bytes_eq s.subsystem subsystem

  -- what has the name of another is not this one's
  other : (nqn name : List ℕ) → bytes_eq nqn subsystem ≡ false → bytes_eq name nqn ≡ true → bytes_eq name subsystem ≡ false
  other nqn name apart same = subst (λ (l : List ℕ). bytes_eq l subsystem ≡ false) (sym (same_name name nqn same)) apart

  other_namespace : (nqn : List ℕ) (nsid : ℕ) → bytes_eq nqn subsystem ≡ false → (n : Namespace) → is_named nqn nsid n ≡ true → own n ≡ false
  other_namespace nqn nsid apart n named =
      let parts = and_parts (bytes_eq n.subsystem nqn) (n.nsid == nsid) named in
      other nqn n.subsystem apart parts.0

  other_on : (port : ℕ) (nqn : List ℕ) → bytes_eq nqn subsystem ≡ false → (s : GroupState) → is_state_on port nqn s ≡ true → own_state s ≡ false
  other_on port nqn apart s on =
      let parts = and_parts (s.port == port) (bytes_eq s.subsystem nqn) on in
      other nqn s.subsystem apart parts.1

  other_for : (port : ℕ) (nqn : List ℕ) (group : ℕ) → bytes_eq nqn subsystem ≡ false → (s : GroupState) → is_state_for port nqn group s ≡ true → own_state s ≡ false
  other_for port nqn group apart s is =
      let parts = and_parts (is_state_on port nqn s) (s.group == group) is in
      other_on port nqn apart s parts.0

  -- neither namespaces nor states change
  same : (next : Configuration) → next.namespaces ≡ c.namespaces → next.states ≡ c.states → Stays next
  same next namespaces states = record { namespaces = ap (filter own) namespaces; states = ap (filter own_state) states }

  added : (n : Namespace) → own n ≡ false → Stays (with_namespace c n)
  added n apart = record { namespaces = kept_push own c.namespaces n apart; states = refl }

  blocks_set : (nqn : List ℕ) (nsid blocks : ℕ) → bytes_eq nqn subsystem ≡ false → Stays (with_namespace_set c nqn nsid (Blocks blocks))
  blocks_set nqn nsid blocks apart =
      let others = other_namespace nqn nsid apart in
      record { namespaces = kept_changed own (is_named nqn nsid) others (with_setting (Blocks blocks)) others c.namespaces; states = refl }

  group_set : (nqn : List ℕ) (nsid group : ℕ) → bytes_eq nqn subsystem ≡ false → Stays (with_namespace_set c nqn nsid (Group group))
  group_set nqn nsid group apart =
      let others = other_namespace nqn nsid apart in
      record { namespaces = kept_changed own (is_named nqn nsid) others (with_setting (Group group)) others c.namespaces; states = refl }

  visibility_set : (nqn : List ℕ) (nsid : ℕ) (visibility : Visibility) → bytes_eq nqn subsystem ≡ false → Stays (with_namespace_set c nqn nsid (VisibilitySet visibility))
  visibility_set nqn nsid visibility apart =
      let others = other_namespace nqn nsid apart in
      record { namespaces = kept_changed own (is_named nqn nsid) others (with_setting (VisibilitySet visibility)) others c.namespaces; states = refl }

  removed : (nqn : List ℕ) (nsid : ℕ) → bytes_eq nqn subsystem ≡ false → Stays (without_namespace c nqn nsid)
  removed nqn nsid apart =
      record { namespaces = kept_without own (is_named nqn nsid) (other_namespace nqn nsid apart) c.namespaces; states = refl }

  unlinked : (port : ℕ) (nqn : List ℕ) → bytes_eq nqn subsystem ≡ false → Stays (without_link c port nqn)
  unlinked port nqn apart =
      record { namespaces = refl; states = kept_without own_state (is_state_on port nqn) (other_on port nqn apart) c.states }

  state_set : (port : ℕ) (nqn : List ℕ) (group : ℕ) (state : AnaState) → bytes_eq nqn subsystem ≡ false → Stays (with_ana_state c port nqn group state)
  state_set port nqn group state apart =
      let for_it : GroupState → Bool = is_state_for port nqn group in
      let others = other_for port nqn group apart in
      elim (cases_Bool (is_optimized state)) [
        | inl optimized ↦ rw optimized (record { namespaces = refl; states = kept_without own_state for_it others c.states })
        | inr set ↦ rw set (elim (cases_Bool (has_state c.states port nqn group)) [
          | inl there ↦ rw there (record { namespaces = refl; states = kept_changed own_state for_it others (with_state state) others c.states })
          | inr new ↦
              let s : GroupState = record { port = port; subsystem = nqn; group = group; state = state } in
              rw new (record { namespaces = refl; states = kept_push own_state c.states s apart })
        ])
      ]

left : (c : Configuration) (edit : Edit) (subsystem : List ℕ) → is_reached (subsystem_reached edit) subsystem ≡ false → StaysAsItWas c (effect c edit) subsystem
left c (NamespaceAdd n) subsystem apart = added c subsystem (namespace_of n) apart
left c (NamespaceSize nqn nsid blocks) subsystem apart = blocks_set c subsystem nqn nsid blocks apart
left c (NamespaceGroup nqn nsid group) subsystem apart = group_set c subsystem nqn nsid group apart
left c (NamespaceDel nqn nsid) subsystem apart = removed c subsystem nqn nsid apart
left c (NamespaceView nqn nsid visibility) subsystem apart = visibility_set c subsystem nqn nsid visibility apart
left c (LinkDel port nqn) subsystem apart = unlinked c subsystem port nqn apart
left c (HostAdd nqn) subsystem apart =
    let alone = hosts_alone c nqn in
    same c subsystem (with_host c nqn) (ap (λ d. d.namespaces) alone) (ap (λ d. d.states) alone)
left c (AnaSet port nqn group state) subsystem apart = state_set c subsystem port nqn group state apart
left c edit subsystem apart = same c subsystem (effect c edit) refl refl

-- ---- who is shown what

-- a test of the shows of one subsystem to one host
abbrev IsOwn : (Show → Bool) → List ℕ → List ℕ → Type 0
IsOwn test subsystem host = (s : Show) → test s ≡ true → (bytes_eq s.subsystem subsystem ≡ true) × (bytes_eq s.host host ≡ true)

is_own_show : (subsystem : List ℕ) (nsid : ℕ) (host : List ℕ) → IsOwn (is_show_to subsystem nsid host) subsystem host
is_own_show subsystem nsid host s is =
    let parts = and_parts (is_show_of subsystem nsid s) (bytes_eq s.host host) is in
    ((and_parts (s.nsid == nsid) (bytes_eq s.subsystem subsystem) parts.0).1, parts.1)

is_own_in : (subsystem host : List ℕ) → IsOwn (is_show_in subsystem host) subsystem host
is_own_in subsystem host s is = and_parts (bytes_eq s.subsystem subsystem) (bytes_eq s.host host) is

module _ (c : Configuration) (subsystem host : List ℕ) (test : Show → Bool) (is_own : IsOwn test subsystem host) where
  abbrev finds : Configuration → Bool
  finds d = list_any test d.shows

  -- a show of another subsystem, or to another host
  not_own : (s : Show) → (bytes_eq s.subsystem subsystem ≡ false) ⊎ (bytes_eq s.host host ≡ false) → test s ≡ false
  not_own s other = false_from_ne_true (test s) (λ is. elim other [
    | inl apart ↦ both_ways (bytes_eq s.subsystem subsystem) apart (is_own s is).0
    | inr apart ↦ both_ways (bytes_eq s.host host) apart (is_own s is).1
  ])

  show_added : (s : Show) → test s ≡ false → finds (with_show c s) ≡ finds c
  show_added s fails = list_any-append test c.shows (s ∷ []) ∙ rw fails (neither (finds c)) where
    neither : (b : Bool) → (b || false) ≡ b
    neither true = refl
    neither false = refl

  show_removed : (goes : Show → Bool) → ((s : Show) → goes s ≡ true → test s ≡ false) → list_any test (without goes c.shows) ≡ finds c
  show_removed goes others = list_any-without test goes (λ s is. false_from_ne_true (goes s) (λ gone. both_ways (test s) (others s gone) is)) c.shows

  -- a show of one subsystem is none of another
  of_other : (nqn : List ℕ) (nsid : ℕ) → bytes_eq nqn subsystem ≡ false → (s : Show) → is_show_of nqn nsid s ≡ true → test s ≡ false
  of_other nqn nsid apart s is =
      let parts = and_parts (s.nsid == nsid) (bytes_eq s.subsystem nqn) is in
      not_own s (inl (subst (λ (l : List ℕ). bytes_eq l subsystem ≡ false) (sym (same_name s.subsystem nqn parts.1)) apart))

  -- .. and one to a host none to another
  to_other : (nqn : List ℕ) (nsid : ℕ) (name : List ℕ) → bytes_eq name host ≡ false → (s : Show) → is_show_to nqn nsid name s ≡ true → test s ≡ false
  to_other nqn nsid name apart s is =
      let parts = and_parts (is_show_of nqn nsid s) (bytes_eq s.host name) is in
      not_own s (inr (subst (λ (l : List ℕ). bytes_eq l host ≡ false) (sym (same_name s.host name parts.1)) apart))

  -- an edit that does not reach a subsystem shows and hides nothing of it
  shows_left : (edit : Edit) → is_reached (subsystem_reached edit) subsystem ≡ false → finds (effect c edit) ≡ finds c
  shows_left (NamespaceDel nqn id) apart = show_removed (is_show_of nqn id) (of_other nqn id apart)
  shows_left (NamespaceShow nqn id name) apart =
      let s : Show = record { subsystem = nqn; nsid = id; host = name } in
      show_added s (not_own s (inl apart))
  shows_left (NamespaceHide nqn id name) apart =
      show_removed (is_show_to nqn id name) (λ s is. of_other nqn id apart s (and_parts (is_show_of nqn id s) (bytes_eq s.host name) is).0)
  shows_left (HostAdd nqn) apart = ap finds (hosts_alone c nqn)
  shows_left (AnaSet port nqn group state) apart = ap finds (states_alone c port nqn group state)
  shows_left edit apart = refl

  -- one that reaches one host alone shows and hides nothing to another
  shows_of_host : (edit : Edit) → is_host_reached (host_reached edit) host ≡ false → finds (effect c edit) ≡ finds c
  shows_of_host (NamespaceShow nqn id name) apart =
      let s : Show = record { subsystem = nqn; nsid = id; host = name } in
      show_added s (not_own s (inr apart))
  shows_of_host (NamespaceHide nqn id name) apart = show_removed (is_show_to nqn id name) (to_other nqn id name apart)
  shows_of_host edit apart = cc

  shows_stay : (edit : Edit) → reaches edit host subsystem ≡ false → finds (effect c edit) ≡ finds c
  shows_stay edit apart =
      elim (and_cases (is_reached (subsystem_reached edit) subsystem) (is_host_reached (host_reached edit) host) apart) [
        | inl elsewhere ↦ shows_left edit elsewhere
        | inr to_another ↦ shows_of_host edit to_another
      ]

-- whether a host is shown something of a subsystem stays where an edit does not reach the two
pub shown_stays : (c : Configuration) (edit : Edit) (host subsystem : List ℕ) → reaches edit host subsystem ≡ false
    → IfOk (accept c edit) (λ next. is_shown_of next.shows subsystem host ≡ is_shown_of c.shows subsystem host)
shown_stays c edit host subsystem apart =
    IfOk-effect c edit (λ next. is_shown_of next.shows subsystem host ≡ is_shown_of c.shows subsystem host) (shows_stay c subsystem host (is_show_in subsystem host) (is_own_in subsystem host) edit apart)

-- an edit that reaches one host alone leaves the namespaces and the states
left_by_one : (c : Configuration) (edit : Edit) (subsystem : List ℕ) → is_none (host_reached edit) ≡ false → StaysAsItWas c (effect c edit) subsystem
left_by_one c (NamespaceShow nqn id name) subsystem one = same c subsystem (effect c (NamespaceShow nqn id name)) refl refl
left_by_one c (NamespaceHide nqn id name) subsystem one = same c subsystem (effect c (NamespaceHide nqn id name)) refl refl
left_by_one c edit subsystem one = cc

-- ---- what a host sees

-- two tests one after the other, in any order
in_any_order : {X : Type 0} (p q : X → Bool) (xs : List X) → filter p (filter q xs) ≡ filter q (filter p xs)
in_any_order p q [] = refl
in_any_order p q (x ∷ xs) =
    elim (cases_Bool (p x)) [
      | inl yes_p ↦ elim (cases_Bool (q x)) [
        | inl yes_q ↦ rw (yes_p, yes_q) (rw yes_p (ap (λ l. x ∷ l) (in_any_order p q xs)))
        | inr no_q ↦ rw (yes_p, no_q) (in_any_order p q xs)
      ]
      | inr no_p ↦ elim (cases_Bool (q x)) [
        | inl yes_q ↦ rw (no_p, yes_q) (rw no_p (in_any_order p q xs))
        | inr no_q ↦ rw (no_p, no_q) (in_any_order p q xs)
      ]
    ]

-- tests that agree where another passes
agree_among : {X : Type 0} (p q own : X → Bool) → ((x : X) → own x ≡ true → q x ≡ p x) → (xs : List X) → filter q (filter own xs) ≡ filter p (filter own xs)
agree_among p q own agree [] = refl
agree_among p q own agree (x ∷ xs) =
    elim (cases_Bool (own x)) [
      | inl is ↦ rw is (elim (cases_Bool (p x)) [
        | inl passes ↦ rw (passes, agree x is ∙ passes) (ap (λ l. x ∷ l) (agree_among p q own agree xs))
        | inr fails ↦ rw (fails, agree x is ∙ fails) (agree_among p q own agree xs)
      ])
      | inr not_it ↦ rw not_it (agree_among p q own agree xs)
    ]

-- a host sees of a subsystem what it saw, where its namespaces stay and it is shown the same
pub seen_stays : (old new : Configuration) (seen_old seen_new : Namespace → Bool) (subsystem : List ℕ) → namespaces_of new subsystem ≡ namespaces_of old subsystem
    → ((n : Namespace) → bytes_eq n.subsystem subsystem ≡ true → seen_new n ≡ seen_old n)
    → filter (λ n. bytes_eq n.subsystem subsystem) (filter seen_new new.namespaces) ≡ filter (λ n. bytes_eq n.subsystem subsystem) (filter seen_old old.namespaces)
seen_stays old new seen_old seen_new subsystem stays agree =
    let own : Namespace → Bool = λ n. bytes_eq n.subsystem subsystem in
    in_any_order own seen_new new.namespaces ∙ ap (filter seen_new) stays ∙ agree_among seen_old seen_new own agree old.namespaces
    ∙ sym (in_any_order own seen_old old.namespaces)

as_seen : (old new : Configuration) (host subsystem : List ℕ) → StaysAsItWas old new subsystem → ((nsid : ℕ) → has_show new.shows subsystem nsid host ≡ has_show old.shows subsystem nsid host)
    → StaysAsItWas (seen_by old host) (seen_by new host) subsystem
as_seen old new host subsystem stays shows = record {
  namespaces = seen_stays old new (is_seen old.shows host) (is_seen new.shows host) subsystem stays.namespaces (λ n own.
      let name : n.subsystem ≡ subsystem = same_name n.subsystem subsystem own in
      ap (λ b. is_for_all n.visibility || b) (subst (λ (l : List ℕ). has_show new.shows l n.nsid host ≡ has_show old.shows l n.nsid host) (sym name) (shows n.nsid)));
  states = stays.states;
}

-- where a host is not one of those reached, there is one alone
one_reached : (o : Option (List ℕ)) (host : List ℕ) → is_host_reached o host ≡ false → is_none o ≡ false
one_reached None host apart = cc
one_reached (Some name) host apart = refl

namespaces_left : (c : Configuration) (edit : Edit) (host subsystem : List ℕ) → reaches edit host subsystem ≡ false → StaysAsItWas c (effect c edit) subsystem
namespaces_left c edit host subsystem apart =
    elim (and_cases (is_reached (subsystem_reached edit) subsystem) (is_host_reached (host_reached edit) host) apart) [
      | inl elsewhere ↦ left c edit subsystem elsewhere
      | inr to_another ↦ left_by_one c edit subsystem (one_reached (host_reached edit) host to_another)
    ]

seen_left : (c : Configuration) (edit : Edit) (host subsystem : List ℕ) → reaches edit host subsystem ≡ false → StaysAsItWas (seen_by c host) (seen_by (effect c edit) host) subsystem
seen_left c edit host subsystem apart =
    as_seen c (effect c edit) host subsystem (namespaces_left c edit host subsystem apart) (λ nsid.
    shows_stay c subsystem host (is_show_to subsystem nsid host) (is_own_show subsystem nsid host) edit apart)

-- ---- what strangers see

as_strangers_see : (old new : Configuration) (subsystem : List ℕ) → StaysAsItWas old new subsystem → StaysAsItWas (seen_by_strangers old) (seen_by_strangers new) subsystem
as_strangers_see old new subsystem stays = record {
  namespaces = seen_stays old new (is_seen [] []) (is_seen [] []) subsystem stays.namespaces (λ n own. refl);
  states = stays.states;
}

strangers_left : (c : Configuration) (edit : Edit) (subsystem : List ℕ) → (is_reached (subsystem_reached edit) subsystem && is_none (host_reached edit)) ≡ false
    → StaysAsItWas (seen_by_strangers c) (seen_by_strangers (effect c edit)) subsystem
strangers_left c edit subsystem apart =
    elim (and_cases (is_reached (subsystem_reached edit) subsystem) (is_none (host_reached edit)) apart) [
      | inl elsewhere ↦ as_strangers_see c (effect c edit) subsystem (left c edit subsystem elsewhere)
      | inr one ↦ as_strangers_see c (effect c edit) subsystem (left_by_one c edit subsystem one)
    ]

pub strangers_stay : (c : Configuration) (edit : Edit) (subsystem : List ℕ) → (is_reached (subsystem_reached edit) subsystem && is_none (host_reached edit)) ≡ false
    → IfOk (accept c edit) (λ next. StaysAsItWas (seen_by_strangers c) (seen_by_strangers next) subsystem)
strangers_stay c edit subsystem apart =
    IfOk-effect c edit (λ next. StaysAsItWas (seen_by_strangers c) (seen_by_strangers next) subsystem) (strangers_left c edit subsystem apart)

-- what fails a test fails one that passes less
none_less : {X : Type 0} (p q : X → Bool) → ((x : X) → q x ≡ true → p x ≡ true) → (xs : List X) → list_any p xs ≡ false → list_any q xs ≡ false
none_less p q less [] none = refl
none_less p q less (x ∷ xs) none =
    let both = or_parts (p x) (list_any p xs) none in
    rw (false_from_ne_true (q x) (λ is. both_ways (p x) both.0 (less x is)), none_less p q less xs both.1) refl

-- a host that is shown nothing of a subsystem sees of it what strangers see
pub unshown_sees : (c : Configuration) (host subsystem : List ℕ) → is_shown_of c.shows subsystem host ≡ false → StaysAsItWas (seen_by_strangers c) (seen_by c host) subsystem
unshown_sees c host subsystem none = record {
  namespaces = seen_stays c c (is_seen [] []) (is_seen c.shows host) subsystem refl (λ n own.
      let name : n.subsystem ≡ subsystem = same_name n.subsystem subsystem own in
      ap (λ b. is_for_all n.visibility || b) (none_less (is_show_in subsystem host) (is_show_to n.subsystem n.nsid host) (λ s is.
      let parts = and_parts (is_show_of n.subsystem n.nsid s) (bytes_eq s.host host) is in
      let names = and_parts (s.nsid == n.nsid) (bytes_eq s.subsystem n.subsystem) parts.0 in
      and_from (bytes_eq s.subsystem subsystem) (bytes_eq s.host host) (subst (λ (l : List ℕ). bytes_eq s.subsystem l ≡ true) name names.1) parts.1) c.shows none));
  states = refl;
}

pub stays : OthersStay
stays c edit host subsystem apart = IfOk-effect c edit (λ next. StaysAsItWas (seen_by c host) (seen_by next host) subsystem) (seen_left c edit host subsystem apart)
