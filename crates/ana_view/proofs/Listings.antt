-- Which groups are listed, and what each has.
use Rattle.std.proofs.Common.{◌≡◌, ◌↔◌, ℕ, zero, suc, ◌+◌, ◌<◌, ◌≤◌, ◌==◌, ◌&&◌, Bool, true, false, not, List, [], ◌∷◌, All, AllPairs, Contains, filter, find, get_or, if◌then◌else◌, nat_eq, nat_lt, Option, Some, None, refl, ap, sym, ◌∙◌, subst, inl, inr, arith}
use Rattle.std.proofs.lemmas.Bool.{and_from, and_parts, cases_Bool, cases_lt}
use Rattle.std.proofs.lemmas.Bool.Decides.{nat_tests}
use Rattle.std.proofs.lemmas.List.{get_or_default}
use Rattle.std.proofs.lemmas.List.Elements.{All-cons, All-contains, All-nil}
use Rattle.std.proofs.lemmas.List.Kept.{AllPairs-cons, AllPairs-filter}
use Rattle.std.proofs.lemmas.Map.Views.{Contains-from_any, list_any-from_Contains}
use Rattle.std.specs.Cmp.{nat_eq_equiv}
use Rattle.std.specs.List.{cons_option, filter_map, list_any}
use Rattle.std.specs.Str.{bytes_eq}
use Rattle.config_lists.specs.declared.group_state.AnaState.{AnaState}
use Rattle.config_lists.specs.declared.namespace.Namespace.{Namespace}
use Rattle.config_lists.specs.GroupState.{state_for}
use Rattle.config_lists.specs.Namespace.{is_named, nsid_max}
use Rattle.config_lists.proofs.Names.{bytes_eq-same, same_name}
use Rattle.nvt_config.specs.Configuration.{Configuration}
use Rattle.nvt_config.specs.SeenBy.{seen_by}
use Rattle.nvt_config.specs.Valid.{IsNamespace, IsValid}
use Rattle.nvt_config.proofs.Seeing.{sees_what_is_shown}
use Rattle.config_lists.specs.Numbered.{nsids_where, numbers_from}
use Rattle.config_lists.proofs.Numbers.{kept_where, numbers_between}
use Rattle.ana_view.specs.Group.{Descriptor, descriptor, descriptor_with, is_in_group, listed, listed_by, members}
use Rattle.ana_view.specs.Laws.{GroupsAreListed, IsInGroup as IsSeenInGroup, IsShownAs as IsShownAsSeen}

-- ---- numbers in a row

All-above : (low first n : ℕ) → low < first → All (λ m. low < m) (numbers_from first n)
All-above low first zero below = All-nil (λ m. low < m)
All-above low first (suc n) below =
    All-cons (λ m. low < m) first (numbers_from (suc first) n) below (All-above low (suc first) n (omega arith))

numbers_rise : (first n : ℕ) → AllPairs ◌<◌ (numbers_from first n)
numbers_rise first zero = λ i j d less below. absurd (omega arith)
numbers_rise first (suc n) =
    AllPairs-cons ◌<◌ first (numbers_from (suc first) n) (All-above first (suc first) n (omega arith)) (numbers_rise (suc first) n)

-- ---- what a list has

first_in : {T : Type 0} (x : T) (xs : List T) → Contains (x ∷ xs) x
first_in x xs = (0, omega arith, refl)

later_in : {T : Type 0} (x : T) (xs : List T) (y : T) → Contains xs y → Contains (x ∷ xs) y
later_in x xs y (k, below, is) = (suc k, omega arith, is)

-- what is looked for and found is there, and passes
found_passes : {T : Type 0} (test : T → Bool) (xs : List T) (x : T) → find test xs ≡ Some x → Contains xs x × (test x ≡ true)
found_passes test [] x found = cc
found_passes {T = T} test (y ∷ ys) x found =
    elim (cases_Bool (test y)) [
      | inl passes ↦
          let all : (if test y then Some y else find test ys) ≡ Some y = ap (λ b. if b then Some y else find test ys) passes in
          let is : y ≡ x = cc in
          subst (λ (z : T). Contains (y ∷ ys) z × (test z ≡ true)) is (first_in y ys, passes)
      | inr fails ↦
          let rest : find test ys ≡ Some x = sym (ap (λ b. if b then Some y else find test ys) fails) ∙ found in
          let deep = found_passes test ys x rest in
          (later_in y ys x deep.0, deep.1)
    ]

-- what is there and passes is looked for with success
is_found : {T : Type 0} (test : T → Bool) (xs : List T) (x : T) → Contains xs x → test x ≡ true → (y : T) × (find test xs ≡ Some y)
is_found test [] x (k, below, is) passes = absurd (omega arith)
is_found {T = T} test (y ∷ ys) x (zero, below, is) passes =
    (y, ap (λ b. if b then Some y else find test ys) (ap test is ∙ passes))
is_found {T = T} test (y ∷ ys) x (suc k, below, is) passes =
    elim (cases_Bool (test y)) [
      | inl here ↦ (y, ap (λ b. if b then Some y else find test ys) here)
      | inr fails ↦
          let rest = is_found test ys x (k, omega arith, is) passes in
          (rest.0, ap (λ b. if b then Some y else find test ys) fails ∙ rest.1)
    ]

-- the configuration has a namespace of that subsystem and that identifier in that group
abbrev IsInGroup : Configuration → List ℕ → ℕ → ℕ → Type 0
IsInGroup c subsystem group nsid =
    (n : Namespace) × Contains c.namespaces n × (n.subsystem ≡ subsystem) × (n.nsid ≡ nsid) × (n.group ≡ group)

-- a group has its state, and those namespaces, rising
record IsShownAs (c : Configuration) (subsystem : List ℕ) (port : ℕ) (g : Descriptor) : Type 0 where
  state : g.state ≡ state_for port subsystem g.id c.states
  rising : AllPairs ◌<◌ g.nsids
  nsids : (nsid : ℕ) → Contains g.nsids nsid ↔ IsInGroup c subsystem g.id nsid

-- groups rise, and each that holds a namespace is there
record IsListing (c : Configuration) (subsystem : List ℕ) (port : ℕ) (groups : List Descriptor) : Type 0 where
  rising : AllPairs (λ a b. a.id < b.id) groups
  shown : (g : Descriptor) → Contains groups g → IsShownAs c subsystem port g
  held : (group nsid : ℕ) → IsInGroup c subsystem group nsid → (g : Descriptor) × Contains groups g × (g.id ≡ group)

-- namespaces of one name are one
abbrev AreDistinct : List Namespace → Type 0
AreDistinct ns = AllPairs (λ m n. ¬ ((m.subsystem ≡ n.subsystem) × (m.nsid ≡ n.nsid))) ns

same_namespace : (ns : List Namespace) → AreDistinct ns → (a b : Namespace) → Contains ns a → Contains ns b → a.subsystem ≡ b.subsystem → a.nsid ≡ b.nsid → a ≡ b
same_namespace ns distinct a b (i, i_below, a_is) (j, j_below, b_is) subsystem nsid =
    let at_j : get_or ns j a ≡ b = get_or_default ns j a b j_below ∙ b_is in
    let at_i : get_or ns i b ≡ a = get_or_default ns i b a i_below ∙ a_is in
    elim (cases_lt i j) [
      | inl before ↦
          absurd (distinct i j a before j_below (ap (λ (m : Namespace). m.subsystem) a_is ∙ subsystem ∙ ap (λ (m : Namespace). m.subsystem) (sym at_j), ap (λ (m : Namespace). m.nsid) a_is ∙ nsid ∙ ap (λ (m : Namespace). m.nsid) (sym at_j)))
      | inr not_before ↦ elim (cases_lt j i) [
        | inl behind ↦
            absurd (distinct j i b behind i_below (ap (λ (m : Namespace). m.subsystem) b_is ∙ sym subsystem ∙ ap (λ (m : Namespace). m.subsystem) (sym at_i), ap (λ (m : Namespace). m.nsid) b_is ∙ sym nsid ∙ ap (λ (m : Namespace). m.nsid) (sym at_i)))
        | inr not_behind ↦
            let here : i ≡ j = omega arith in
            sym a_is ∙ ap (λ k. get_or ns k a) here ∙ at_j
      ]
    ]

-- ---- a group's namespaces

in_group : (o : Option Namespace) (group : ℕ) → is_in_group o group ≡ true → (m : Namespace) × (o ≡ Some m) × (m.group ≡ group)
in_group None group h = absurd (let no : false ≡ true = h in let no : ⊥ = cc in no)
in_group (Some m) group h = (m, refl, grind (arith, nat_tests, h))

is_held : (c : Configuration) (subsystem : List ℕ) (group nsid : ℕ) → IsValid c → IsInGroup c subsystem group nsid → is_in_group (find (is_named subsystem nsid) c.namespaces) group ≡ true
is_held c subsystem group nsid valid (m, there, named, numbered, held) =
    let passes : is_named subsystem nsid m ≡ true = and_from (bytes_eq m.subsystem subsystem) (m.nsid == nsid) (bytes_eq-same m.subsystem subsystem named) (grind (arith, nat_tests, numbered)) in
    let found = is_found (is_named subsystem nsid) c.namespaces m there passes in
    let first = found_passes (is_named subsystem nsid) c.namespaces found.0 found.1 in
    let parts = and_parts (bytes_eq found.0.subsystem subsystem) (found.0.nsid == nsid) first.1 in
    let one : found.0 ≡ m = same_namespace c.namespaces valid.namespaces.distinct found.0 m first.0 there (same_name found.0.subsystem subsystem parts.0 ∙ sym named) (grind (arith, nat_tests, parts.1, numbered)) in
    ap (λ o. is_in_group o group) found.1 ∙ ap (λ (n : Namespace). n.group == group) one ∙ grind (arith, nat_tests, held)

holds : (c : Configuration) (subsystem : List ℕ) (group nsid : ℕ) → is_in_group (find (is_named subsystem nsid) c.namespaces) group ≡ true → IsInGroup c subsystem group nsid
holds c subsystem group nsid h =
    let found = in_group (find (is_named subsystem nsid) c.namespaces) group h in
    let first = found_passes (is_named subsystem nsid) c.namespaces found.0 found.1 in
    let parts = and_parts (bytes_eq found.0.subsystem subsystem) (found.0.nsid == nsid) first.1 in
    (found.0, first.0, same_name found.0.subsystem subsystem parts.0, grind (arith, nat_tests, parts.1), found.2)

in_range : (c : Configuration) (subsystem : List ℕ) (group nsid : ℕ) → IsValid c → IsInGroup c subsystem group nsid → (1 ≤ nsid) × (nsid ≤ nsid_max) × (1 ≤ group) × (group ≤ 32)
in_range c subsystem group nsid valid (m, there, named, numbered, held) =
    let sound = All-contains (IsNamespace c.units c.subsystems) c.namespaces m valid.namespaces.sound there in
    (grind (arith, nat_tests, sound.nsid, numbered), grind (arith, nat_tests, sound.nsid, numbered), grind (arith, nat_tests, sound.group, held), grind (arith, nat_tests, sound.group, held))

-- of numbers in a row those are kept that pass
kept_passes : (test : ℕ → Bool) (first n k : ℕ) → Contains (filter test (numbers_from first n)) k → test k ≡ true
kept_passes test first n k found =
    let counted = kept_where test (numbers_from first n) k in
    (and_parts (test k) _ (sym counted ∙ list_any-from_Contains nat_eq_equiv k (filter test (numbers_from first n)) found)).0

is_kept : (test : ℕ → Bool) (first n k : ℕ) → first ≤ k → k < first + n → test k ≡ true → Contains (filter test (numbers_from first n)) k
is_kept test first n k above below passes =
    let counted = kept_where test (numbers_from first n) k in
    let inside : (nat_lt k (first + n) && not (nat_lt k first)) ≡ true = grind (arith, nat_tests, above, below) in
    let between : list_any (nat_eq k) (numbers_from first n) ≡ true = numbers_between first n k ∙ inside in
    Contains-from_any {eq = nat_eq} (λ i j same. grind (arith, nat_tests, same)) k (filter test (numbers_from first n)) (counted ∙ and_from (test k) _ passes between)

members_are : (c : Configuration) (subsystem : List ℕ) (group nsid : ℕ) → IsValid c → (Contains (members c subsystem group) nsid → IsInGroup c subsystem group nsid) × (IsInGroup c subsystem group nsid → Contains (members c subsystem group) nsid)
unfolding members nsids_where
members_are c subsystem group nsid valid = (
  λ found. holds c subsystem group nsid (kept_passes (λ n. is_in_group (find (is_named subsystem n) c.namespaces) group) 1 nsid_max nsid found),
  λ held.
      let range = in_range c subsystem group nsid valid held in
      is_kept (λ n. is_in_group (find (is_named subsystem n) c.namespaces) group) 1 nsid_max nsid range.0 (below range.1) (is_held c subsystem group nsid valid held),
) where
  below : nsid ≤ nsid_max → nsid < 1 + nsid_max
  below few = omega arith

members_rise : (c : Configuration) (subsystem : List ℕ) (group : ℕ) → AllPairs ◌<◌ (members c subsystem group)
unfolding members nsids_where
members_rise c subsystem group =
    AllPairs-filter ◌<◌ (λ n. is_in_group (find (is_named subsystem n) c.namespaces) group) (numbers_from 1 nsid_max) (numbers_rise 1 nsid_max)

-- ---- the listing

is_shown : (group : ℕ) (state : AnaState) (nsids : List ℕ) (g : Descriptor) → descriptor_with group state nsids ≡ Some g → record { id = group; state = state; nsids = nsids } ≡ g
is_shown group state [] g is = cc
is_shown group state (n ∷ ns) g is = cc

some_shown : (group : ℕ) (state : AnaState) (nsids : List ℕ) (n : ℕ) → Contains nsids n → descriptor_with group state nsids ≡ Some (record { id = group; state = state; nsids = nsids })
some_shown group state [] n (k, below, is) = absurd (omega arith)
some_shown group state (m ∷ ns) n found = refl

All-listed : (P : Descriptor → Type 0) (shown : ℕ → Option Descriptor) (first n : ℕ) → ((k : ℕ) (g : Descriptor) → first ≤ k → shown k ≡ Some g → P g) → All P (filter_map shown (numbers_from first n))
All-listed P shown first zero each = All-nil P
All-listed P shown first (suc n) each = by_first (shown first) refl (All-listed P shown (suc first) n (λ k g above is. each k g (omega arith) is)) where
  by_first : (o : Option Descriptor) → shown first ≡ o → All P (filter_map shown (numbers_from (suc first) n)) → All P (cons_option o (filter_map shown (numbers_from (suc first) n)))
  by_first None is rest = rest
  by_first (Some g) is rest = All-cons P g (filter_map shown (numbers_from (suc first) n)) (each first g (omega arith) is) rest

listed_rise : (shown : ℕ → Option Descriptor) → ((k : ℕ) (g : Descriptor) → shown k ≡ Some g → g.id ≡ k) → (first n : ℕ) → AllPairs (λ a b. a.id < b.id) (filter_map shown (numbers_from first n))
listed_rise shown named first zero = λ i j d less below. absurd (omega arith)
listed_rise shown named first (suc n) = by_first (shown first) refl (listed_rise shown named (suc first) n) where
  by_first : (o : Option Descriptor) → shown first ≡ o → AllPairs (λ a b. a.id < b.id) (filter_map shown (numbers_from (suc first) n)) → AllPairs (λ a b. a.id < b.id) (cons_option o (filter_map shown (numbers_from (suc first) n)))
  by_first None is rest = rest
  by_first (Some g) is rest =
      let id : g.id ≡ first = named first g is in
      AllPairs-cons (λ a b. a.id < b.id) g (filter_map shown (numbers_from (suc first) n)) (All-listed (λ b. g.id < b.id) shown (suc first) n (λ k b above at.
      let other : b.id ≡ k = named k b at in
      omega arith)) rest

is_listed : (shown : ℕ → Option Descriptor) (g : Descriptor) (k first n : ℕ) → first ≤ k → k < first + n → shown k ≡ Some g → Contains (filter_map shown (numbers_from first n)) g
is_listed shown g k first zero above below is = absurd (omega arith)
is_listed shown g k first (suc n) above below is =
    elim (cases_lt first k) [
      | inl behind ↦ later (shown first) (is_listed shown g k (suc first) n (omega arith) (omega arith) is)
      | inr not_behind ↦
          let here : first ≡ k = omega arith in
          rw (ap shown here ∙ is) (first_in g (filter_map shown (numbers_from (suc first) n)))
    ] where
      later : (o : Option Descriptor) → Contains (filter_map shown (numbers_from (suc first) n)) g → Contains (cons_option o (filter_map shown (numbers_from (suc first) n))) g
      later None found = found
      later (Some x) found = later_in x (filter_map shown (numbers_from (suc first) n)) g found

shown_as : (c : Configuration) (subsystem : List ℕ) (port k : ℕ) (g : Descriptor) → IsValid c → descriptor c subsystem port k ≡ Some g → IsShownAs c subsystem port g
shown_as c subsystem port k g valid is =
    subst (λ (d : Descriptor). IsShownAs c subsystem port d) (is_shown k (state_for port subsystem k c.states) (members c subsystem k) g is) (record {
      state = refl;
      rising = members_rise c subsystem k;
      nsids = λ nsid. members_are c subsystem k nsid valid;
    })

listing : (c : Configuration) (subsystem : List ℕ) (port : ℕ) → IsValid c → IsListing c subsystem port (listed c subsystem port)
unfolding listed_by
listing c subsystem port valid = record {
  rising = listed_rise (descriptor c subsystem port) (λ k g is. ap (λ (d : Descriptor). d.id) (sym (is_shown k (state_for port subsystem k c.states) (members c subsystem k) g is))) 1 32;
  shown = λ g found.
      All-contains (IsShownAs c subsystem port) (listed c subsystem port) g (All-listed (IsShownAs c subsystem port) (descriptor c subsystem port) 1 32 (λ k d above is. shown_as c subsystem port k d valid is)) found;
  held = λ group nsid held.
      let range = in_range c subsystem group nsid valid held in
      let there = (members_are c subsystem group nsid valid).1 held in
      let is = some_shown group (state_for port subsystem group c.states) (members c subsystem group) nsid there in
      (record { id = group; state = state_for port subsystem group c.states; nsids = members c subsystem group }, is_listed (descriptor c subsystem port) _ group 1 32 range.2 (omega arith) is, refl);
}

-- ---- as a host sees it

-- what a host sees in a group is there, and seen
seen_there : (c : Configuration) (host subsystem : List ℕ) (group nsid : ℕ) → IsInGroup (seen_by c host) subsystem group nsid ↔ IsSeenInGroup c host subsystem group nsid
seen_there c host subsystem group nsid = (
  λ (n, found, named, numbered, held). let both = (sees_what_is_shown.namespaces c host n).0 found in (n, both.0, both.1, named, numbered, held),
  λ (n, found, sees, named, numbered, held). (n, (sees_what_is_shown.namespaces c host n).1 (found, sees), named, numbered, held),
)

shown_to : (c : Configuration) (host subsystem : List ℕ) (port : ℕ) (g : Descriptor) → IsShownAs (seen_by c host) subsystem port g → IsShownAsSeen c host subsystem port g
shown_to c host subsystem port g shown = record {
  state = shown.state;
  rising = shown.rising;
  nsids = λ nsid.
      let there = seen_there c host subsystem g.id nsid in
      (λ found. there.0 ((shown.nsids nsid).0 found), λ held. (shown.nsids nsid).1 (there.1 held));
}

pub groups_are_listed : GroupsAreListed
groups_are_listed c host subsystem port valid =
    let listing : IsListing (seen_by c host) subsystem port (listed (seen_by c host) subsystem port) = listing (seen_by c host) subsystem port (sees_what_is_shown.valid c host valid) in
    record {
      rising = listing.rising;
      shown = λ g found. shown_to c host subsystem port g (listing.shown g found);
      held = λ group nsid held. listing.held group nsid ((seen_there c host subsystem group nsid).1 held);
    }
