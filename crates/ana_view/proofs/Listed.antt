-- A listing by the identifiers of its groups, and one that is empty.
use Rattle.std.proofs.Common.{◌≡◌, ℕ, zero, suc, ◌+◌, ◌<◌, ◌≤◌, ◌==◌, false, true, List, [], ◌∷◌, Option, Some, None, length, drop, get_or, add-one, drop-cons, refl, ap, sym, ◌∙◌, arith, inl, inr}
use Rattle.std.proofs.lemmas.Bool.{cases_Bool}
use Rattle.std.proofs.lemmas.Bool.Decides.{nat_tests}
use Rattle.std.proofs.lemmas.List.{drop_all}
use Rattle.std.specs.Prelude.{if◌then◌else◌}
use Rattle.std.specs.List.{cons_option, filter_map}
use Rattle.config_lists.specs.declared.group_state.AnaState.{AnaState}
use Rattle.config_lists.specs.declared.group_state.AnaState.TheVariants.{Optimized}
use Rattle.config_lists.specs.GroupState.{state_for}
use Rattle.nvt_config.specs.Configuration.{Configuration}
use Rattle.config_lists.specs.Numbered.{numbers_from}
use Rattle.ana_view.specs.Group.{Descriptor, descriptor, descriptor_with, listed, listed_by, members}
use Rattle.ana_view.specs.GroupChanges.{group_in}

-- ---- the group of an identifier

module _ (state : ℕ → AnaState) (nsids : ℕ → List ℕ) where
  abbrev shown : ℕ → Option Descriptor
  shown group = descriptor_with group (state group) (nsids group)

  here : (group : ℕ) (own : List ℕ) (rest : List Descriptor) → group_in rest group ≡ None
      → group_in (cons_option (descriptor_with group (state group) own) rest) group ≡ descriptor_with group (state group) own
  here group [] rest none = none
  here group (n ∷ own) rest none = let same : group == group ≡ true = grind (arith, nat_tests) in rw same refl

  passed : (group first : ℕ) (others : List ℕ) (rest : List Descriptor) → first == group ≡ false
      → group_in (cons_option (descriptor_with first (state first) others) rest) group ≡ group_in rest group
  passed group first [] rest apart = refl
  passed group first (n ∷ others) rest apart = rw apart refl

  absent : (group first n : ℕ) → group < first → group_in (filter_map shown (numbers_from first n)) group ≡ None
  absent group first zero before = refl
  absent group first (suc n) before =
      let apart : first == group ≡ false = grind (arith, nat_tests, before) in
      passed group first (nsids first) (filter_map shown (numbers_from (suc first) n)) apart ∙ absent group (suc first) n (omega arith)

  there : (group first n : ℕ) → first ≤ group → group < first + n → group_in (filter_map shown (numbers_from first n)) group ≡ shown group
  there group first zero above below = absurd (omega arith)
  there group first (suc n) above below =
      let rest : List Descriptor = filter_map shown (numbers_from (suc first) n) in
      elim (cases_Bool (first == group)) [
        | inl same ↦
            let is : first ≡ group = grind (arith, nat_tests, same) in
            ap (λ k. group_in (cons_option (shown k) rest) group) is ∙ here group (nsids group) rest (absent group (suc first) n (omega arith))
        | inr apart ↦
            let behind : suc first ≤ group = grind (arith, nat_tests, apart, above) in
            passed group first (nsids first) rest apart ∙ there group (suc first) n behind (omega arith)
      ]

pub group_in-listed : (c : Configuration) (subsystem : List ℕ) (port group : ℕ) → 1 ≤ group → group ≤ 32 → group_in (listed c subsystem port) group ≡ descriptor c subsystem port group
unfolding listed_by
group_in-listed c subsystem port group above below =
    there (λ k. state_for port subsystem k c.states) (members c subsystem) group 1 32 above (omega arith)

-- ---- a walk over a listing

module _ (listing : List Descriptor) (i id : ℕ) (g : Descriptor) (within : i < length listing) (at : g ≡ get_or listing i g) where
  first_left : drop i listing ≡ g ∷ drop (i + 1) listing
  first_left = rw (add-one, drop-cons listing i g) (ap (λ (d : Descriptor). d ∷ drop (suc i) listing) (sym at))

  pub found_here : g.id == id ≡ true → group_in (drop i listing) id ≡ Some g
  found_here same = ap (λ (l : List Descriptor). group_in l id) first_left ∙ ap (λ b. if b then Some g else group_in (drop (i + 1) listing) id) same

  pub found_later : g.id == id ≡ false → group_in (drop (i + 1) listing) id ≡ group_in (drop i listing) id
  found_later apart = sym (ap (λ (l : List Descriptor). group_in l id) first_left ∙ ap (λ b. if b then Some g else group_in (drop (i + 1) listing) id) apart)

pub found_never : (listing : List Descriptor) (i id : ℕ) → length listing ≤ i → group_in (drop i listing) id ≡ None
found_never listing i id past = ap (λ (l : List Descriptor). group_in l id) (drop_all i listing past)

-- ---- a listing without a group

none_beside : (f h : ℕ → Option Descriptor) → ((k : ℕ) → f k ≡ None → h k ≡ None) → (first n : ℕ) → filter_map f (numbers_from first n) ≡ [] → filter_map h (numbers_from first n) ≡ []
none_beside f h none first zero empty = refl
none_beside f h none first (suc n) empty = by_value (f first) refl empty (none_beside f h none (suc first) n) where
  by_value : (o : Option Descriptor) → f first ≡ o → cons_option o (filter_map f (numbers_from (suc first) n)) ≡ []
      → (filter_map f (numbers_from (suc first) n) ≡ [] → filter_map h (numbers_from (suc first) n) ≡ []) → filter_map h (numbers_from first (suc n)) ≡ []
  by_value None is empty rest = rw (none first is) (rest empty)
  by_value (Some d) is empty rest = absurd (cc)

-- a group without namespaces is absent in each state
absent_in : (group : ℕ) (s t : AnaState) (nsids : List ℕ) → descriptor_with group s nsids ≡ None → descriptor_with group t nsids ≡ None
absent_in group s t [] none = refl
absent_in group s t (n ∷ nsids) none = absurd (cc)

-- the groups as they are where no state was set
abbrev pub plain_groups : Configuration → List ℕ → List Descriptor
plain_groups c subsystem = listed_by (λ group. descriptor_with group Optimized (members c subsystem group))

pub none_on : (c : Configuration) (subsystem : List ℕ) (port : ℕ) → plain_groups c subsystem ≡ [] → listed c subsystem port ≡ []
unfolding listed_by
none_on c subsystem port empty =
    none_beside (λ group. descriptor_with group Optimized (members c subsystem group)) (descriptor c subsystem port)
    (λ group none. absent_in group Optimized (state_for port subsystem group c.states) (members c subsystem group) none) 1 32 empty
