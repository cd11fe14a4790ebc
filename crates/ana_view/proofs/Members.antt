-- The namespaces in a group, by a table.
use Rattle.std.proofs.Common.{◌&&◌, ◌++◌, ◌≡◌, ℕ, zero, suc, ◌≤◌, ◌<◌, ◌==◌, Bool, true, false, List, [], ◌∷◌, Option, Some, None, All, bytes_eq, filter, find, get_or, is_some, length, refl, ap, sym, ◌∙◌, arith, inl, inr}
use Rattle.std.proofs.lemmas.Bool.{both_ways, cases_Bool, eq-eqb, eqb-true}
use Rattle.std.proofs.lemmas.Bool.Decides.{nat_tests}
use Rattle.std.proofs.lemmas.List.{append_assoc, get_or-set_other, get_or-set_same}
use Rattle.std.proofs.lemmas.List.Elements.{All-cons, All-nil}
use Rattle.std.specs.List.{cons_option, filter_map}
use Rattle.std.specs.Prelude.{if◌then◌else◌}
use Rattle.config_lists.specs.declared.group_state.AnaState.TheVariants.{Optimized}
use Rattle.config_lists.specs.GroupState.{state_for}
use Rattle.config_lists.specs.declared.namespace.Namespace.{Namespace}
use Rattle.config_lists.specs.Namespace.{is_named, nsid_max}
use Rattle.nvt_config.specs.Configuration.{Configuration}
use Rattle.config_lists.specs.Nsids.{is_taken, nsids_in}
use Rattle.config_lists.specs.Numbered.{nsids_where, numbers_from}
use Rattle.config_lists.proofs.Sets.{nsids_alike, nsids_are_few}
use Rattle.ana_view.specs.Group.{Descriptor, are_same, are_same_numbers, descriptor, descriptor_with, is_in_group, listed_by, members, state_code}
use Rattle.ana_view.specs.declared.groups.Groups.{Groups}
use Rattle.ana_view.specs.Tables.{AreNamespacesOf, descriptor_of, is_member, listing_of, nsids_of, state_of, with_member}
use Rattle.ana_view.specs.View.{AreFew}

pub same_is_same : (ns : List ℕ) → are_same_numbers ns ns ≡ true
same_is_same [] = refl
same_is_same (n ∷ ns) =
    let here : n == n ≡ true = grind (arith, nat_tests) in
    rw here (same_is_same ns)

pub same_itself : (o : Option Descriptor) → are_same o o ≡ true
same_itself None = refl
same_itself (Some d) =
    let here : state_code d.state == state_code d.state ≡ true = grind (arith, nat_tests) in
    rw here (same_is_same d.nsids)

-- the test of two lists' items, one by one
pub same_numbers : (ms ns : List ℕ) → bytes_eq ms ns ≡ are_same_numbers ms ns
same_numbers [] [] = refl
same_numbers [] (n ∷ ns) = refl
same_numbers (m ∷ ms) [] = refl
same_numbers (m ∷ ms) (n ∷ ns) = ap (λ b. (m == n) && b) (same_numbers ms ns)

-- ---- the members of a table

pub few_members : (t : Groups) (group : ℕ) → length (nsids_of t group) ≤ nsid_max
unfolding nsids_of
few_members t group = nsids_are_few (λ n. is_member t.namespaces.now n group)

-- what is in a group has a namespace
member_taken : (table : List (Option Namespace)) (group k : ℕ) → is_taken table k ≡ false → is_member table k group ≡ false
member_taken table group k = by_place (get_or table k None) where
  by_place : (o : Option Namespace) → is_some o ≡ false → is_in_group o group ≡ false
  by_place None none = refl
  by_place (Some n) some = absurd (cc)

kept_of_kept : (p q : ℕ → Bool) (xs : List ℕ) → ((k : ℕ) → q k ≡ false → p k ≡ false) → filter p (filter q xs) ≡ filter p xs
kept_of_kept p q [] within = refl
kept_of_kept p q (x ∷ xs) within = by_test (q x) refl (kept_of_kept p q xs within) where
  by_test : (b : Bool) → q x ≡ b → filter p (filter q xs) ≡ filter p xs → filter p (filter q (x ∷ xs)) ≡ filter p (x ∷ xs)
  by_test true is rest = rw is (ap (λ l. if p x then x ∷ l else l) rest)
  by_test false is rest = rw (is, within x is) rest

-- of the identifiers of a table those that are in a group
pub members_of : (t : Groups) (group : ℕ) → filter (λ n. is_member t.namespaces.now n group) (nsids_in t.namespaces.now) ≡ nsids_of t group
unfolding nsids_of nsids_where
members_of t group =
    kept_of_kept (λ n. is_member t.namespaces.now n group) (is_taken t.namespaces.now) (numbers_from 1 nsid_max) (member_taken t.namespaces.now group)

-- ---- a table is that of a configuration

table_members : (c : Configuration) (subsystem : List ℕ) (t : Groups) (group : ℕ)
    → AreNamespacesOf c subsystem t.namespaces.now → nsids_of t group ≡ members c subsystem group
unfolding nsids_of members
table_members c subsystem t group found =
    nsids_alike (λ n. is_member t.namespaces.now n group) (λ n. is_in_group (find (is_named subsystem n) c.namespaces) group) (λ k above below.
    ap (λ o. is_in_group o group) (found.found k below))

pub table_descriptor : (c : Configuration) (subsystem : List ℕ) (port : ℕ) (t : Groups) (group : ℕ)
    → AreNamespacesOf c subsystem t.namespaces.now
    → state_of t group ≡ state_for port subsystem group c.states
    → descriptor_of t group ≡ descriptor c subsystem port group
table_descriptor c subsystem port t group found state =
    ap (λ s. descriptor_with group s (nsids_of t group)) state
    ∙ ap (descriptor_with group (state_for port subsystem group c.states)) (table_members c subsystem t group found)

-- .. where no state is set
pub plain_descriptor : (c : Configuration) (subsystem : List ℕ) (t : Groups) (group : ℕ)
    → AreNamespacesOf c subsystem t.namespaces.now
    → state_of t group ≡ Optimized
    → descriptor_of t group ≡ descriptor_with group Optimized (members c subsystem group)
plain_descriptor c subsystem t group found state =
    ap (λ s. descriptor_with group s (nsids_of t group)) state
    ∙ ap (descriptor_with group Optimized) (table_members c subsystem t group found)

-- ---- how many there are

-- one identifier more in a group, where it is of the group
pub members_next : (p : ℕ → Bool) (k : ℕ) (rest old new all : List ℕ) → new ≡ (if p k then old ++ k ∷ [] else old) → old ++ filter p (k ∷ rest) ≡ all → new ++ filter p rest ≡ all
members_next p k rest old new all more so_far = by_test (p k) refl more so_far where
  by_test : (b : Bool) → p k ≡ b → new ≡ (if b then old ++ k ∷ [] else old) → old ++ filter p (k ∷ rest) ≡ all → new ++ filter p rest ≡ all
  by_test true there is so_far = let all_so_far = rw there at so_far in ap (λ nsids. nsids ++ filter p rest) is ∙ append_assoc old (k ∷ []) (filter p rest) ∙ all_so_far
  by_test false absent is so_far = let all_so_far = rw absent at so_far in ap (λ nsids. nsids ++ filter p rest) is ∙ all_so_far

pub with_member_at : (each : List (List ℕ)) (at nsid group : ℕ) → group < length each
    → get_or (with_member at nsid each) group [] ≡ (if at == group then get_or each group [] ++ nsid ∷ [] else get_or each group [])
with_member_at each at nsid group within = elim (cases_Bool (at == group)) [
  | inl same ↦
      let is : at ≡ group = eqb-true at group same in
      rw same (rw is (get_or-set_same each group (get_or each group [] ++ nsid ∷ []) [] within))
  | inr other ↦ rw other (get_or-set_other each at group (get_or each at [] ++ nsid ∷ []) [] (λ is. both_ways (at == group) other (eq-eqb at group (sym is))))
]

-- ---- a listing is short

few_listed : (t : Groups) (first n : ℕ) → (length (filter_map (descriptor_of t) (numbers_from first n)) ≤ n) × All (λ g. length g.nsids ≤ nsid_max) (filter_map (descriptor_of t) (numbers_from first n))
few_listed t first zero = (omega arith, All-nil (λ (g : Descriptor). length g.nsids ≤ nsid_max))
few_listed t first (suc n) = by_nsids (nsids_of t first) (few_members t first) (few_listed t (suc first) n) where
  rest : List Descriptor
  rest = filter_map (descriptor_of t) (numbers_from (suc first) n)

  by_nsids : (nsids : List ℕ) → length nsids ≤ nsid_max → (length rest ≤ n) × All (λ g. length g.nsids ≤ nsid_max) rest
      → (length (cons_option (descriptor_with first (state_of t first) nsids) rest) ≤ suc n) × All (λ g. length g.nsids ≤ nsid_max) (cons_option (descriptor_with first (state_of t first) nsids) rest)
  by_nsids [] short (few, nsids) = (omega arith, nsids)
  by_nsids (m ∷ ms) short (few, nsids) =
      (omega arith, All-cons (λ (g : Descriptor). length g.nsids ≤ nsid_max) (record { id = first; state = state_of t first; nsids = m ∷ ms }) rest short nsids)

pub listing_is_few : (t : Groups) → AreFew (listing_of t)
unfolding listed_by
listing_is_few t = let both = few_listed t 1 32 in record { groups = both.0; nsids = both.1 }
