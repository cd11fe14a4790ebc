-- The identifiers of a list rise, and are those of the subsystem's namespaces.
use Rattle.std.proofs.Common.{◌≡◌, ◌==◌, ◌&&◌, ◌||◌, ℕ, zero, suc, ◌+◌, ◌<◌, ◌≤◌, Bool, true, false, not, List, [], ◌∷◌, All, AllPairs, Contains, ◌↔◌, nat_lt, nat_eq, filter, length, refl, ap, sym, ◌∙◌, arith}
use Rattle.std.proofs.lemmas.Bool.{and_from, and_parts, lt-ltb, ltb-true}
use Rattle.std.proofs.lemmas.Bool.Decides.{nat_tests}
use Rattle.std.proofs.lemmas.List.Elements.{All-cons, All-contains, All-nil, All-weaker}
use Rattle.std.proofs.lemmas.List.Folds.{Any-from_list_any, list_any-from_Any}
use Rattle.std.proofs.lemmas.List.Kept.{AllPairs-cons, AllPairs-filter}
use Rattle.std.proofs.lemmas.Map.Views.{Contains-from_any, list_any-from_Contains}
use Rattle.std.specs.Cmp.{nat_eq_equiv}
use Rattle.std.specs.Str.{bytes_eq}
use Rattle.config_lists.specs.declared.namespace.Namespace.{Namespace}
use Rattle.config_lists.specs.Namespace.{is_named, nsid_max}
use Rattle.config_lists.proofs.Names.{bytes_eq-same, same_name}
use Rattle.nvt_config.specs.Configuration.{Configuration}
use Rattle.nvt_config.specs.Valid.{IsNamespace, IsValid}
use Rattle.nvt_config.proofs.Count.{namespaces_are_few}
use Rattle.config_lists.specs.Numbered.{active_nsids, is_there, nsids_where, numbers_from}
use Rattle.config_lists.proofs.Numbers.{kept_where, none_kept, numbers_between}
use Rattle.nvt_config.specs.SeenBy.{seen_by}
use Rattle.nvt_config.proofs.Seeing.{sees_what_is_shown}
use Rattle.change_lists.specs.ActiveList.{IsActive, NsidsAreListed, list_page, nsids_above}
use Rattle.change_lists.proofs.Pages.{length-kept, length-page}

-- numbers in a row rise, and are those between two
All-above : (low first n : ℕ) → low < first → All (λ m. low < m) (numbers_from first n)
All-above low first zero below = All-nil (λ m. low < m)
All-above low first (suc n) below =
    All-cons (λ m. low < m) first (numbers_from (suc first) n) below (All-above low (suc first) n (omega arith))

numbers_rise : (first n : ℕ) → AllPairs ◌<◌ (numbers_from first n)
numbers_rise first zero = λ i j d less below. absurd (omega arith)
numbers_rise first (suc n) =
    AllPairs-cons ◌<◌ first (numbers_from (suc first) n) (All-above first (suc first) n (omega arith)) (numbers_rise (suc first) n)

-- a subsystem has a namespace of an identifier
abbrev IsThere : Configuration → List ℕ → ℕ → Type 0
IsThere c subsystem nsid = (n : Namespace) × Contains c.namespaces n × (n.subsystem ≡ subsystem) × (n.nsid ≡ nsid)

-- a list of those above one
record IsListing (c : Configuration) (subsystem : List ℕ) (above : ℕ) (nsids : List ℕ) : Type 0 where
  rising : AllPairs ◌<◌ nsids
  listed : (nsid : ℕ) → Contains nsids nsid ↔ ((above < nsid) × IsThere c subsystem nsid)
  fits : length (list_page nsids) ≤ 4096

active_there : (c : Configuration) (subsystem : List ℕ) (k : ℕ) → IsThere c subsystem k → is_there c.namespaces subsystem k ≡ true
active_there c subsystem k (n, (at, below, is), named, numbered) =
    list_any-from_Any (is_named subsystem k) c.namespaces
    (at, n, below, is, and_from (bytes_eq n.subsystem subsystem) (n.nsid == k) (bytes_eq-same n.subsystem subsystem named) (grind (arith, nat_tests, numbered)))

there_active : (c : Configuration) (subsystem : List ℕ) (k : ℕ) → is_there c.namespaces subsystem k ≡ true → IsThere c subsystem k
there_active c subsystem k there =
    let (at, n, below, is, named) = Any-from_list_any (is_named subsystem k) c.namespaces there in
    let parts = and_parts (bytes_eq n.subsystem subsystem) (n.nsid == k) named in
    (n, (at, below, is), same_name n.subsystem subsystem parts.0, grind (arith, nat_tests, parts.1))

-- each namespace has one of so many identifiers
abbrev AreWithin : ℕ → ℕ → List Namespace → Type 0
AreWithin first n namespaces = All (λ m. (first ≤ m.nsid) × (m.nsid < first + n)) namespaces

-- what a list has is listed, and the other way round
abbrev Has : Configuration → List ℕ → ℕ → ℕ → ℕ → ℕ → Type 0
Has c subsystem above first n k =
    (nat_lt above k && (is_there c.namespaces subsystem k && (nat_lt k (first + n) && not (nat_lt k first)))) ≡ true

is_listed : (c : Configuration) (subsystem : List ℕ) (above first n k : ℕ) → Has c subsystem above first n k → (above < k) × IsThere c subsystem k
is_listed c subsystem above first n k has =
    let parts = and_parts (nat_lt above k) _ has in
    let there = and_parts (is_there c.namespaces subsystem k) _ parts.1 in
    (ltb-true above k parts.0, there_active c subsystem k there.0)

has_listed : (c : Configuration) (subsystem : List ℕ) (above first n k : ℕ) → AreWithin first n c.namespaces → (above < k) × IsThere c subsystem k → Has c subsystem above first n k
has_listed c subsystem above first n k within (over, (m, found, named, numbered)) =
    let between = All-contains (λ m. (first ≤ m.nsid) × (m.nsid < first + n)) c.namespaces m within found in
    let there = active_there c subsystem k (m, found, named, numbered) in
    let range : (nat_lt k (first + n) && not (nat_lt k first)) ≡ true = grind (arith, nat_tests, between.0, between.1, numbered) in
    and_from (nat_lt above k) _ (lt-ltb above k over) (and_from (is_there c.namespaces subsystem k) _ there range)

-- ---- a list is no longer than the namespaces are many

-- those that pass one of two tests are no more than those that pass each
few_of_either : (p q : ℕ → Bool) (xs : List ℕ) → length (filter (λ k. p k || q k) xs) ≤ length (filter p xs) + length (filter q xs)
few_of_either p q [] = omega arith
few_of_either p q (x ∷ xs) = by_tests (p x) (q x) refl refl (few_of_either p q xs) where
  by_tests : (a b : Bool) → p x ≡ a → q x ≡ b → length (filter (λ k. p k || q k) xs) ≤ length (filter p xs) + length (filter q xs)
      → length (filter (λ k. p k || q k) (x ∷ xs)) ≤ length (filter p (x ∷ xs)) + length (filter q (x ∷ xs))
  by_tests true true pa qb rest = rw (pa, qb) (omega arith)
  by_tests true false pa qb rest = rw (pa, qb) (omega arith)
  by_tests false true pa qb rest = rw (pa, qb) (omega arith)
  by_tests false false pa qb rest = rw (pa, qb) rest

-- a namespace has one identifier
at_most_one : (named : Bool) (nsid first n : ℕ) → length (filter (λ k. named && (nsid == k)) (numbers_from first n)) ≤ 1
at_most_one named nsid first zero = omega arith
at_most_one named nsid first (suc n) = by_test (named && (nsid == first)) refl (at_most_one named nsid (suc first) n) where
  behind : (named && (nsid == first)) ≡ true → (k : ℕ) → suc first ≤ k → k < suc first + n → (named && (nsid == k)) ≡ false
  behind is k above below =
      let here : nsid ≡ first = grind (arith, nat_tests, (and_parts named (nsid == first) is).1) in
      let apart : (nsid == k) ≡ false = grind (arith, nat_tests, here, above) in
      ap (λ b. named && b) apart ∙ off named where
        off : (b : Bool) → (b && false) ≡ false
        off true = refl
        off false = refl

  by_test : (b : Bool) → (named && (nsid == first)) ≡ b → length (filter (λ k. named && (nsid == k)) (numbers_from (suc first) n)) ≤ 1 → length (filter (λ k. named && (nsid == k)) (numbers_from first (suc n))) ≤ 1
  by_test true is rest = rw (is, none_kept (λ k. named && (nsid == k)) (suc first) n (behind is)) (omega arith)
  by_test false is rest = rw is rest

few_there : (namespaces : List Namespace) (subsystem : List ℕ) (first n : ℕ) → length (filter (is_there namespaces subsystem) (numbers_from first n)) ≤ length namespaces
few_there [] subsystem first n = omega (arith, ap length (none_kept (λ _. false) first n (λ k above below. refl)))
few_there (m ∷ namespaces) subsystem first n =
    omega (
      arith,
      few_of_either (λ k. is_named subsystem k m) (is_there namespaces subsystem) (numbers_from first n),
      at_most_one (bytes_eq m.subsystem subsystem) m.nsid first n,
      few_there namespaces subsystem first n,
    )

listed_from : (c : Configuration) (subsystem : List ℕ) (above first n : ℕ) → IsValid c → AreWithin first n c.namespaces → IsListing c subsystem above (nsids_above above (filter (is_there c.namespaces subsystem) (numbers_from first n)))
listed_from c subsystem above first n valid within =
    let there : ℕ → Bool = is_there c.namespaces subsystem in
    let numbers : List ℕ = numbers_from first n in
    let all : List ℕ = filter there numbers in
    let over : ℕ → Bool = λ k. nat_lt above k in
    record {
      rising = AllPairs-filter ◌<◌ over all (AllPairs-filter ◌<◌ there numbers (numbers_rise first n));
      listed = λ k.
          let counted = kept_where over all k ∙ ap (λ b. over k && b) (kept_where there numbers k ∙ ap (λ b. there k && b) (numbers_between first n k)) in (
            λ found. is_listed c subsystem above first n k (sym counted ∙ list_any-from_Contains nat_eq_equiv k (filter over all) found),
            λ listed. Contains-from_any {eq = nat_eq} (λ i j same. grind (arith, nat_tests, same)) k (filter over all) (counted ∙ has_listed c subsystem above first n k within listed),
          );
      fits = omega (arith, length-page (filter over all), length-kept over all, few_there c.namespaces subsystem first n, namespaces_are_few c valid);
    }

nsids_within : (c : Configuration) → IsValid c → AreWithin 1 nsid_max c.namespaces
nsids_within c valid =
    All-weaker (IsNamespace c.units c.subsystems) (λ m. (1 ≤ m.nsid) × (m.nsid < 1 + nsid_max))
    (λ m sound. (grind (arith, nat_tests, sound.nsid), grind (arith, nat_tests, sound.nsid))) c.namespaces valid.namespaces.sound

-- what a host sees is there, and seen
seen_there : (c : Configuration) (host subsystem : List ℕ) (k : ℕ) → IsThere (seen_by c host) subsystem k ↔ IsActive c host subsystem k
seen_there c host subsystem k = (
  λ (n, found, named, numbered). let both = (sees_what_is_shown.namespaces c host n).0 found in (n, both.0, both.1, named, numbered),
  λ (n, found, sees, named, numbered). (n, (sees_what_is_shown.namespaces c host n).1 (found, sees), named, numbered),
)

pub nsids_listed : NsidsAreListed
unfolding active_nsids nsids_where
nsids_listed c host subsystem above valid =
    let seen : Configuration = seen_by c host in
    let sound : IsValid seen = sees_what_is_shown.valid c host valid in
    let listing : IsListing seen subsystem above (nsids_above above (active_nsids seen.namespaces subsystem)) = listed_from seen subsystem above 1 nsid_max sound (nsids_within seen sound) in
    record {
      rising = listing.rising;
      listed = λ nsid.
          let there = seen_there c host subsystem nsid in (
            λ found. let is = (listing.listed nsid).0 found in (is.0, there.0 is.1),
            λ active. (listing.listed nsid).1 (active.0, there.1 active.1),
          );
      fits = listing.fits;
    }
