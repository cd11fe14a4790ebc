-- The identifiers that have a namespace, as a table is filled.
use Rattle.std.proofs.Common.{◌≡◌, ℕ, ◌<◌, ◌+◌, ◌==◌, ◌||◌, true, false, List, [], Option, Some, None, get_or, length, map, is_some, refl, ap, sym, ◌∙◌, arith, inl, inr}
use Rattle.std.proofs.Math.ListN.{get_or-map}
use Rattle.std.proofs.lemmas.Bool.{cases_eq}
use Rattle.std.proofs.lemmas.Bool.Decides.{nat_tests}
use Rattle.std.specs.Borrow.{Bor}
use Rattle.std.specs.Option.{option_copied}
use Rattle.std.specs.Prelude.{is_none, if◌then◌else◌}
use Rattle.config_lists.specs.declared.namespace.Namespace.{Namespace}
use Rattle.config_lists.specs.Namespace.{nsid_max}
use Rattle.config_lists.specs.NsidSet.{with_nsid}
use Rattle.config_lists.proofs.Sets.{no_nsids, nsids_alike, one_more}
use Rattle.config_lists.specs.Nsids.{is_taken, nsids_in}
use Rattle.config_lists.specs.Tables.{IsEmptyTable, with_first}
use Rattle.config_lists.proofs.Tables.{put_here, put_there}

-- whether a place has a namespace, as the table lends it
taken_place : (places : List (Option (Bor Namespace))) (k : ℕ) → is_taken (map option_copied places) k ≡ is_some (get_or places k None)
taken_place places k = ap is_some (get_or-map option_copied places k None) ∙ lent (get_or places k None) where
  lent : (o : Option (Bor Namespace)) → is_some (option_copied o) ≡ is_some o
  lent None = refl
  lent (Some x) = refl

pub none_taken : (places : List (Option (Bor Namespace))) → IsEmptyTable places → [] ≡ nsids_in (map option_copied places)
none_taken places empty =
    sym (no_nsids (is_taken (map option_copied places)) (λ k above below. ap is_some (get_or-map option_copied places k None ∙ empty k)))

-- a place more has one
place_taken : (places : List (Option (Bor Namespace))) (at k : ℕ) (x : Bor Namespace) → k < length places
    → is_taken (map option_copied (with_first places at x)) k ≡ ((k == at) || is_taken (map option_copied places) k)
place_taken places at k x within = elim (cases_eq k at) [
  | inl same ↦
      let here : (k == at) ≡ true = grind (arith, nat_tests, same) in
      taken_place (with_first places at x) k
      ∙ ap (λ a. is_some (get_or (with_first places a x) k None)) (sym same)
      ∙ ap is_some (put_here places k x within) ∙ some_there (get_or places k None)
      ∙ sym (ap (λ b. b || is_taken (map option_copied places) k) here)
  | inr apart ↦
      let there : (k == at) ≡ false = grind (arith, nat_tests, apart) in
      taken_place (with_first places at x) k
      ∙ ap is_some (put_there places at k x apart)
      ∙ sym (taken_place places k)
      ∙ sym (ap (λ b. b || is_taken (map option_copied places) k) there)
] where
  some_there : (o : Option (Bor Namespace)) → is_some (if is_none o then Some x else o) ≡ true
  some_there None = refl
  some_there (Some y) = refl

pub one_taken : (places : List (Option (Bor Namespace))) (at : ℕ) (x : Bor Namespace) → length places ≡ nsid_max + 1
    → with_nsid at (nsids_in (map option_copied places)) ≡ nsids_in (map option_copied (with_first places at x))
one_taken places at x all =
    one_more (is_taken (map option_copied places)) at
    ∙ sym (nsids_alike (is_taken (map option_copied (with_first places at x))) (λ n. (n == at) || is_taken (map option_copied places) n) (λ k above below.
    place_taken places at k x (omega (arith, below, all))))
