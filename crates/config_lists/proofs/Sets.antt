-- Sets of identifiers, and how they change with the test that those in them pass.
use Rattle.std.proofs.Common.{◌≡◌, ℕ, ◌+◌, ◌-◌, ◌<◌, ◌≤◌, Bool, true, false, not, ◌==◌, ◌&&◌, ◌||◌, [], ◌∷◌, filter, length, nat_eq, nat_lt, refl, ap, ◌∙◌, arith}
use Rattle.std.proofs.lemmas.Bool.Decides.{nat_tests}
use Rattle.std.specs.List.{list_any}
use Rattle.config_lists.specs.Namespace.{is_nsid, nsid_max}
use Rattle.config_lists.specs.NsidSet.{with_nsid}
use Rattle.config_lists.specs.Numbered.{nsids_from, nsids_where, numbers_from}
use Rattle.config_lists.proofs.Numbers.{few_kept, hidden_between, kept_alike, kept_where, none_kept, numbers_between, shown_next}

pub nsids_alike : (p q : ℕ → Bool) → ((k : ℕ) → 1 ≤ k → k ≤ nsid_max → p k ≡ q k) → nsids_where p ≡ nsids_where q
unfolding nsids_where
nsids_alike p q same = kept_alike p q 1 nsid_max (λ k above below. same k above (omega arith))

pub no_nsids : (p : ℕ → Bool) → ((k : ℕ) → 1 ≤ k → k ≤ nsid_max → p k ≡ false) → nsids_where p ≡ []
unfolding nsids_where
no_nsids p none = none_kept p 1 nsid_max (λ k above below. none k above (omega arith))

pub nsids_are_few : (p : ℕ → Bool) → length (nsids_where p) ≤ nsid_max
unfolding nsids_where
nsids_are_few p = few_kept p 1 nsid_max

-- an identifier that a namespace may have is among those that pass exactly where it passes
pub is_where : (p : ℕ → Bool) (k : ℕ) → 1 ≤ k → k ≤ nsid_max → list_any (nat_eq k) (nsids_where p) ≡ p k
unfolding nsids_where
is_where p k above below =
    let within : (nat_lt k (1 + nsid_max) && not (nat_lt k 1)) ≡ true = grind (arith, nat_tests, above, below) in
    kept_where p (numbers_from 1 nsid_max) k ∙ ap (λ b. p k && b) (numbers_between 1 nsid_max k ∙ within) ∙ and_true (p k) where
      and_true : (b : Bool) → (b && true) ≡ b
      and_true true = refl
      and_true false = refl

-- one that no namespace may have is not among them
pub is_nowhere : (p : ℕ → Bool) (k : ℕ) → is_nsid k ≡ false → list_any (nat_eq k) (nsids_where p) ≡ false
unfolding nsids_where
is_nowhere p k outside =
    let without : (nat_lt k (1 + nsid_max) && not (nat_lt k 1)) ≡ false = grind (arith, nat_tests, outside) in
    kept_where p (numbers_from 1 nsid_max) k ∙ ap (λ b. p k && b) (numbers_between 1 nsid_max k ∙ without) ∙ and_false (p k) where
      and_false : (b : Bool) → (b && false) ≡ false
      and_false true = refl
      and_false false = refl

-- a set is told by its own test
pub set_is_where : (p : ℕ → Bool) → nsids_where (λ n. list_any (nat_eq n) (nsids_where p)) ≡ nsids_where p
set_is_where p = nsids_alike (λ n. list_any (nat_eq n) (nsids_where p)) p (is_where p)

-- one identifier more
pub one_more : (p : ℕ → Bool) (nsid : ℕ) → with_nsid nsid (nsids_where p) ≡ nsids_where (λ n. (n == nsid) || p n)
one_more p nsid =
    nsids_alike (λ n. (n == nsid) || list_any (nat_eq n) (nsids_where p)) (λ n. (n == nsid) || p n) (λ k above below. ap (λ b. (k == nsid) || b) (is_where p k above below))

-- .. that no namespace may have
pub none_more : (p : ℕ → Bool) (nsid : ℕ) → ((k : ℕ) → 1 ≤ k → k ≤ nsid_max → (k == nsid) ≡ false) → with_nsid nsid (nsids_where p) ≡ nsids_where p
none_more p nsid outside =
    one_more p nsid ∙ nsids_alike (λ n. (n == nsid) || p n) p (λ k above below. ap (λ b. b || p k) (outside k above below))

-- ---- those from one on

pub all_from_first : (p : ℕ → Bool) → nsids_from 1 p ≡ nsids_where p
unfolding nsids_from nsids_where
all_from_first p = refl

pub none_from_end : (p : ℕ → Bool) (next : ℕ) → nsid_max < next → nsids_from next p ≡ []
unfolding nsids_from
none_from_end p next past =
    let none : nsid_max + 1 - next ≡ 0 = omega (arith, past) in
    ap (λ n. filter p (numbers_from next n)) none

pub first_from : (p : ℕ → Bool) (next nsid : ℕ) → next ≤ nsid → nsid ≤ nsid_max → p nsid ≡ true → ((k : ℕ) → next ≤ k → k < nsid → p k ≡ false)
    → nsids_from next p ≡ nsid ∷ nsids_from (nsid + 1) p
unfolding nsids_from
first_from p next nsid above below there none =
    hidden_between p next nsid (nsid_max + 1) above (omega (arith, below)) none ∙ shown_next p nsid (nsid_max + 1) (omega (arith, below)) there

pub passed_from : (p : ℕ → Bool) (next to : ℕ) → next ≤ to → to ≤ nsid_max + 1 → ((k : ℕ) → next ≤ k → k < to → p k ≡ false) → nsids_from next p ≡ nsids_from to p
unfolding nsids_from
passed_from p next to above most none = hidden_between p next to (nsid_max + 1) above most none
