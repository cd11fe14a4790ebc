-- Lists no two of whose items are the same, by a relation that says which are.
use Rattle.std.proofs.Common.{◌≡◌, ℕ, ◌<◌, Bool, true, false, cond, Some, List, [], ◌∷◌, ◌++◌, length, get_or, map, All, AllPairs, find, slice_get, ap, ◌∙◌, subst, arith}
use Rattle.std.proofs.lemmas.Bool.{both_ways, cond_both, false_from_ne_true}
use Rattle.std.proofs.lemmas.List.{get_or-map, length-map}
use Rattle.std.proofs.lemmas.List.Elements.{All-map}
use Rattle.std.proofs.lemmas.List.Folds.{find_at}
use Rattle.std.proofs.lemmas.List.Quantifiers.{all_pairs_push}
use Rattle.std.proofs.lemmas.List.Sums.{position_or_len_is}
use Rattle.std.proofs.lemmas.Option.{slice_get-get_or}
use Rattle.std.specs.List.{list_any, position_or_len}
use Rattle.config_lists.specs.Lists.{changed_where}
use Rattle.config_lists.proofs.Lists.{no_item}

-- a further item, which a test that finds none would find
pub distinct-push : {X : Type 0} (Same : X → X → Type 0) (test : X → Bool) (xs : List X) (y : X) → AllPairs (λ a b. ¬ Same a b) xs → list_any test xs ≡ false → ((x : X) → Same x y → test x ≡ true) → AllPairs (λ a b. ¬ Same a b) (xs ++ y ∷ [])
distinct-push Same test xs y distinct none finds =
    all_pairs_push (λ a b. ¬ Same a b) xs y distinct (λ k d below same. both_ways (test (get_or xs k d)) (no_item test xs k d none below) (finds (get_or xs k d) same))

-- two that are the same after a change of an item were the same before
distinct_before : {X : Type 0} (Same : X → X → Type 0) (test : X → Bool) (change : X → X) → ((x y : X) → Same (change x) y → Same x y) → ((x y : X) → Same x (change y) → Same x y) → (x y : X) → Same (cond (test x) (change x) x) (cond (test y) (change y) y) → Same x y
distinct_before Same test change first second x y same =
    let at_first : Same x (cond (test y) (change y) y) = cond_both (test x) (change x) x (λ v. Same v (cond (test y) (change y) y) → Same x (cond (test y) (change y) y)) (λ _. first x (cond (test y) (change y) y)) (λ _ h. h) same in
    cond_both (test y) (change y) y (λ v. Same x v → Same x y) (λ _. second x y) (λ _ h. h) at_first

-- a change that makes no two items the same
pub distinct_after : {X : Type 0} (Same : X → X → Type 0) (test : X → Bool) (change : X → X) → ((x y : X) → Same (change x) y → Same x y) → ((x y : X) → Same x (change y) → Same x y) → (xs : List X) → AllPairs (λ a b. ¬ Same a b) xs → AllPairs (λ a b. ¬ Same a b) (changed_where test change xs)
distinct_after {X = X} Same test change first second xs distinct i j d less below same =
    let f : X → X = λ x. cond (test x) (change x) x in
    let later : j < length xs = omega (arith, below, length-map xs f) in
    let earlier : i < length xs = omega arith in
    let at_first : Same (f (get_or xs i d)) (get_or (map f xs) j d) = subst (λ v. Same v (get_or (map f xs) j d)) (get_or-map f xs i d d earlier) same in
    let at_both : Same (f (get_or xs i d)) (f (get_or xs j d)) = subst (λ v. Same (f (get_or xs i d)) v) (get_or-map f xs j d d later) at_first in
    distinct i j d less later (distinct_before Same test change first second (get_or xs i d) (get_or xs j d) at_both)

-- what holds of the items that stay as they are, and of the others after the change
pub All-changed_at : {X : Type 0} (P : X → Type 0) (test : X → Bool) (change : X → X) (xs : List X) → All P xs → All (λ x. test x ≡ true → P (change x)) xs → All P (changed_where test change xs)
All-changed_at P test change xs all changed =
    All-map P (λ x. cond (test x) (change x) x) xs (λ k d below. cond_both (test (get_or xs k d)) (change (get_or xs k d)) (get_or xs k d) P (changed k d below) (λ _. all k d below))

-- the one item that passes is the one that is found
pub found_alone : {X : Type 0} (test : X → Bool) (xs : List X) (k : ℕ) (d : X) → AllPairs (λ a b. ¬ ((test a ≡ true) × (test b ≡ true))) xs → k < length xs → test (get_or xs k d) ≡ true → find test xs ≡ Some (get_or xs k d)
found_alone test xs k d alone below passes =
    let first : position_or_len test xs ≡ k = position_or_len_is test xs k d (omega arith) (λ i before. false_from_ne_true (test (get_or xs i d)) (λ also. alone i k d before below (also, passes))) (λ _. passes) in
    find_at test xs ∙ ap (slice_get xs) first ∙ slice_get-get_or xs k d below
