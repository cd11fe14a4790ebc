-- What is known of an item of a list, between those before it and those after it.
use Rattle.std.proofs.Common.{◌≡◌, ◌<◌, ◌≤◌, ◌++◌, ◌∷◌, [], ℕ, Bool, true, false, List, All, Any, AllPairs, nat_le, length, get_or, refl, ap, sym, ◌∙◌, subst, arith}
use Rattle.std.proofs.lemmas.Bool.{cond-false, cond-true, false_from_ne_true, lt-leb, or_left, or_parts, or_right}
use Rattle.std.proofs.lemmas.List.{get_or_append_left, get_or_at, length-append}
use Rattle.std.proofs.lemmas.List.Folds.{Any-from_list_any, list_any-append, list_any_none}
use Rattle.std.specs.List.{list_any}
use Rattle.config_lists.specs.Lists.{changed_where}

within : {X : Type 0} (before : List X) (x : X) (after : List X) → length before < length (before ++ x ∷ after)
within before x after = omega (arith, length-append before (x ∷ after))

-- what holds of each holds of it
pub item_sound : {X : Type 0} (P : X → Type 0) (before : List X) (x : X) (after : List X) → All P (before ++ x ∷ after) → P x
item_sound P before x after all =
    subst P (get_or_at before x after x (length before) refl) (all (length before) x (within before x after))

-- where no two are the same, no item before it passes a test that only the same pass
pub item_new : {X : Type 0} (Same : X → X → Type 0) (test : X → Bool) (before : List X) (x : X) (after : List X) → AllPairs (λ a b. ¬ Same a b) (before ++ x ∷ after) → ((a : X) → test a ≡ true → Same a x) → list_any test before ≡ false
item_new {X = X} Same test before x after distinct only =
    let all : List X = before ++ x ∷ after in
    list_any_none test before (λ k d below. false_from_ne_true (test (get_or before k d)) (λ passes.
    let same : Same (get_or before k d) x = only (get_or before k d) passes in
    let first : Same (get_or all k d) x = subst (λ v. Same v x) (sym (get_or_append_left before (x ∷ after) d k below)) same in
    let both : Same (get_or all k d) (get_or all (length before) d) = subst (λ v. Same (get_or all k d) v) (sym (get_or_at before x after d (length before) refl)) first in
    distinct k (length before) d below (within before x after) both))

-- where the list is within its limit, those before it leave room
pub item_fits : {X : Type 0} (most : ℕ) (before : List X) (x : X) (after : List X) → length (before ++ x ∷ after) ≤ most → nat_le most (length before) ≡ false
item_fits most before x after count =
    let less : length before < length (before ++ x ∷ after) = within before x after in
    lt-leb most (length before) (omega arith)

-- the last item is found
pub finds_last : {X : Type 0} (test : X → Bool) (before : List X) (x : X) → test x ≡ true → list_any test (before ++ x ∷ []) ≡ true
finds_last test before x passes =
    list_any-append test before (x ∷ []) ∙ or_right (list_any test before) (list_any test (x ∷ [])) (or_left (test x) false passes)

-- where only the last passes, it alone changes
pub changed_last : {X : Type 0} (test : X → Bool) (change : X → X) (before : List X) (x : X) → list_any test before ≡ false → test x ≡ true → changed_where test change (before ++ x ∷ []) ≡ before ++ change x ∷ []
changed_last test change [] x none passes = ap (λ y. y ∷ []) (cond-true (test x) (change x) x passes)
changed_last test change (first ∷ before) x none passes =
    let parts = or_parts (test first) (list_any test before) none in
    ap (λ y. y ∷ changed_where test change (before ++ x ∷ [])) (cond-false (test first) (change first) first parts.0)
    ∙ ap (λ ys. first ∷ ys) (changed_last test change before x parts.1 passes)

-- one that a test finds passes it, and what holds of each holds of it
pub found_sound : {X : Type 0} (P : X → Type 0) (test : X → Bool) (xs : List X) → All P xs → list_any test xs ≡ true → (x : X) × P x × (test x ≡ true)
found_sound P test xs all there =
    let any : Any (λ x. test x ≡ true) xs = Any-from_list_any test xs there in
    (any.1, subst P any.3 (all any.0 any.1 any.2), any.4)
