-- Lists of which each element is so to one of another.
use Rattle.std.proofs.Common.{◌≡◌, ◌∙◌, ℕ, ◌+◌, ◌<◌, List, [], ◌∷◌, ◌++◌, ap, get_or, length, subst, sym, take}
use Rattle.std.proofs.lemmas.List.{take_more}
use Rattle.target_programs.specs.Disks.{EachIsSo}

-- one more of each
each_more : {A B : Type 0} (Is : A → B → Type 0) (ones : List A) (others : List B) (one : A) (other : B) → EachIsSo Is ones others → Is one other
    → EachIsSo Is (ones ++ one ∷ []) (others ++ other ∷ [])
each_more Is [] [] one other each last = (last, tt)
each_more Is [] (y ∷ others) one other each last = absurd each
each_more Is (x ∷ ones) [] one other each last = absurd each
each_more Is (x ∷ ones) (y ∷ others) one other each last = (each.0, each_more Is ones others one other each.1 last)

-- the next of a list
pub each_next : {A B : Type 0} (Is : A → B → Type 0) (all : List A) (n : ℕ) (one : A) (others : List B) (other : B) → n < length all → one ≡ get_or all n one
    → EachIsSo Is (take n all) others → Is one other → EachIsSo Is (take (n + 1) all) (others ++ other ∷ [])
each_next Is all n one others other lt here each last =
    subst (λ ones. EachIsSo Is ones (others ++ other ∷ [])) (sym (take_more all n one lt ∙ ap (λ it. take n all ++ it ∷ []) (sym here)))
    (each_more Is (take n all) others one other each last)
