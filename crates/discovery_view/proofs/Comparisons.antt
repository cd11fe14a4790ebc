-- A comparison of two walks item by item is one of the lists that are left of them.
use Rattle.std.proofs.Common.{◌≡◌, IfSome, MatchOption, Bool, true, false, Option, Some, None, List, [], ◌∷◌, ◌++◌, refl, ap, sym, ◌∙◌}
use Rattle.std.proofs.lemmas.List.{append-nil}
use Rattle.std.specs.Cmp.Lexicographic.{pointwise}
use Rattle.std.specs.Iterator.{ComparesItemsByEq, Drains, Yields, YieldsFirst}
use Rattle.std.specs.List.{AllZip}

-- the items that came were the first that were left
yielded : {P : Type 0} (xs before after : List P) → Yields (YieldsFirst (λ l. l)) before xs after → before ≡ xs ++ after
yielded [] before after same = same
yielded (x ∷ xs) before after step = step.1 ∙ ap (λ l. x ∷ l) (yielded xs step.0 after step.2)

-- items that are equal in pairs leave the comparison to those behind them
behind_equals : {P : Type 0} (E : P → P → Bool) (xs ys s t : List P) → AllZip (λ x y. E x y ≡ true) xs ys → pointwise E (xs ++ s) (ys ++ t) ≡ pointwise E s t
behind_equals E [] [] s t all = refl
behind_equals E [] (y ∷ ys) s t all = absurd all
behind_equals E (x ∷ xs) [] s t all = absurd all
behind_equals E (x ∷ xs) (y ∷ ys) s t all = rw all.0 (behind_equals E xs ys s t all.1)

-- the answer at the first pair of calls that did not give equals
ends : {P : Type 0} (E : P → P → Bool) (o p : Option P) (s t u v : List P) (r : Bool) → YieldsFirst (λ l. l) s o u → YieldsFirst (λ l. l) t p v → MatchOption o (MatchOption p (r ≡ true) (λ _. r ≡ false)) (λ x. (r ≡ false) × IfSome p (λ y. E x y ≡ false)) → r ≡ pointwise E s t
ends E None None s t u v r one other last = rw (one.0, other.0) last
ends E None (Some y) s t u v r one other last = rw (one.0, other) last
ends E (Some x) None s t u v r one other last = rw (one, other.0) last.0
ends E (Some x) (Some y) s t u v r one other last = rw (one, other, last.1) last.0

pub same_lists : {P : Type 0} (E : P → P → Bool) (s t : List P) (r : Bool) → ComparesItemsByEq (YieldsFirst (λ l. l)) (λ a b. b ≡ a) (YieldsFirst (λ l. l)) s t E r → r ≡ pointwise E s t
same_lists E s t r (it, xs, ys, o, p, u, v, is, (s_end, s_yields, s_last), (t_end, t_yields, t_last), equal, last) =
    let one : s ≡ xs ++ s_end = yielded xs s s_end s_yields in
    let other : t ≡ ys ++ t_end = sym is ∙ yielded ys it t_end t_yields in
    ends E o p s_end t_end u v r s_last t_last last ∙ sym (behind_equals E xs ys s_end t_end equal) ∙ sym (ap (λ l. pointwise E l (ys ++ t_end)) one) ∙ sym (ap (pointwise E s) other)

-- the items that came, up to the end, were all that were left
pub drained : {P : Type 0} (xs s : List P) → Drains (YieldsFirst (λ l. l)) s xs → s ≡ xs
drained xs s (u, (t, yields, last)) =
    yielded xs s t yields ∙ ap (λ l. xs ++ l) last.0 ∙ append-nil xs
