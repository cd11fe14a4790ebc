-- The least plan forms no more than the stretch in which two tables differ.
use Rattle.std.proofs.Common.{◌≡◌, ◌⊎◌, ℕ, zero, suc, ◌≤◌, ◌+◌, ◌-◌, List, [], ◌∷◌, ◌++◌, length, take, drop, refl, sym, ap, ◌∙◌, inl, inr, arith, length-append}
use Rattle.std.specs.Prelude.{reverse, slice_range, if◌then◌else◌}
use Rattle.std.proofs.lemmas.Bool.{cases_lt}
use Rattle.std.proofs.lemmas.List.{length-drop, length-reverse, length-take, reverse-append, take-append-drop}
use Rattle.discovery_view.specs.Plan.{IsLeast, Planned, common_first, common_last}
use Rattle.discovery_view.specs.Record.{Parts, same_parts}
use Rattle.discovery_view.proofs.Changing.{Changes}
use Rattle.discovery_view.proofs.Told.{own}

-- ---- the beginning

front_common : (a x y : List Parts) → common_first (a ++ x) (a ++ y) ≡ length a + common_first x y
front_common [] x y = omega arith
front_common (p ∷ a) x y = rw (own p) (omega (arith, front_common a x y))

one_same : (p q : Parts) (m n : ℕ) → p ≡ q → m ≤ n → suc m ≤ (if same_parts p q then 1 + n else 0)
one_same p q m n is within = rw (is, own q) (omega (arith, within))

head_same : (p q : Parts) (ps qs : List Parts) → p ∷ ps ≡ q ∷ qs → p ≡ q
head_same p q ps qs h = cc

tail_same : (p q : Parts) (ps qs : List Parts) → p ∷ ps ≡ q ∷ qs → ps ≡ qs
tail_same p q ps qs h = cc

same_front : (m : ℕ) (ps qs : List Parts) → take m ps ≡ take m qs → m ≤ length ps → m ≤ length qs → m ≤ common_first ps qs
same_front zero ps qs same one other = omega arith
same_front (suc m) [] qs same one other = absurd (omega (arith, one))
same_front (suc m) (p ∷ ps) [] same one other = absurd (omega (arith, other))
same_front (suc m) (p ∷ ps) (q ∷ qs) same one other =
    one_same p q m (common_first ps qs) (head_same p q (take m ps) (take m qs) same)
    (same_front m ps qs (tail_same p q (take m ps) (take m qs) same) (omega (arith, one)) (omega (arith, other)))

-- ---- the end

take_front : {T : Type 0} (m : ℕ) (a b : List T) → m ≤ length a → take m (a ++ b) ≡ take m a
take_front zero a b within = refl
take_front (suc m) [] b within = absurd (omega (arith, within))
take_front (suc m) (x ∷ a) b within = ap (λ zs. x ∷ zs) (take_front m a b (omega (arith, within)))

drop_front : {T : Type 0} → (a x : List T) (f : ℕ) → drop (length a + f) (a ++ x) ≡ drop f x
drop_front {T = T} [] x f =
    let none : length {A = T} [] + f ≡ f = omega arith in
    ap (λ n. drop n x) none
drop_front (y ∷ a) x f =
    let one : length (y ∷ a) + f ≡ suc (length a + f) = omega arith in
    ap (λ n. drop n (y ∷ (a ++ x))) one ∙ drop_front a x f

end_of : {T : Type 0} (m f : ℕ) (z : List T) → m ≤ length (drop f z) → take m (reverse (drop f z)) ≡ take m (reverse z)
end_of m f z within =
    let parts : reverse z ≡ reverse (drop f z) ++ reverse (take f z) =
    ap reverse (sym (take-append-drop f z)) ∙ reverse-append (take f z) (drop f z) in
    sym (take_front m (reverse (drop f z)) (reverse (take f z)) (omega (arith, within, length-reverse (drop f z)))) ∙ ap (take m) (sym parts)

end_common : {T : Type 0} (m f : ℕ) (b r : List T) → m ≤ length (drop f (b ++ r)) → m ≤ length r → take m (reverse (drop f (b ++ r))) ≡ take m (reverse r)
end_common m f b r within short =
    end_of m f (b ++ r) within ∙ ap (take m) (reverse-append b r) ∙ take_front m (reverse r) (reverse b) (omega (arith, short, length-reverse r))

last_long : (m f : ℕ) (b d r : List Parts) → m ≤ length (drop f (b ++ r)) → m ≤ length (drop f (d ++ r)) → m ≤ length r
    → m ≤ common_last (drop f (b ++ r)) (drop f (d ++ r))
last_long m f b d r one other short =
    same_front m (reverse (drop f (b ++ r))) (reverse (drop f (d ++ r)))
    (end_common m f b r one short ∙ sym (end_common m f d r other short))
    (omega (arith, one, length-reverse (drop f (b ++ r)))) (omega (arith, other, length-reverse (drop f (d ++ r))))

-- the least of three
least_of : (x y r : ℕ) → (m : ℕ) × (m ≤ x) × (m ≤ y) × (m ≤ r) × ((m ≡ x) ⊎ ((m ≡ y) ⊎ (m ≡ r)))
least_of x y r =
    elim (cases_lt x r) [
      | inl below ↦ elim (cases_lt y x) [
        | inl less ↦ (y, omega (arith, less), omega arith, omega (arith, less, below), inr (inl refl))
        | inr more ↦ (x, omega arith, more, omega (arith, below), inl refl)
      ]
      | inr above ↦ elim (cases_lt y r) [
        | inl less ↦ (y, omega (arith, less, above), omega arith, omega (arith, less), inr (inl refl))
        | inr more ↦ (r, above, more, omega arith, inr (inr refl))
      ]
    ]

few_between : (a b d r f m last fresh : ℕ) → m ≤ last → (m ≡ (b + r) - f) ⊎ ((m ≡ (d + r) - f) ⊎ (m ≡ r)) → fresh ≤ ((a + (d + r)) - last) - (a + f) → fresh ≤ d
few_between a b d r f m last fresh long (inl is) within = omega (arith, long, is, within)
few_between a b d r f m last fresh long (inr (inl is)) within = omega (arith, long, is, within)
few_between a b d r f m last fresh long (inr (inr is)) within = omega (arith, long, is, within)

range_short : {T : Type 0} (xs : List T) (from to : ℕ) → length (slice_range xs from to) ≤ to - from
range_short xs from to = omega (arith, length-take (to - from) (drop from xs))

as_lengths : (m x y r b d f : ℕ) → x ≡ (b + r) - f → y ≡ (d + r) - f → (m ≡ x) ⊎ ((m ≡ y) ⊎ (m ≡ r)) → (m ≡ (b + r) - f) ⊎ ((m ≡ (d + r) - f) ⊎ (m ≡ r))
as_lengths m x y r b d f one other (inl is) = inl (is ∙ one)
as_lengths m x y r b d f one other (inr (inl is)) = inr (inl (is ∙ other))
as_lengths m x y r b d f one other (inr (inr is)) = inr (inr is)

fresh_of : (a b d r : List Parts) (plan : Planned) → IsLeast (a ++ (b ++ r)) (a ++ (d ++ r)) plan → length plan.fresh ≤ length d
fresh_of a b d r plan least =
    let f = common_first (b ++ r) (d ++ r) in
    let first : plan.first ≡ length a + f = least.first ∙ front_common a (b ++ r) (d ++ r) in
    let old : drop plan.first (a ++ (b ++ r)) ≡ drop f (b ++ r) = ap (λ n. drop n (a ++ (b ++ r))) first ∙ drop_front a (b ++ r) f in
    let new : drop plan.first (a ++ (d ++ r)) ≡ drop f (d ++ r) = ap (λ n. drop n (a ++ (d ++ r))) first ∙ drop_front a (d ++ r) f in
    let last : plan.last ≡ common_last (drop f (b ++ r)) (drop f (d ++ r)) =
    least.last ∙ ap (λ xs. common_last xs (drop plan.first (a ++ (d ++ r)))) old ∙ ap (common_last (drop f (b ++ r))) new in
    let one : length (drop f (b ++ r)) ≡ (length b + length r) - f = length-drop f (b ++ r) ∙ ap (λ n. n - f) (length-append b r) in
    let other : length (drop f (d ++ r)) ≡ (length d + length r) - f = length-drop f (d ++ r) ∙ ap (λ n. n - f) (length-append d r) in
    let m = least_of (length (drop f (b ++ r))) (length (drop f (d ++ r))) (length r) in
    let long : m.0 ≤ plan.last = omega (arith, last, last_long m.0 f b d r m.1 m.2 m.3) in
    let next : length (a ++ (d ++ r)) ≡ length a + (length d + length r) = length-append a (d ++ r) ∙ ap (λ n. length a + n) (length-append d r) in
    let short : length plan.fresh ≤ ((length a + (length d + length r)) - plan.last) - (length a + f) =
    omega (arith, next, first, ap length least.fresh, range_short (a ++ (d ++ r)) plan.first (length (a ++ (d ++ r)) - plan.last)) in
    few_between (length a) (length b) (length d) (length r) f m.0 plan.last (length plan.fresh) long
    (as_lengths m.0 _ _ (length r) (length b) (length d) f one other m.4) short

pub fresh_few : (n : ℕ) (slots next : List Parts) (plan : Planned) → Changes n slots next → IsLeast slots next plan → length plan.fresh ≤ n
fresh_few n slots next plan h least =
    let moved : IsLeast (h.front ++ (h.gone ++ h.rest)) (h.front ++ (h.fresh ++ h.rest)) plan = rw (h.old, h.new) at least in
    omega (arith, h.few, fresh_of h.front h.gone h.fresh h.rest plan moved)
