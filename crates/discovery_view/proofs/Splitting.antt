-- A list at the one element that passes a test, and the same in order.
use Rattle.std.proofs.Common.{◌≡◌, suc, ◌≤◌, Bool, true, false, not, List, [], ◌∷◌, ◌++◌, All, AllPairs, length, filter, map, refl, ap, ◌∙◌, inl, inr, arith}
use Rattle.std.specs.Prelude.{◌||◌, if◌then◌else◌}
use Rattle.std.specs.List.{AllByRecursion, list_any}
use Rattle.std.proofs.lemmas.Bool.{cases_Bool}
use Rattle.std.proofs.lemmas.List.{map-append}
use Rattle.std.proofs.lemmas.List.Elements.{All-head, All-tail, filter-append}
use Rattle.config_lists.specs.Lists.{changed_where, without}
use Rattle.discovery_view.specs.Order.{in_order, put_in_order}
use Rattle.discovery_view.proofs.Ordering.{Apart, Chains, between, every_in_order, put_last}

module _ {T : Type 0} where
  pub in_turn : (P : T → Type 0) (xs : List T) → All P xs → AllByRecursion P xs
  in_turn P [] all = tt
  in_turn P (x ∷ xs) all = (All-head P x xs all, in_turn P xs (All-tail P x xs all))

  pub every_more : (P Q : T → Type 0) → ((x : T) → P x → Q x) → (xs : List T) → AllByRecursion P xs → AllByRecursion Q xs
  every_more P Q more [] all = tt
  every_more P Q more (x ∷ xs) all = (more x all.0, every_more P Q more xs all.1)

  pub every_joined : (P : T → Type 0) (xs ys : List T) → AllByRecursion P xs → AllByRecursion P ys → AllByRecursion P (xs ++ ys)
  every_joined P [] ys one other = other
  every_joined P (x ∷ xs) ys one other = (one.0, every_joined P xs ys one.1 other)

  pub every_first : (P : T → Type 0) (xs ys : List T) → AllByRecursion P (xs ++ ys) → AllByRecursion P xs
  every_first P [] ys all = tt
  every_first P (x ∷ xs) ys all = (all.0, every_first P xs ys all.1)

  pub every_last : (P : T → Type 0) (xs ys : List T) → AllByRecursion P (xs ++ ys) → AllByRecursion P ys
  every_last P [] ys all = all
  every_last P (x ∷ xs) ys all = every_last P xs ys all.1

  -- no element passes
  abbrev pub Fail : (T → Bool) → List T → Type 0
  Fail test xs = AllByRecursion (λ x. test x ≡ false) xs

  pub none_passes : (test : T → Bool) (xs : List T) → list_any test xs ≡ false → Fail test xs
  none_passes test [] none = tt
  none_passes test (x ∷ xs) none = (first (test x) (list_any test xs) none, none_passes test xs (second (test x) (list_any test xs) none))
    where
      first : (a b : Bool) → (a || b) ≡ false → a ≡ false
      first true b h = h
      first false b h = refl

      second : (a b : Bool) → (a || b) ≡ false → b ≡ false
      second true b h = absurd (cc)
      second false b h = h

  -- one element passes, and no other
  pub record Split (test : T → Bool) (xs : List T) : Type 0 where
    pub before : List T
    pub it : T
    pub after : List T
    pub all : xs ≡ before ++ it ∷ after
    pub passes : test it ≡ true
    pub none_before : Fail test before
    pub none_after : Fail test after

  -- of two elements not both pass
  abbrev pub NotBoth : (T → Bool) → T → T → Type 0
  NotBoth test x y = test x ≡ true → test y ≡ false

  abbrev Pairs : (T → Bool) → List T → Type 0
  Pairs test xs = AllPairs (NotBoth test) xs

  first_pairs : (test : T → Bool) (x : T) (xs : List T) → Pairs test (x ∷ xs) → All (NotBoth test x) xs
  first_pairs test x xs pairs = λ k d below. pairs 0 (suc k) d (omega arith) (omega (arith, below))

  later_pairs : (test : T → Bool) (x : T) (xs : List T) → Pairs test (x ∷ xs) → Pairs test xs
  later_pairs test x xs pairs = λ i j d less below. pairs (suc i) (suc j) d (omega (arith, less)) (omega (arith, below))

  pub split : (test : T → Bool) (xs : List T) → list_any test xs ≡ true → AllPairs (NotBoth test) xs → Split test xs
  split test [] some pairs = absurd (cc)
  split test (x ∷ xs) some pairs =
      elim (cases_Bool (test x)) [
        | inl passes ↦ record {
          before = [];
          it = x;
          after = xs;
          all = refl;
          passes = passes;
          none_before = tt;
          none_after = every_more (NotBoth test x) (λ y. test y ≡ false) (λ y fails. fails passes) xs (in_turn (NotBoth test x) xs (first_pairs test x xs pairs));
        }
        | inr fails ↦
            let rest : list_any test xs ≡ true = rw fails at some in
            let s = split test xs rest (later_pairs test x xs pairs) in
            record {
              before = x ∷ s.before;
              it = s.it;
              after = s.after;
              all = ap (λ ys. x ∷ ys) s.all;
              passes = s.passes;
              none_before = (fails, s.none_before);
              none_after = s.none_after;
            }
      ]

  -- at most one passes
  pub at_most_one : (test : T → Bool) (xs : List T) → AllPairs (NotBoth test) xs → length (filter test xs) ≤ 1
  at_most_one test [] pairs = omega arith
  at_most_one test (x ∷ xs) pairs =
      elim (cases_Bool (test x)) [
        | inl passes ↦
            let none : filter test xs ≡ [] = nothing_left xs (every_more (NotBoth test x) (λ y. test y ≡ false) (λ y fails. fails passes) xs (in_turn (NotBoth test x) xs (first_pairs test x xs pairs))) in
            rw (passes, none) (omega arith)
        | inr fails ↦ rw fails (at_most_one test xs (later_pairs test x xs pairs))
      ]
    where
      nothing_left : (ys : List T) → Fail test ys → filter test ys ≡ []
      nothing_left [] all = refl
      nothing_left (y ∷ ys) all = rw all.0 (nothing_left ys all.1)

  -- ---- what is taken away, or changed

  kept_all : (test : T → Bool) (xs : List T) → Fail test xs → filter (λ x. not (test x)) xs ≡ xs
  kept_all test [] all = refl
  kept_all test (x ∷ xs) all = rw all.0 (ap (λ ys. x ∷ ys) (kept_all test xs all.1))

  pub without_it : (test : T → Bool) (xs : List T) (s : Split test xs) → without test xs ≡ s.before ++ s.after
  without_it test xs s =
      ap (without test) s.all ∙ filter-append (λ x. not (test x)) s.before (s.it ∷ s.after)
      ∙ rw (kept_all test s.before s.none_before, s.passes, kept_all test s.after s.none_after) refl

  change_none : (test : T → Bool) (change : T → T) (xs : List T) → Fail test xs → map (λ x. if test x then change x else x) xs ≡ xs
  change_none test change [] all = refl
  change_none test change (x ∷ xs) all = rw all.0 (ap (λ ys. x ∷ ys) (change_none test change xs all.1))

  pub with_it_changed : (test : T → Bool) (change : T → T) (xs : List T) (s : Split test xs) → changed_where test change xs ≡ s.before ++ change s.it ∷ s.after
  with_it_changed test change xs s =
      ap (changed_where test change) s.all ∙ map-append (λ x. if test x then change x else x) s.before (s.it ∷ s.after)
      ∙ rw (change_none test change s.before s.none_before, s.passes, change_none test change s.after s.none_after) refl

  -- ---- in order

  -- these elements in order, one more among them, and another in its place
  pub record Ordered (below : T → T → Bool) (test : T → Bool) (us : List T) (x y : T) (vs : List T) : Type 0 where
    pub front : List T
    pub rest : List T
    pub neither : in_order below (us ++ vs) ≡ front ++ rest
    pub one : in_order below (us ++ x ∷ vs) ≡ front ++ x ∷ rest
    pub other : in_order below (us ++ y ∷ vs) ≡ front ++ y ∷ rest
    pub none_before : Fail test front
    pub none_after : Fail test rest

  pub ordered : (below : T → T → Bool) → Chains below → (test : T → Bool) (us : List T) (x y : T) (vs : List T) → Fail test us → Fail test vs
      → ((u : T) → test u ≡ false → Apart below u x) → ((u : T) → test u ≡ false → Apart below u y) → ((z : T) → below x z ≡ below y z)
      → Ordered below test us x y vs
  ordered below chain test us x y vs before after one other alike =
      let b = between below x y alike (in_order below (us ++ vs)) in
      let all = every_in_order below (λ u. test u ≡ false) (us ++ vs) (every_joined (λ u. test u ≡ false) us vs before after) in
      let parts : Fail test (b.front ++ b.rest) = rw b.all at all in
      record {
        front = b.front;
        rest = b.rest;
        neither = b.all;
        one = put_last below chain us x vs (every_more (λ u. test u ≡ false) (λ u. Apart below u x) one us before) ∙ b.one;
        other = put_last below chain us y vs (every_more (λ u. test u ≡ false) (λ u. Apart below u y) other us before) ∙ b.other;
        none_before = every_first (λ u. test u ≡ false) b.front b.rest parts;
        none_after = every_last (λ u. test u ≡ false) b.front b.rest parts;
      }

  -- as many pass in order as before
  turned : (test : T → Bool) (x y : T) (zs ys : List T) (a b : Bool) → test x ≡ a → test y ≡ b → length (filter test zs) ≡ length (filter test (x ∷ ys))
      → length (filter test (y ∷ zs)) ≡ length (filter test (x ∷ y ∷ ys))
  turned test x y zs ys true true p q same = rw (q, p) (ap suc (same ∙ rw p refl))
  turned test x y zs ys true false p q same = rw (q, p) (same ∙ rw p refl)
  turned test x y zs ys false true p q same = rw (q, p) (ap suc (same ∙ rw p refl))
  turned test x y zs ys false false p q same = rw (q, p) (same ∙ rw p refl)

  length_put : (below : T → T → Bool) (test : T → Bool) (x : T) (ys : List T) → length (filter test (put_in_order below x ys)) ≡ length (filter test (x ∷ ys))
  length_put below test x [] = refl
  length_put below test x (y ∷ ys) =
      elim (cases_Bool (below x y)) [
        | inl before ↦ rw before refl
        | inr after ↦ rw after (turned test x y (put_in_order below x ys) ys _ _ refl refl (length_put below test x ys))
      ]

  one_more : (test : T → Bool) (x : T) (zs xs : List T) (b : Bool) → test x ≡ b → length (filter test zs) ≡ length (filter test xs)
      → length (filter test (x ∷ zs)) ≡ length (filter test (x ∷ xs))
  one_more test x zs xs true is same = rw is (ap suc same)
  one_more test x zs xs false is same = rw is same

  pub length_ordered : (below : T → T → Bool) (test : T → Bool) (xs : List T) → length (filter test (in_order below xs)) ≡ length (filter test xs)
  length_ordered below test [] = refl
  length_ordered below test (x ∷ xs) =
      length_put below test x (in_order below xs) ∙ one_more test x (in_order below xs) xs _ refl (length_ordered below test xs)
