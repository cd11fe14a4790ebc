-- How a table is filled, item by item.
use Rattle.std.proofs.Common.{◌≡◌, ◌≢◌, ℕ, ◌<◌, ◌==◌, Bool, true, false, List, [], ◌∷◌, ◌++◌, ◌+◌, ◌&&◌, cond, filter, find, get_or, length, replicate, set, take, Option, Some, None, refl, ap, sym, ◌∙◌, subst, arith, inl, inr}
use Rattle.std.proofs.lemmas.Bool.{cases_Bool, cases_lt}
use Rattle.std.proofs.lemmas.Bool.Decides.{nat_tests}
use Rattle.std.proofs.lemmas.List.Elements.{filter_more}
use Rattle.std.proofs.lemmas.List.{append-nil, get_or-replicate, get_or-set_other, get_or-set_same, get_or_default, get_or_past, length-replicate, length-set}
use Rattle.std.proofs.lemmas.List.Folds.{find-append}
use Rattle.std.specs.Borrow.{Bor}
use Rattle.std.specs.Option.{option_copied, option_or}
use Rattle.std.specs.Prelude.{is_none, if◌then◌else◌}
use Rattle.config_lists.specs.Tables.{IsEmptyTable, IsTable, with_first}

-- ---- what a host sees, item by item

-- the next item passes
pub seen_more : {X : Type 0} (p : X → Bool) (xs : List X) (i : ℕ) (x : X) → i < length xs → x ≡ get_or xs i x → p x ≡ true → filter p (take (i + 1) xs) ≡ filter p (take i xs) ++ x ∷ []
seen_more p xs i x below read passes =
    filter_more p xs i x below ∙ ap (λ y. filter p (take i xs) ++ cond (p y) (y ∷ []) []) (sym read) ∙ ap (λ b. filter p (take i xs) ++ cond b (x ∷ []) []) passes

-- it fails
pub seen_past : {X : Type 0} (p : X → Bool) (xs : List X) (i : ℕ) (x : X) → i < length xs → x ≡ get_or xs i x → p x ≡ false → filter p (take (i + 1) xs) ≡ filter p (take i xs)
seen_past p xs i x below read fails =
    filter_more p xs i x below ∙ ap (λ y. filter p (take i xs) ++ cond (p y) (y ∷ []) []) (sym read) ∙ ap (λ b. filter p (take i xs) ++ cond b (x ∷ []) []) fails
    ∙ append-nil (filter p (take i xs))

-- what is seen and not of both is not the subsystem's own
pub unowned : (own seen : Bool) → (own && seen) ≡ false → seen ≡ true → own ≡ false
unowned true seen fails there = sym there ∙ fails
unowned false seen fails there = refl

-- ---- the table

or_none : {X : Type 0} (o : Option X) → option_or o None ≡ o
or_none None = refl
or_none (Some y) = refl

-- a place of either of two tables
place_of : {V : Type 0} (b : Bool) (t u : List (Option V)) (k : ℕ) → get_or (if b then t else u) k None ≡ (if b then get_or t k None else get_or u k None)
place_of true t u k = refl
place_of false t u k = refl

length_of_either : {V : Type 0} (b : Bool) (t u : List (Option V)) → length t ≡ length u → length (if b then t else u) ≡ length u
length_of_either true t u same = same
length_of_either false t u same = refl

pub length_of_put : {X : Type 0} (table : List (Option (Bor X))) (at : ℕ) (x : Bor X) → length (with_first table at x) ≡ length table
length_of_put table at x =
    length_of_either (is_none (get_or table at (Some x))) (set table at (Some x)) table (length-set table at (Some x))

pub put_here : {X : Type 0} (table : List (Option (Bor X))) (k : ℕ) (x : Bor X) → k < length table
    → get_or (with_first table k x) k None ≡ (if is_none (get_or table k None) then Some x else get_or table k None)
put_here table k x within =
    place_of (is_none (get_or table k (Some x))) (set table k (Some x)) table k
    ∙ ap (λ p. if is_none (get_or table k (Some x)) then p else get_or table k None) (get_or-set_same table k (Some x) None within)
    ∙ ap (λ p. if is_none p then Some x else get_or table k None) (get_or_default table k (Some x) None within)

pub put_there : {X : Type 0} (table : List (Option (Bor X))) (at k : ℕ) (x : Bor X) → k ≢ at → get_or (with_first table at x) k None ≡ get_or table k None
put_there table at k x apart =
    place_of (is_none (get_or table at (Some x))) (set table at (Some x)) table k
    ∙ ap (λ p. if is_none (get_or table at (Some x)) then p else get_or table k None) (get_or-set_other table at k (Some x) None apart)
    ∙ either_same (is_none (get_or table at (Some x))) (get_or table k None) where
      either_same : {P : Type 0} (b : Bool) (p : P) → (if b then p else p) ≡ p
      either_same true p = refl
      either_same false p = refl

module _ {X : Type 0} (test : ℕ → X → Bool) where
  pub table_first : (table : List (Option (Bor X))) → IsEmptyTable table → IsTable test [] table
  table_first table empty = λ k below. empty k

  -- an item that is for no place
  pub table_passed : (xs : List X) (x : X) (table : List (Option (Bor X))) → ((k : ℕ) → test k x ≡ false) → IsTable test xs table → IsTable test (xs ++ x ∷ []) table
  table_passed xs x table none is = λ k below.
      is k below ∙ sym (find-append (test k) xs (x ∷ []) ∙ rw (none k) (or_none (find (test k) xs)))

  here_first : (o : Option X) (x : Bor X) (p : Option (Bor X)) → option_copied p ≡ o → option_copied (if is_none p then Some x else p) ≡ option_or o (Some x.now)
  here_first o x None is = rw (sym is) refl
  here_first o x (Some y) is = rw (sym is) refl

  -- one that is for one place
  pub table_put : (xs : List X) (x : Bor X) (table : List (Option (Bor X))) (at : ℕ) → ((k : ℕ) → test k x.now ≡ (at == k)) → IsTable test xs table
      → IsTable test (xs ++ x.now ∷ []) (with_first table at x)
  table_put xs x table at its is = λ k below.
      let within : k < length table = omega (arith, length_of_put table at x) in
      let found = find-append (test k) xs (x.now ∷ []) in
      elim (cases_Bool (at == k)) [
        | inl same ↦
            let here : at ≡ k = grind (arith, nat_tests, same) in
            let passes : test k x.now ≡ true = its k ∙ same in
            let all : find (test k) (xs ++ x.now ∷ []) ≡ option_or (find (test k) xs) (Some x.now) = found ∙ ap (λ b. option_or (find (test k) xs) (if b then Some x.now else None)) passes in
            subst (λ (a : ℕ). option_copied (get_or (with_first table a x) k None) ≡ find (test k) (xs ++ x.now ∷ [])) (sym here)
            (ap option_copied (put_here table k x within) ∙ here_first (find (test k) xs) x (get_or table k None) (is k within) ∙ sym all)
        | inr other ↦
            let apart : k ≢ at = λ same. grind (arith, nat_tests, other, same) in
            let fails : test k x.now ≡ false = its k ∙ other in
            let all : find (test k) (xs ++ x.now ∷ []) ≡ find (test k) xs = found ∙ ap (λ b. option_or (find (test k) xs) (if b then Some x.now else None)) fails ∙ or_none (find (test k) xs) in
            ap option_copied (put_there table at k x apart) ∙ is k within ∙ sym all
      ]

-- a table of nothing
pub none_at_first : {X : Type 0} (n : ℕ) → IsEmptyTable {X = X} (replicate n None)
none_at_first {X = X} n k = elim (cases_lt k n) [
  | inl within ↦ ap option_copied (get_or-replicate {A = Option (Bor X)} n k None None within)
  | inr past ↦ ap option_copied (get_or_past {X = Option (Bor X)} (replicate n None) k None (omega (arith, length-replicate {A = Option (Bor X)} n None)))
]
