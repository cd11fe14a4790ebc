-- A list that differs from another in one stretch alone.
use Rattle.std.proofs.Common.{◌≡◌, ℕ, ◌≤◌, List, [], ◌++◌, length, map, refl, sym, ap, ◌∙◌, arith}
use Rattle.std.proofs.Common.{append_assoc}
use Rattle.std.proofs.lemmas.List.{length-map, map-append}

-- in place of some elements stand others, and at most so many
pub record Changes {T : Type 0} (n : ℕ) (xs ys : List T) : Type 0 where
  pub front : List T
  pub gone : List T
  pub fresh : List T
  pub rest : List T
  pub old : xs ≡ front ++ (gone ++ rest)
  pub new : ys ≡ front ++ (fresh ++ rest)
  pub few : length fresh ≤ n

module _ {T : Type 0} where
  pub unchanged : (n : ℕ) (xs ys : List T) → ys ≡ xs → Changes n xs ys
  unchanged n xs ys same = record { front = []; gone = []; fresh = []; rest = xs; old = refl; new = same; few = omega arith }

  pub changed : (n : ℕ) (front gone fresh rest : List T) → length fresh ≤ n → Changes n (front ++ (gone ++ rest)) (front ++ (fresh ++ rest))
  changed n front gone fresh rest few = record { front = front; gone = gone; fresh = fresh; rest = rest; old = refl; new = refl; few = few }

  pub changes_where : (n : ℕ) (xs ys us vs : List T) → us ≡ xs → vs ≡ ys → Changes n xs ys → Changes n us vs
  changes_where n xs ys us vs old new h = rw (old, new) h

  -- the same behind others, and ahead of others
  pub behind : (n : ℕ) (before xs ys : List T) → Changes n xs ys → Changes n (before ++ xs) (before ++ ys)
  behind n before xs ys h = record {
    front = before ++ h.front;
    gone = h.gone;
    fresh = h.fresh;
    rest = h.rest;
    old = ap (λ zs. before ++ zs) h.old ∙ sym (append_assoc before h.front (h.gone ++ h.rest));
    new = ap (λ zs. before ++ zs) h.new ∙ sym (append_assoc before h.front (h.fresh ++ h.rest));
    few = h.few;
  }

  three : (a b c d : List T) → (a ++ (b ++ c)) ++ d ≡ a ++ (b ++ (c ++ d))
  three a b c d = append_assoc a (b ++ c) d ∙ ap (λ zs. a ++ zs) (append_assoc b c d)

  pub ahead : (n : ℕ) (xs ys after : List T) → Changes n xs ys → Changes n (xs ++ after) (ys ++ after)
  ahead n xs ys after h = record {
    front = h.front;
    gone = h.gone;
    fresh = h.fresh;
    rest = h.rest ++ after;
    old = ap (λ zs. zs ++ after) h.old ∙ three h.front h.gone h.rest after;
    new = ap (λ zs. zs ++ after) h.new ∙ three h.front h.fresh h.rest after;
    few = h.few;
  }

module _ {S T : Type 0} where
  parts_mapped : (f : S → T) (a b c : List S) → map f (a ++ (b ++ c)) ≡ map f a ++ (map f b ++ map f c)
  parts_mapped f a b c = map-append f a (b ++ c) ∙ ap (λ zs. map f a ++ zs) (map-append f b c)

  pub mapped : (n : ℕ) (f : S → T) (xs ys : List S) → Changes n xs ys → Changes n (map f xs) (map f ys)
  mapped n f xs ys h = record {
    front = map f h.front;
    gone = map f h.gone;
    fresh = map f h.fresh;
    rest = map f h.rest;
    old = ap (map f) h.old ∙ parts_mapped f h.front h.gone h.rest;
    new = ap (map f) h.new ∙ parts_mapped f h.front h.fresh h.rest;
    few = omega (arith, h.few, length-map h.fresh f);
  }
