-- A line cut at its first space.
use Rattle.std.proofs.Common.{◌≡◌, ℕ, ◌+◌, ◌≤◌, ◌<◌, ◌==◌, Bool, true, false, List, ◌∷◌, ◌++◌, length, length-append, get_or, take, drop, sym, ap, ◌∙◌, arith}
use Rattle.std.specs.List.{position_or_len, before_first, after_first}
use Rattle.std.proofs.lemmas.Bool.{eqb-true}
use Rattle.std.proofs.lemmas.List.{drop-drop, get_or_append_left}
use Rattle.std.proofs.lemmas.List.Sums.{fails_before_first, passes_at_first, position_or_len_is, split_at_first}
use Rattle.std.proofs.Math.Seq.{drop-append_seam, get_or-append_seam, take-append_seam}

abbrev is_space : ℕ → Bool
is_space b = b == 32

-- the first space
pub split_there : (text : List ℕ) (n : ℕ) → n ≡ position_or_len is_space text → n < length text → text ≡ take n text ++ 32 ∷ drop (n + 1) text
split_there text n e lt =
    let below : position_or_len is_space text < length text = omega arith in
    let space : get_or text (position_or_len is_space text) 0 ≡ 32 = eqb-true _ _ (passes_at_first is_space text 0 below) in
    split_at_first is_space text 0 below ∙ ap (λ b. before_first is_space text ++ b ∷ after_first is_space text) space
    ∙ ap (λ k. take k text ++ 32 ∷ drop (k + 1) text) (sym e)

-- a word without spaces before a space
pub split_is : (word rest : List ℕ) → ((k : ℕ) → k < length word → is_space (get_or word k 0) ≡ false) → position_or_len is_space (word ++ 32 ∷ rest) ≡ length word
split_is word rest none =
    position_or_len_is is_space (word ++ 32 ∷ rest) (length word) 0
    (omega (arith, length-append word (32 ∷ rest)))
    (λ k lt. ap is_space (get_or_append_left word (32 ∷ rest) 0 k lt) ∙ none k lt)
    (λ lt. ap is_space (get_or-append_seam word 32 rest 0))

pub no_space_in : (text word rest : List ℕ) → length text ≤ position_or_len is_space text → text ≡ word ++ 32 ∷ rest → ⊥
no_space_in text word rest none e =
    let len : length text ≡ length (word ++ 32 ∷ rest) = ap length e in
    let lt : length word < position_or_len is_space text = omega (arith, length-append word (32 ∷ rest)) in
    let fails : is_space (get_or text (length word) 0) ≡ false = fails_before_first is_space text (length word) 0 lt in
    let there : get_or text (length word) 0 ≡ 32 = ap (λ t. get_or t (length word) 0) e ∙ get_or-append_seam word 32 rest 0 in
    let passes : is_space (get_or text (length word) 0) ≡ true = ap is_space there in
    cc

-- two splits at the first space are one
pub one_split : (text a x b y : List ℕ) → text ≡ a ++ 32 ∷ x → length a ≡ position_or_len is_space text → text ≡ b ++ 32 ∷ y → ((k : ℕ) → k < length b → is_space (get_or b k 0) ≡ false) → (a ≡ b) × (x ≡ y)
one_split text a x b y e place f none =
    let len : length a ≡ length b = place ∙ ap (position_or_len is_space) f ∙ split_is b y none in
    let joined : a ++ 32 ∷ x ≡ b ++ 32 ∷ y = sym e ∙ f in (
      sym (take-append_seam a (32 ∷ x)) ∙ ap (take (length a)) joined ∙ ap (λ n. take n (b ++ 32 ∷ y)) len ∙ take-append_seam b (32 ∷ y),
      sym (drop_after a x) ∙ ap (drop (length a + 1)) joined ∙ ap (λ n. drop (n + 1) (b ++ 32 ∷ y)) len ∙ drop_after b y,
    )
  where
    drop_after : (w t : List ℕ) → drop (length w + 1) (w ++ 32 ∷ t) ≡ t
    drop_after w t = sym (drop-drop 1 (length w) (w ++ 32 ∷ t)) ∙ ap (drop 1) (drop-append_seam w (32 ∷ t))
