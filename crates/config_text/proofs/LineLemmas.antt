-- The lines of a file, one after the other.
use Rattle.std.proofs.Common.{◌≡◌, ℕ, ◌+◌, ◌≤◌, ◌<◌, ◌==◌, Bool, true, false, cond, not, Some, None, position, nat_lt, List, [], ◌∷◌, length, suc, take, drop, refl, sym, ap, ◌∙◌, arith}
use Rattle.std.specs.List.{position_or_len, onto_first, before_first, after_first}
use Rattle.std.proofs.lemmas.Grind.{common_steps}
use Rattle.std.proofs.lemmas.List.Sums.{prefix_len-le-length}
use Rattle.config_text.specs.Lines.{lines_of}

abbrev is_line_end : ℕ → Bool
is_line_end b = b == 10

by_head_nil : (v : Bool) (b : ℕ) → cond v ([] ∷ []) (onto_first b []) ≡ take (cond (not v) (1 + 0) 0) (b ∷ []) ∷ lines_of (drop (cond (not v) (1 + 0) 0 + 1) (b ∷ []))
by_head_nil true b = refl
by_head_nil false b = refl

by_head_cons : (v : Bool) (b c : ℕ) (cs : List ℕ) (n : ℕ) → lines_of (c ∷ cs) ≡ take n (c ∷ cs) ∷ lines_of (drop (n + 1) (c ∷ cs))
    → cond v ([] ∷ lines_of (c ∷ cs)) (onto_first b (lines_of (c ∷ cs))) ≡ take (cond (not v) (1 + n) 0) (b ∷ c ∷ cs) ∷ lines_of (drop (cond (not v) (1 + n) 0 + 1) (b ∷ c ∷ cs))
by_head_cons true b c cs n h = refl
by_head_cons false b c cs n h =
    let one : 1 + n ≡ suc n = omega arith in
    let two : suc n + 1 ≡ suc (n + 1) = omega arith in
    rw (one, two) (ap (onto_first b) h)

-- the first line ends at the first LF, or is all
pub lines_first : (b : ℕ) (bs : List ℕ) → lines_of (b ∷ bs) ≡ before_first is_line_end (b ∷ bs) ∷ lines_of (after_first is_line_end (b ∷ bs))
lines_first b [] = by_head_nil (b == 10) b
lines_first b (c ∷ cs) = by_head_cons (b == 10) b c cs (position_or_len is_line_end (c ∷ cs)) (lines_first c cs)

pub lines_split : (bs : List ℕ) → 0 < length bs → lines_of bs ≡ before_first is_line_end bs ∷ lines_of (after_first is_line_end bs)
lines_split [] h = absurd (omega arith)
lines_split (b ∷ bs) h = lines_first b bs

length-onto_first : (b : ℕ) (lines : List (List ℕ)) → length (onto_first b lines) ≤ length lines + 1
length-onto_first b [] = omega arith
length-onto_first b (line ∷ lines) = omega arith

length-cond : (v : Bool) (b n : ℕ) (lines : List (List ℕ)) → length lines ≤ n → length (cond v ([] ∷ lines) (onto_first b lines)) ≤ n + 1
length-cond true b n lines h = omega arith
length-cond false b n lines h = omega (arith, length-onto_first b lines)

-- no more lines than bytes
pub length-lines_of : (bs : List ℕ) → length (lines_of bs) ≤ length bs
length-lines_of [] = omega arith
length-lines_of (b ∷ bs) = omega (arith, length-cond (b == 10) b (length bs) (lines_of bs) (length-lines_of bs))

by_test : (p : ℕ → Bool) (xs : List ℕ) (v : Bool) → nat_lt (position_or_len p xs) (length xs) ≡ v → cond v (Some (position_or_len p xs)) None ≡ None → position_or_len p xs ≡ length xs
by_test p xs true e h = cc
by_test p xs false e h = grind (arith, common_steps, prefix_len-le-length (λ x. not (p x)) xs)

-- where the place is none, the length
pub position_or_len-none : (p : ℕ → Bool) (xs : List ℕ) → position p xs ≡ None → position_or_len p xs ≡ length xs
position_or_len-none p xs h = by_test p xs (nat_lt (position_or_len p xs) (length xs)) refl h

-- the same at the place that was found
pub lines_at : (bs : List ℕ) (n : ℕ) → 0 < length bs → n ≡ position_or_len is_line_end bs → lines_of bs ≡ take n bs ∷ lines_of (drop (n + 1) bs)
lines_at bs n h e = lines_split bs h ∙ ap (λ k. take k bs ∷ lines_of (drop (k + 1) bs)) (sym e)
