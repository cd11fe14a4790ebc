-- The numbers and the descriptors in the data of a log page.
use Rattle.std.proofs.Common.{◌≡◌, ℕ, zero, suc, ◌+◌, ◌*◌, ◌-◌, ◌/◌, ◌<◌, ◌≤◌, ◌==◌, true, false, List, [], ◌∷◌, length, take, drop, refl, ap, arith}
use Rattle.std.proofs.lemmas.Bool.Decides.{nat_tests}
use Rattle.std.specs.List.{position_or_len}
use Rattle.nvt_fields.specs.Field.{field_at}
use Rattle.pdu_words.specs.Pages.{is_zero, dwords, group_len, groups_in, shows_group}

four_more : (n : ℕ) → 4 * suc n ≡ suc (suc (suc (suc (4 * n))))
four_more n = omega arith

pub dwords_take : (n : ℕ) (bytes : List ℕ) → dwords (take (4 * n) bytes) ≡ take n (dwords bytes)
unfolding field_at dwords
dwords_take zero bytes = refl
dwords_take (suc n) [] = rw (four_more n) refl
dwords_take (suc n) (a ∷ []) = rw (four_more n) refl
dwords_take (suc n) (a ∷ b ∷ []) = rw (four_more n) refl
dwords_take (suc n) (a ∷ b ∷ c ∷ []) = rw (four_more n) refl
dwords_take (suc n) (a ∷ b ∷ c ∷ d ∷ rest) =
    rw (four_more n) (ap (λ xs. field_at 4 0 (a ∷ b ∷ c ∷ d ∷ rest) ∷ xs) (dwords_take n rest))

pub dwords_take_eight : (bytes : List ℕ) → dwords (take 32 bytes) ≡ take 8 (dwords bytes)
dwords_take_eight bytes = dwords_take 8 bytes

pub dwords_length : (bytes : List ℕ) → length (dwords bytes) ≡ length bytes / 4
unfolding dwords
dwords_length [] = refl
dwords_length (a ∷ []) = refl
dwords_length (a ∷ b ∷ []) = refl
dwords_length (a ∷ b ∷ c ∷ []) = refl
dwords_length (a ∷ b ∷ c ∷ d ∷ rest) = let less = dwords_length rest in omega (arith, less)

pub dwords_more : (bytes : List ℕ) → 4 ≤ length bytes → dwords bytes ≡ field_at 4 0 bytes ∷ dwords (drop 4 bytes)
unfolding dwords
dwords_more [] h = absurd (omega (arith, h))
dwords_more (a ∷ []) h = absurd (omega (arith, h))
dwords_more (a ∷ b ∷ []) h = absurd (omega (arith, h))
dwords_more (a ∷ b ∷ c ∷ []) h = absurd (omega (arith, h))
dwords_more (a ∷ b ∷ c ∷ d ∷ rest) h = refl

pub dwords_none : (bytes : List ℕ) → length bytes < 4 → dwords bytes ≡ []
unfolding dwords
dwords_none [] h = refl
dwords_none (a ∷ []) h = refl
dwords_none (a ∷ b ∷ []) h = refl
dwords_none (a ∷ b ∷ c ∷ []) h = refl
dwords_none (a ∷ b ∷ c ∷ d ∷ rest) h = absurd (omega (arith, h))

pub not_zero : (n : ℕ) → (n ≡ 0 → ⊥) → (n == 0) ≡ false
not_zero zero h = absurd (h refl)
not_zero (suc n) h = grind (arith, nat_tests)

-- one more number that is not 0, and one that is
pub zero_later : (bytes : List ℕ) → 4 ≤ length bytes → (field_at 4 0 bytes == 0) ≡ false
    → position_or_len is_zero (dwords bytes) ≡ 1 + position_or_len is_zero (dwords (drop 4 bytes))
zero_later bytes long apart = rw (dwords_more bytes long, apart) refl

pub zero_here : (bytes : List ℕ) → 4 ≤ length bytes → (field_at 4 0 bytes == 0) ≡ true
    → position_or_len is_zero (dwords bytes) ≡ 0
zero_here bytes long is = rw (dwords_more bytes long, is) refl

pub zero_nowhere : (bytes : List ℕ) → length bytes < 4 → position_or_len is_zero (dwords bytes) ≡ 0
zero_nowhere bytes short = rw (dwords_none bytes short) refl

groups_in_more : (n : ℕ) (bytes : List ℕ) → 0 < n → shows_group bytes ≡ true
    → groups_in n bytes ≡ take (group_len bytes) bytes ∷ groups_in (n - 1) (drop (group_len bytes) bytes)
unfolding groups_in
groups_in_more zero bytes some shows = absurd (omega (arith, some))
groups_in_more (suc n) bytes some shows = let same : suc n - 1 ≡ n = omega arith in rw (shows, same) refl

-- the descriptor in front, and those behind it
pub groups_in_split : (n : ℕ) (bytes front back : List ℕ) (len : ℕ) → 0 < n → shows_group bytes ≡ true
    → len ≡ group_len bytes → front ≡ take len bytes → back ≡ drop len bytes
    → groups_in n bytes ≡ front ∷ groups_in (n - 1) back
groups_in_split n bytes front back len some shows l f b = cc (groups_in_more n bytes some shows, l, f, b)

pub groups_in_none : (n : ℕ) (bytes : List ℕ) → shows_group bytes ≡ false → groups_in n bytes ≡ []
unfolding groups_in
groups_in_none zero bytes shows = refl
groups_in_none (suc n) bytes shows = rw shows refl

pub groups_in_zero : (n : ℕ) (bytes : List ℕ) → n ≤ 0 → groups_in n bytes ≡ []
unfolding groups_in
groups_in_zero zero bytes none = refl
groups_in_zero (suc n) bytes none = absurd (omega (arith, none))
