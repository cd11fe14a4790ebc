-- How bytes are cut into blocks.
use Rattle.std.proofs.Common.{◌≡◌, ℕ, zero, suc, ◌<◌, ◌≤◌, List, [], ◌∷◌, ◌++◌, length, min, take, drop, length-drop, refl, ap, ◌∙◌, arith}
use Rattle.std.specs.Prelude.{flat_map}
use Rattle.host_program.specs.Lines.{hex_line}
use Rattle.host_program.specs.Printed.{blocks_of, blocks_text, first_blocks}

-- more blocks than bytes are none
same_blocks : (len n m : ℕ) (bytes : List ℕ) → 0 < len → length bytes ≤ n → length bytes ≤ m → first_blocks n len bytes ≡ first_blocks m len bytes
same_blocks len zero zero bytes some low high = refl
same_blocks len zero (suc m) [] some low high = refl
same_blocks len zero (suc m) (b ∷ bytes) some low high = absurd (omega arith)
same_blocks len (suc n) zero [] some low high = refl
same_blocks len (suc n) zero (b ∷ bytes) some low high = absurd (omega arith)
same_blocks len (suc n) (suc m) [] some low high = refl
same_blocks len (suc n) (suc m) (b ∷ bytes) some low high =
    let shorter : length (drop len (b ∷ bytes)) < length (b ∷ bytes) = omega (arith, length-drop len (b ∷ bytes), some) in
    ap (λ (blocks : List (List ℕ)). take len (b ∷ bytes) ∷ blocks) (same_blocks len n m (drop len (b ∷ bytes)) some (omega (arith, shorter, low)) (omega (arith, shorter, high)))

front : (len : ℕ) (bytes : List ℕ) → 0 < len → 0 < length bytes → blocks_of len bytes ≡ take len bytes ∷ blocks_of len (drop len bytes)
unfolding blocks_of
front len [] some more = absurd (omega arith)
front len (b ∷ bytes) some more =
    let shorter : length (drop len (b ∷ bytes)) < length (b ∷ bytes) = omega (arith, length-drop len (b ∷ bytes), some) in
    ap (λ (blocks : List (List ℕ)). take len (b ∷ bytes) ∷ blocks)
    (same_blocks len (length bytes) (length (drop len (b ∷ bytes))) (drop len (b ∷ bytes)) some (omega (arith, shorter)) (omega arith))

-- the line of the first block, and then those of what follows it
pub text_front : (len : ℕ) (bytes : List ℕ) → 0 < len → 0 < length bytes → blocks_text len bytes ≡ hex_line (take len bytes) ++ blocks_text len (drop len bytes)
text_front len bytes some more = ap (λ (blocks : List (List ℕ)). flat_map hex_line blocks) (front len bytes some more)

pub text_nil : (len : ℕ) (bytes : List ℕ) → length bytes ≡ 0 → blocks_text len bytes ≡ []
unfolding blocks_of
text_nil len [] none = refl
text_nil len (b ∷ bytes) none = absurd (omega arith)

take_min : (n : ℕ) (xs : List ℕ) → take (min n (length xs)) xs ≡ take n xs
take_min zero xs = let e : min zero (length xs) ≡ zero = omega arith in ap (λ (m : ℕ). take m xs) e
take_min (suc n) [] = let e : min (suc n) zero ≡ zero = omega arith in ap (λ (m : ℕ). take {A = ℕ} m []) e
take_min (suc n) (x ∷ xs) =
    let e : min (suc n) (suc (length xs)) ≡ suc (min n (length xs)) = omega arith in
    ap (λ (m : ℕ). take m (x ∷ xs)) e ∙ ap (λ (l : List ℕ). x ∷ l) (take_min n xs)

drop_min : (n : ℕ) (xs : List ℕ) → drop (min n (length xs)) xs ≡ drop n xs
drop_min zero xs = let e : min zero (length xs) ≡ zero = omega arith in ap (λ (m : ℕ). drop m xs) e
drop_min (suc n) [] = let e : min (suc n) zero ≡ zero = omega arith in ap (λ (m : ℕ). drop {A = ℕ} m []) e
drop_min (suc n) (x ∷ xs) =
    let e : min (suc n) (suc (length xs)) ≡ suc (min n (length xs)) = omega arith in
    ap (λ (m : ℕ). drop m (x ∷ xs)) e ∙ drop_min n xs

-- the line of the next block, and then those of what follows it
pub next_block : (len n : ℕ) (rest block after : List ℕ) → 0 < len → 0 < length rest → n ≡ min len (length rest) → block ≡ take n rest → after ≡ drop n rest
    → blocks_text len rest ≡ hex_line block ++ blocks_text len after
next_block len n rest block after some more is first next =
    let b : block ≡ take len rest = first ∙ ap (λ (m : ℕ). take m rest) is ∙ take_min len rest in
    let a : after ≡ drop len rest = next ∙ ap (λ (m : ℕ). drop m rest) is ∙ drop_min len rest in
    rw (b, a) (text_front len rest some more)
