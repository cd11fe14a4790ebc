-- How the pieces of so many bytes begin and go on, and that they join to the whole.
use Rattle.std.proofs.Common.{◌≡◌, ◌⊎◌, ℕ, zero, suc, ◌+◌, ◌-◌, ◌<◌, ◌≤◌, ◌==◌, min, Bool, true, false, [], ◌∷◌, map, refl, sym, ap, ◌∙◌, inl, inr, arith}
use Rattle.std.specs.List.{range_with_len}
use Rattle.std.proofs.lemmas.Bool.{cases_lt}
use Rattle.std.proofs.lemmas.Bool.Decides.{nat_tests}
use Rattle.data_transfer.specs.declared.piece.Piece.{Piece}
use Rattle.data_transfer.specs.Pieces.{piece_at, piece_count, pieces_from}

-- a piece by its parts
piece : ℕ → ℕ → Bool → Piece
piece offset len last = record { offset = offset; len = len; last = last }

same_piece : (a b m n : ℕ) (x y : Bool) → a ≡ b → m ≡ n → x ≡ y → piece a m x ≡ piece b n y
same_piece a b m n x y offset len last = ap (λ o. piece o m x) offset ∙ ap (λ l. piece b l x) len ∙ ap (piece b n) last

-- past one full piece there is one piece fewer
count-less : (left : ℕ) → 32768 < left → piece_count left ≡ piece_count (left - 32768) + 1
count-less left more = omega arith

count-one : (left : ℕ) → 0 < left → left ≤ 32768 → piece_count left ≡ 1
count-one left some few = omega arith

count-none : piece_count 0 ≡ 0
count-none = refl

succ_same : (a b c : ℕ) → b ≡ c + 1 → (a + 1 == b) ≡ (a == c)
succ_same a b c more = grind (arith, nat_tests)

-- a piece past the first is one of what is left
piece_at-next : (offset left n : ℕ) → 32768 < left → piece_at offset left (n + 1) ≡ piece_at (offset + 32768) (left - 32768) n
unfolding piece
piece_at-next offset left n more =
    same_piece _ _ _ _ _ _ (omega arith) (omega arith) (succ_same (n + 1) (piece_count left) (piece_count (left - 32768)) (count-less left more))

map-next : (offset left a m : ℕ) → 32768 < left → map (piece_at offset left) (range_with_len (a + 1) m) ≡ map (piece_at (offset + 32768) (left - 32768)) (range_with_len a m)
map-next offset left a zero more = refl
map-next offset left a (suc m) more =
    ap (λ p. p ∷ map (piece_at offset left) (range_with_len (a + 1 + 1) m)) (piece_at-next offset left a more)
    ∙ ap (λ ps. piece_at (offset + 32768) (left - 32768) a ∷ ps) (map-next offset left (a + 1) m more)

pub pieces_from-zero : (offset : ℕ) → pieces_from offset 0 ≡ []
unfolding pieces_from
pieces_from-zero offset = refl

-- at most 32,768 bytes are one piece, which is the last
one_piece : (offset left : ℕ) → 0 < left → left ≤ 32768 → pieces_from offset left ≡ piece offset left true ∷ []
unfolding pieces_from piece
one_piece offset left some few =
    let one = count-one left some few in
    let is_last : (0 + 1 == piece_count left) ≡ true = ap (λ n. 1 == n) one in
    ap (λ n. map (piece_at offset left) (range_with_len 0 n)) one
    ∙ ap (λ p. p ∷ []) (same_piece _ _ _ _ _ _ (omega arith) (omega arith) is_last)

-- of more the first piece has 32,768, and is not the last
more_pieces : (offset left : ℕ) → 32768 < left → pieces_from offset left ≡ piece offset 32768 false ∷ pieces_from (offset + 32768) (left - 32768)
unfolding pieces_from piece
more_pieces offset left more =
    let rest = piece_count (left - 32768) in
    let longer : piece_count left ≡ suc rest = omega (arith, count-less left more) in
    let goes_on : (0 + 1 == piece_count left) ≡ false = let some : 1 < piece_count left = omega arith in grind (arith, nat_tests) in
    ap (λ n. map (piece_at offset left) (range_with_len 0 n)) longer
    ∙ ap (λ p. p ∷ map (piece_at offset left) (range_with_len (0 + 1) rest)) (same_piece _ _ _ _ _ _ (omega arith) (omega arith) goes_on)
    ∙ ap (λ ps. piece offset 32768 false ∷ ps) (map-next offset left 0 rest more)

-- the first piece, and the pieces of what is left after it
pub pieces_from-next : (offset left : ℕ) → 0 < left
    → pieces_from offset left ≡ (record { offset = offset; len = min left 32768; last = min left 32768 == left }) ∷ pieces_from (offset + min left 32768) (left - min left 32768)
unfolding piece
pieces_from-next offset left some = by_length (cases_lt 32768 left)
  where
    by_length : (32768 < left) ⊎ (left ≤ 32768) → pieces_from offset left ≡ piece offset (min left 32768) (min left 32768 == left) ∷ pieces_from (offset + min left 32768) (left - min left 32768)
    by_length (inl more) =
        let full : min left 32768 ≡ 32768 = omega arith in
        let goes_on : (32768 == left) ≡ false = grind (arith, nat_tests) in
        rw (full, goes_on) (more_pieces offset left more)
    by_length (inr few) =
        let all : min left 32768 ≡ left = omega arith in
        let is_last : (left == left) ≡ true = grind (arith, nat_tests) in
        let nothing : left - left ≡ 0 = omega arith in
        rw (all, is_last, nothing) (one_piece offset left some few ∙ ap (λ ps. piece offset left true ∷ ps) (sym (pieces_from-zero (offset + left))))

pub ruleset splits = (pieces_from-zero, pieces_from-next)
