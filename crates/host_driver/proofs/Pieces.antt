-- The pieces in which bytes that are asked for go join to them, in their order.
use Rattle.std.proofs.Common.{◌≡◌, ◌⊎◌, ◌≤◌, ◌<◌, ℕ, zero, suc, ◌+◌, ◌==◌, nat_lt, true, false, List, [], ◌∷◌, ◌++◌, length, take, drop, refl, ap, ◌∙◌, inl, inr, arith, append-nil}
use Rattle.std.specs.List.{flat_map}
use Rattle.std.proofs.lemmas.Bool.{cases_lt}
use Rattle.std.proofs.lemmas.Bool.Decides.{nat_tests}
use Rattle.std.proofs.lemmas.List.{length-drop, length-take, take-append-drop}
use Rattle.std.proofs.lemmas.List.Concat.{flat_map-cons}
use Rattle.host_driver.specs.Requested.{AreInTurn, Piece, PiecesAreInTurn, PiecesJoin, piece, pieces_from}

is_more : (a b : ℕ) → a < b → nat_lt a b ≡ true
is_more a b h = grind (arith, nat_tests)

is_no_more : (a b : ℕ) → b ≤ a → nat_lt a b ≡ false
is_no_more a b h = grind (arith, nat_tests)

pub pieces-more : (n most offset : ℕ) (bytes : List ℕ) → most < length bytes
    → pieces_from (suc n) most offset bytes ≡ piece offset false (take most bytes) ∷ pieces_from n most (offset + most) (drop most bytes)
unfolding pieces_from
pieces-more n most offset bytes more = rw (is_more most (length bytes) more) refl

pub pieces-last : (n most offset : ℕ) (bytes : List ℕ) → length bytes ≤ most
    → pieces_from (suc n) most offset bytes ≡ piece offset true bytes ∷ []
unfolding pieces_from
pieces-last n most offset bytes few = rw (is_no_more most (length bytes) few) refl

payload_of : Piece → List ℕ
payload_of p = p.payload

-- .. by what is left after a first piece
joins-by : (n most offset : ℕ) (bytes : List ℕ) → (most < length bytes) ⊎ (length bytes ≤ most)
    → flat_map (λ (p : Piece). p.payload) (pieces_from n most (offset + most) (drop most bytes)) ≡ drop most bytes
    → flat_map (λ (p : Piece). p.payload) (pieces_from (suc n) most offset bytes) ≡ bytes
joins-by n most offset bytes (inl more) rest =
    ap (flat_map (λ (p : Piece). p.payload)) (pieces-more n most offset bytes more)
    ∙ flat_map-cons (λ (p : Piece). p.payload) (piece offset false (take most bytes)) (pieces_from n most (offset + most) (drop most bytes))
    ∙ ap (λ (l : List ℕ). take most bytes ++ l) rest
    ∙ take-append-drop most bytes
joins-by n most offset bytes (inr few) rest =
    ap (flat_map (λ (p : Piece). p.payload)) (pieces-last n most offset bytes few) ∙ append-nil bytes

joins : (n most offset : ℕ) (bytes : List ℕ) → length bytes ≤ n → 1 ≤ most
    → flat_map (λ (p : Piece). p.payload) (pieces_from n most offset bytes) ≡ bytes
unfolding pieces_from
joins zero most offset [] few some = refl
joins zero most offset (x ∷ xs) few some = absurd (omega (arith, few))
joins (suc n) most offset bytes few some =
    let shorter : length (drop most bytes) ≤ n = omega (arith, length-drop most bytes, few, some) in
    joins-by n most offset bytes (cases_lt most (length bytes)) (joins n most (offset + most) (drop most bytes) shorter some)

pub pieces_join : PiecesJoin
pieces_join most offset bytes some = joins (length bytes) most offset bytes (omega arith) some

-- of some bytes there is a piece
first_piece-by : (n most offset : ℕ) (bytes : List ℕ) → (most < length bytes) ⊎ (length bytes ≤ most) → 1 ≤ length (pieces_from (suc n) most offset bytes)
first_piece-by n most offset bytes (inl more) = rw (pieces-more n most offset bytes more) (omega arith)
first_piece-by n most offset bytes (inr few) = rw (pieces-last n most offset bytes few) (omega arith)

first_piece : (n most offset : ℕ) (bytes : List ℕ) → 1 ≤ n → 1 ≤ length (pieces_from n most offset bytes)
first_piece zero most offset bytes enough = absurd (omega (arith, enough))
first_piece (suc n) most offset bytes enough = first_piece-by n most offset bytes (cases_lt most (length bytes))

in_turn-by : (n most offset : ℕ) (bytes : List ℕ) → length bytes ≤ suc n → 1 ≤ length bytes → 1 ≤ most → (most < length bytes) ⊎ (length bytes ≤ most)
    → (length (drop most bytes) ≤ n → 1 ≤ length (drop most bytes) → AreInTurn most (offset + most) (pieces_from n most (offset + most) (drop most bytes)))
    → AreInTurn most offset (pieces_from (suc n) most offset bytes)
unfolding AreInTurn
in_turn-by n most offset bytes few some room (inl more) rest =
    let left : 1 ≤ length (drop most bytes) = omega (arith, length-drop most bytes, more) in
    let shorter : length (drop most bytes) ≤ n = omega (arith, length-drop most bytes, few, room) in
    let full : length (take most bytes) ≡ most = omega (arith, length-take most bytes, more) in
    let others : 1 ≤ length (pieces_from n most (offset + most) (drop most bytes)) = first_piece n most (offset + most) (drop most bytes) (omega (arith, left, shorter)) in
    let goes_on : false ≡ (length (pieces_from n most (offset + most) (drop most bytes)) == 0) = grind (arith, nat_tests, others) in
    rw (pieces-more n most offset bytes more) (rw full (refl, room, omega arith, goes_on, rest shorter left))
in_turn-by n most offset bytes few some room (inr all) rest =
    rw (pieces-last n most offset bytes all) (refl, some, all, refl, tt)

in_turn : (n most offset : ℕ) (bytes : List ℕ) → length bytes ≤ n → 1 ≤ length bytes → 1 ≤ most → AreInTurn most offset (pieces_from n most offset bytes)
in_turn zero most offset bytes few some room = absurd (omega (arith, few, some))
in_turn (suc n) most offset bytes few some room =
    in_turn-by n most offset bytes few some room (cases_lt most (length bytes)) (λ shorter left. in_turn n most (offset + most) (drop most bytes) shorter left room)

pub pieces_are_in_turn : PiecesAreInTurn
unfolding pieces_from AreInTurn
pieces_are_in_turn most offset [] room = tt
pieces_are_in_turn most offset (x ∷ xs) room = in_turn (length (x ∷ xs)) most offset (x ∷ xs) (omega arith) (omega arith) room
