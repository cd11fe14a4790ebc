-- A loop that wearies those who were tried in vain.
use Rattle.std.proofs.Common.{◌≡◌, ℕ, zero, suc, ◌+◌, ◌-◌, ◌<◌, ◌≤◌, List, [], ◌∷◌, ◌++◌, true, false, length, take, drop, set, get_or, refl, sym, ap, ◌∙◌, arith, add-one}
use Rattle.std.specs.Prelude.{nat_lt, remove}
use Rattle.std.proofs.lemmas.Bool.{le-ltb, lt-ltb}
use Rattle.std.proofs.lemmas.List.{get_or_default, take-append-drop}
use Rattle.nvt_ports.specs.declared.turn_order.Lately.{Lately}
use Rattle.nvt_ports.specs.Lately.{tired}

-- the list, once the rest of this many, from this place on, is wearied
abbrev pub with_rest : ℕ → ℕ → List Lately → List Lately
with_rest place count list = take place list ++ tired count (drop place list)

-- one whose patience is over leaves
wearied_over : (place count : ℕ) (list : List Lately) (x : Lately) → place < length list → x ≡ get_or list place x → x.patience < 2
    → with_rest place (count + 1) list ≡ with_rest place count (remove list place)
wearied_over place count [] x within here over = absurd (omega arith)
wearied_over zero count (y ∷ list) x within here over =
    let short : nat_lt y.patience 2 ≡ true = lt-ltb y.patience 2 (omega (arith, ap (λ (z : Lately). z.patience) here)) in
    rw (add-one, short) refl
wearied_over (suc place) count (y ∷ list) x within here over = ap (λ rest. y ∷ rest) (wearied_over place count list x (omega arith) here over)

-- one that has patience left is passed
wearied_left : (place count : ℕ) (list : List Lately) (x : Lately) → place < length list → x ≡ get_or list place x → 2 ≤ x.patience
    → with_rest place (count + 1) list ≡ with_rest (place + 1) count (set list place (record { number = x.number; patience = x.patience - 1 }))
wearied_left place count [] x within here left = absurd (omega arith)
wearied_left zero count (y ∷ list) x within here left =
    let long : nat_lt y.patience 2 ≡ false = le-ltb y.patience 2 (omega (arith, ap (λ (z : Lately). z.patience) here)) in
    rw (add-one, long) (ap (λ (z : Lately). record { number = z.number; patience = z.patience - 1 } ∷ tired count list) (sym here))
wearied_left (suc place) count (y ∷ list) x within here left =
    let next : suc place + 1 ≡ suc (place + 1) = omega arith in
    rw next (ap (λ rest. y ∷ rest) (wearied_left place count list x (omega arith) here left))

pub next_over : (all list : List Lately) (place left more : ℕ) (x : Lately) → all ≡ with_rest place more list → more ≡ left + 1
    → place < length list → x ≡ get_or list place x → x.patience < 2 → all ≡ with_rest place left (remove list place)
next_over all list place left more x so-far one-more within here over =
    so-far ∙ ap (λ n. with_rest place n list) one-more ∙ wearied_over place left list x within here over

-- y is the one that is written back, and x the one that was read
pub next_left : (all list : List Lately) (place left more : ℕ) (x y : Lately) → all ≡ with_rest place more list → more ≡ left + 1
    → place < length list → x ≡ get_or list place x → y ≡ get_or list place y → 2 ≤ x.patience
    → all ≡ with_rest (place + 1) left (set list place (record { number = y.number; patience = x.patience - 1 }))
next_left all list place left more x y so-far one-more within here there long =
    let same : x ≡ y = here ∙ get_or_default list place x y within ∙ sym there in
    so-far ∙ ap (λ n. with_rest place n list) one-more ∙ wearied_left place left list x within here long
    ∙ ap (λ (z : Lately). with_rest (place + 1) left (set list place (record { number = z.number; patience = x.patience - 1 }))) same

pub none_left : (all list : List Lately) (place left : ℕ) → all ≡ with_rest place left list → left ≡ 0 → list ≡ all
none_left all list place left so-far over =
    sym (take-append-drop place list) ∙ ap (λ n. with_rest place n list) (sym over) ∙ sym so-far
