-- The bytes of a PDU behind its header are passed over at once.
use Rattle.std.proofs.Common.{◌≡◌, ◌≤◌, ◌∙◌, ℕ, ◌+◌, ◌-◌, List, [], ◌∷◌, length, drop, ap, sym, arith, suc, zero, length-drop}
use Rattle.std.proofs.lemmas.List.{drop-drop}
use Rattle.nvt_ports.specs.Portion.{begun_in, walked}

pub begun_in-passed : (n place left : ℕ) (len bytes : List ℕ) → n ≤ left → n ≤ length bytes
    → begun_in (record { place = place; len = len; left = left }) bytes ≡ begun_in (record { place = place; len = len; left = left - n }) (drop n bytes)
begun_in-passed zero place left len bytes few there = grind arith
begun_in-passed (suc n) place zero len bytes few there = absurd (omega arith)
begun_in-passed (suc n) place (suc left) len [] few there = absurd (omega arith)
begun_in-passed (suc n) place (suc left) len (b ∷ bytes) few there =
    grind (arith, begun_in-passed n place left len bytes (omega arith) (omega arith))

pub walked-passed : (n place left : ℕ) (len bytes : List ℕ) → n ≤ left → n ≤ length bytes
    → walked (record { place = place; len = len; left = left }) bytes ≡ walked (record { place = place; len = len; left = left - n }) (drop n bytes)
walked-passed zero place left len bytes few there = grind arith
walked-passed (suc n) place zero len bytes few there = absurd (omega arith)
walked-passed (suc n) place (suc left) len [] few there = absurd (omega arith)
walked-passed (suc n) place (suc left) len (b ∷ bytes) few there =
    grind (arith, walked-passed n place left len bytes (omega arith) (omega arith))

-- the same from a place on
pub begun_in-drop : (at n place left : ℕ) (len bytes : List ℕ) → n ≤ left → n ≤ length bytes - at
    → begun_in (record { place = place; len = len; left = left - n }) (drop (at + n) bytes) ≡ begun_in (record { place = place; len = len; left = left }) (drop at bytes)
begun_in-drop at n place left len bytes few there =
    let same : drop n (drop at bytes) ≡ drop (at + n) bytes = drop-drop n at bytes in
    sym (begun_in-passed n place left len (drop at bytes) few (rw (length-drop at bytes) there)
    ∙ ap (λ rest. begun_in (record { place = place; len = len; left = left - n }) rest) same)

pub walked-drop : (at n place left : ℕ) (len bytes : List ℕ) → n ≤ left → n ≤ length bytes - at
    → walked (record { place = place; len = len; left = left - n }) (drop (at + n) bytes) ≡ walked (record { place = place; len = len; left = left }) (drop at bytes)
walked-drop at n place left len bytes few there =
    let same : drop n (drop at bytes) ≡ drop (at + n) bytes = drop-drop n at bytes in
    sym (walked-passed n place left len (drop at bytes) few (rw (length-drop at bytes) there)
    ∙ ap (λ rest. walked (record { place = place; len = len; left = left - n }) rest) same)
