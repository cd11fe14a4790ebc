-- A range of units is read and written a unit at a time.
use Rattle.std.proofs.Common.{◌≡◌, ◌⊎◌, inl, inr, ℕ, ◌+◌, ◌-◌, replicate, subst, ◌<◌, ◌≤◌, List, [], ◌∷◌, ◌++◌, sym, ◌∙◌, ap, arith, length, take, drop, set, get_or, append_assoc, append-nil, OnErr, Result, Ok, Err}
use Rattle.std.proofs.lemmas.List.{length-replicate, get_or-replicate, length-take-le, take_more, get_or-drop, length-drop}
use Rattle.std.proofs.lemmas.List.Edits.{paste_more}
use lib.Seq.{paste}
use Rattle.block_store.specs.Range.{bytes_of, units_at, overwritten, FrontWritten}

-- a range with one more unit
pub units_at_more : (contents : List (List ℕ)) (first i : ℕ) → first + i < length contents
    → units_at contents first (i + 1) ≡ units_at contents first i ++ get_or contents (first + i) [] ∷ []
units_at_more contents first i within =
    let shorter : i < length (drop first contents) = omega (arith, length-drop first contents) in
    take_more (drop first contents) i [] shorter
    ∙ ap (λ unit. take i (drop first contents) ++ unit ∷ []) (get_or-drop first contents i [])

-- the bytes of one more unit stand behind
pub bytes_of_more : (units : List (List ℕ)) (unit : List ℕ) → bytes_of (units ++ unit ∷ []) ≡ bytes_of units ++ unit
bytes_of_more [] unit = append-nil unit
bytes_of_more (bytes ∷ units) unit =
    ap (λ rest. bytes ++ rest) (bytes_of_more units unit) ∙ sym (append_assoc bytes (bytes_of units) unit)

-- a front of the units, written
pub front_is : (contents units : List (List ℕ)) (first i : ℕ) → i ≤ length units
    → overwritten contents first (take i units) ≡ paste contents first units i
front_is contents units first i within =
    ap (λ n. take first contents ++ take i units ++ drop (first + n) contents) (length-take-le i units within)

pub next_written : (contents units : List (List ℕ)) (unit : List ℕ) (first i : ℕ)
    → first + i < length contents → i < length units → unit ≡ get_or units i []
    → set (overwritten contents first (take i units)) (first + i) unit ≡ overwritten contents first (take (i + 1) units)
next_written contents units unit first i within more is_unit =
    ap (λ all. set all (first + i) unit) (front_is contents units first i (omega arith))
    ∙ ap (λ u. set (paste contents first units i) (first + i) u) is_unit
    ∙ paste_more contents first units i [] within more
    ∙ sym (front_is contents units first (i + 1) (omega arith))

-- where the write of the next unit failed, a front is written
pub next_torn : (contents units : List (List ℕ)) (unit : List ℕ) (first i : ℕ) (old new : List (List ℕ))
    → first + i < length contents → i < length units → unit ≡ get_or units i []
    → old ≡ overwritten contents first (take i units)
    → (new ≡ old) ⊎ (new ≡ set old (first + i) unit)
    → FrontWritten contents first units new
next_torn contents units unit first i old new within more is_unit front (inl as_before) =
    record { count = i; within = omega arith; holds = as_before ∙ front }
next_torn contents units unit first i old new within more is_unit front (inr written) =
    record {
      count = i + 1;
      within = omega arith;
      holds = written ∙ ap (λ all. set all (first + i) unit) front ∙ next_written contents units unit first i within more is_unit;
    }

-- what a fault leaves, told of the result of the call
pub told_of_err : {T E P : Type 0} (result : Result T E) → P → OnErr result P
told_of_err (Ok x) p = tt
told_of_err (Err e) p = p

-- the same of one unit written again and again, at the number of the unit
module _ (contents : List (List ℕ)) (unit : List ℕ) (first count at : ℕ) (from : first ≤ at) (below : at < first + count) (within : first + count ≤ length contents) (old : List (List ℕ)) (front : old ≡ overwritten contents first (take (at - first) (replicate count unit))) where
  at_is : first + (at - first) ≡ at
  at_is = omega arith

  pub next_filled : (new : List (List ℕ)) → new ≡ set old at unit
      → new ≡ overwritten contents first (take (at + 1 - first) (replicate count unit))
  next_filled new written =
      let units = replicate count unit in
      let long = length-replicate count unit in
      let more : at + 1 - first ≡ at - first + 1 = omega arith in
      written ∙ ap (λ all. set all at unit) front
      ∙ ap (λ n. set (overwritten contents first (take (at - first) units)) n unit) (sym at_is)
      ∙ next_written contents units unit first (at - first) (omega arith) (omega (arith, long)) (sym (get_or-replicate count (at - first) unit [] (omega arith)))
      ∙ ap (λ n. overwritten contents first (take n units)) (sym more)

  pub next_fill_torn : (new : List (List ℕ)) → (new ≡ old) ⊎ (new ≡ set old at unit)
      → FrontWritten contents first (replicate count unit) new
  next_fill_torn new torn =
      let long = length-replicate count unit in
      next_torn contents (replicate count unit) unit first (at - first) old new (omega arith) (omega (arith, long)) (sym (get_or-replicate count (at - first) unit [] (omega arith))) front
      (subst (λ n. (new ≡ old) ⊎ (new ≡ set old n unit)) (sym at_is) torn)
