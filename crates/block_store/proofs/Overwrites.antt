-- The units of contents in which a range is overwritten.
use Rattle.std.proofs.Common.{◌≡◌, ◌⊎◌, inl, inr, ℕ, ◌+◌, ◌-◌, ◌<◌, ◌≤◌, List, [], ◌∷◌, ◌++◌, refl, sym, ◌∙◌, ap, arith, length, take, drop, get_or, min, true, false, if◌then◌else◌}
use Rattle.std.specs.Prelude.{unwrap_or, Some}
use Rattle.std.proofs.lemmas.List.{length-append, length-take, length-take-le, length-drop, take_all, get_or-take, get_or-drop, get_or_append_left, get_or-append_right, same_lists}
use Rattle.std.proofs.lemmas.List.Edits.{paste-paste}
use Rattle.std.proofs.lemmas.Bool.{cases_lt}
use Rattle.std.proofs.lemmas.Bool.Decides.{nat_tests}
use Rattle.std.specs.List.{AllByRecursion}
use Rattle.std.proofs.lemmas.Slice.{put_mid-paste}
use borrow.Rule.Slice.PartMut.{put_mid}
use lib.Seq.{paste}
use Rattle.block_store.specs.Range.{units_at, overwritten, FrontWritten, IsWritten}
use Rattle.block_store.specs.Write.{Write, IsWithin, contents_after, writes, latest}

module _ (contents units : List (List ℕ)) (first : ℕ) (within : first + length units ≤ length contents) where
  front_long : length (take first contents) ≡ first
  front_long = length-take-le first contents (omega arith)

  both_long : length (take first contents ++ units) ≡ first + length units
  both_long = omega (arith, length-append (take first contents) units, front_long)

  pub length-overwritten : length (overwritten contents first units) ≡ length contents
  length-overwritten =
      let behind = drop (first + length units) contents in
      omega (arith, length-append (take first contents ++ units) behind, both_long, length-drop (first + length units) contents)

  pub unit_inside : (unit : ℕ) (d : List ℕ) → first ≤ unit → unit < first + length units
      → get_or (overwritten contents first units) unit d ≡ get_or units (unit - first) d
  unit_inside unit d from below =
      get_or_append_left (take first contents ++ units) (drop (first + length units) contents) d unit (omega (arith, both_long))
      ∙ get_or-append_right (take first contents) units first unit d front_long from

  pub unit_outside : (unit : ℕ) (d : List ℕ) → (unit < first) ⊎ (first + length units ≤ unit)
      → get_or (overwritten contents first units) unit d ≡ get_or contents unit d
  unit_outside unit d (inl below) =
      get_or_append_left (take first contents ++ units) (drop (first + length units) contents) d unit (omega (arith, both_long))
      ∙ get_or_append_left (take first contents) units d unit (omega (arith, front_long))
      ∙ get_or-take first contents unit d below
  unit_outside unit d (inr behind) =
      let place : first + length units + (unit - (first + length units)) ≡ unit = omega arith in
      get_or-append_right (take first contents ++ units) (drop (first + length units) contents) (first + length units) unit d both_long behind
      ∙ get_or-drop (first + length units) contents (unit - (first + length units)) d
      ∙ ap (λ n. get_or contents n d) place

  pub range_outside : (other count : ℕ) → (other + count ≤ first) ⊎ (first + length units ≤ other)
      → units_at (overwritten contents first units) other count ≡ units_at contents other count
  range_outside other count apart =
      let new = overwritten contents first units in
      let lengths = λ (c : List (List ℕ)). length-take count (drop other c) ∙ ap (min count) (length-drop other c) in
      same_lists _ _
      (lengths new ∙ ap (λ n. min count (n - other)) length-overwritten ∙ sym (lengths contents))
      (λ k d below.
      let short : k < count = omega (arith, lengths new) in
      get_or-take count (drop other new) k d short ∙ get_or-drop other new k d
      ∙ unit_outside (other + k) d (elim apart [ inl before ↦ inl (omega arith) | inr behind ↦ inr (omega arith) ])
      ∙ sym (get_or-take count (drop other contents) k d short ∙ get_or-drop other contents k d))

-- all of the units, written one after another
pub whole_is : (contents units : List (List ℕ)) (first : ℕ) → overwritten contents first units ≡ paste contents first units (length units)
whole_is contents units first =
    ap (λ us. take first contents ++ us ++ drop (first + length units) contents) (sym (take_all (length units) units (omega arith)))

-- what stands after a write to a part of a list
pub put_is : (held new units : List (List ℕ)) (at count : ℕ) → new ≡ units → length units ≡ count
    → put_mid at count held new ≡ overwritten held at units
put_is held new units at count same long =
    put_mid-paste at count held new units count same refl (sym long)
    ∙ ap (λ n. paste held at units n) (sym long) ∙ sym (whole_is held units at)

pub two_in_a_row : (contents units more : List (List ℕ)) (first : ℕ) → first + length units + length more ≤ length contents
    → overwritten (overwritten contents first units) (first + length units) more ≡ overwritten contents first (units ++ more)
two_in_a_row contents units more first within =
    ap (λ c. overwritten c (first + length units) more) (whole_is contents units first)
    ∙ whole_is (paste contents first units (length units)) more (first + length units)
    ∙ paste-paste contents first units more (length units) (length more) refl refl (omega arith)
    ∙ ap (λ n. paste contents first (units ++ more) n) (sym (length-append units more))
    ∙ sym (whole_is contents (units ++ more) first)

pub count_after : (ws : List Write) (contents : List (List ℕ)) → AllByRecursion (IsWithin (length contents)) ws
    → length (contents_after ws contents) ≡ length contents
count_after [] contents all = refl
count_after (write ∷ earlier) contents (within, all) =
    let before = count_after earlier contents all in
    length-overwritten (contents_after earlier contents) write.units write.first (omega (arith, within, before)) ∙ before

-- what one write leaves in a unit
unit_after : (contents : List (List ℕ)) (write : Write) (unit : ℕ) → IsWithin (length contents) write
    → get_or (overwritten contents write.first write.units) unit [] ≡ if writes write unit then get_or write.units (unit - write.first) [] else get_or contents unit []
unit_after contents write unit within =
    elim (cases_lt unit write.first) [
      | inl below ↦
          let test : writes write unit ≡ false = grind (arith, nat_tests) in
          rw test (unit_outside contents write.units write.first within unit [] (inl below))
      | inr from ↦
          elim (cases_lt unit (write.first + length write.units)) [
            | inl below ↦
                let test : writes write unit ≡ true = grind (arith, nat_tests) in
                rw test (unit_inside contents write.units write.first within unit [] from below)
            | inr behind ↦
                let test : writes write unit ≡ false = grind (arith, nat_tests) in
                rw test (unit_outside contents write.units write.first within unit [] (inr behind))
          ]
    ]

pub latest_stands : (ws : List Write) (contents : List (List ℕ)) (unit : ℕ) → AllByRecursion (IsWithin (length contents)) ws
    → get_or (contents_after ws contents) unit [] ≡ unwrap_or (latest ws unit) (get_or contents unit [])
latest_stands [] contents unit all = refl
latest_stands (write ∷ earlier) contents unit (within, all) =
    let before = count_after earlier contents all in
    unit_after (contents_after earlier contents) write unit (omega (arith, within, before))
    ∙ elim (writes write unit) as (λ b. (if b then get_or write.units (unit - write.first) [] else get_or (contents_after earlier contents) unit []) ≡ unwrap_or (if b then Some (get_or write.units (unit - write.first) []) else latest earlier unit) (get_or contents unit [])) [
      | true ↦ refl
      | false ↦ latest_stands earlier contents unit all
    ]

-- a front of a range, written
module _ (contents units new : List (List ℕ)) (first : ℕ) (within : first + length units ≤ length contents) (torn : FrontWritten contents first units new) where
  front_length : length (take torn.count units) ≡ torn.count
  front_length = length-take-le torn.count units torn.within

  front_within : first + length (take torn.count units) ≤ length contents
  front_within = omega (arith, within, torn.within, front_length)

  pub torn_count : length new ≡ length contents
  torn_count = ap length torn.holds ∙ length-overwritten contents (take torn.count units) first front_within

  torn_outside : (unit : ℕ) → (unit < first) ⊎ (first + length (take torn.count units) ≤ unit)
      → get_or new unit [] ≡ get_or contents unit []
  torn_outside unit apart =
      ap (λ c. get_or c unit []) torn.holds
      ∙ unit_outside contents (take torn.count units) first front_within unit [] apart

  torn_inside : (unit : ℕ) → first ≤ unit → unit < first + torn.count → IsWritten first units new unit
  torn_inside unit from below = record {
    from = from;
    below = omega (arith, torn.within, below);
    bytes =
        ap (λ c. get_or c unit []) torn.holds
        ∙ unit_inside contents (take torn.count units) first front_within unit [] from (omega (arith, below, front_length))
        ∙ get_or-take torn.count units (unit - first) [] (omega (arith, from, below));
  }

  pub torn_unit : (unit : ℕ) → (get_or new unit [] ≡ get_or contents unit []) ⊎ IsWritten first units new unit
  torn_unit unit =
      elim (cases_lt unit first) [
        | inl before ↦ inl (torn_outside unit (inl before))
        | inr from ↦
            elim (cases_lt unit (first + torn.count)) [
              | inl below ↦ inr (torn_inside unit from below)
              | inr behind ↦ inl (torn_outside unit (inr (omega (arith, behind, front_length))))
            ]
      ]
