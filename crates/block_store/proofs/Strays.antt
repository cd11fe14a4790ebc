-- What reads in a row found, told of all their bytes.
use Rattle.std.proofs.Common.{◌≡◌, inl, inr, ℕ, ◌+◌, ◌*◌, ◌<◌, ◌≤◌, List, [], ◌++◌, sym, ◌∙◌, ap, refl, arith, length, take, drop, get_or, Bool, true, false, true≢false, ◌&&◌, ◌↔◌, IsTrue}
use Rattle.std.proofs.lemmas.List.{length-append, length-take-le, length-drop, take_at, drop_at}
use Rattle.std.proofs.lemmas.List.Elements.{All-take, All-drop, recursion_from_All}
use Rattle.std.proofs.lemmas.Slice.{take-put_mid}
use Rattle.std.proofs.Math.Seq.{take-add}
use Rattle.std.specs.Cmp.Lexicographic.{bytes_decides, pointwise}
use Rattle.std.specs.List.{All}
use lib.Dec.{eqb}
use borrow.Rule.Slice.PartMut.{put_mid}
use Rattle.block_store.specs.Compare.{Compared}
use Rattle.block_store.specs.Faults.{Strays}
use Rattle.block_store.specs.Range.{bytes_of, units_at}
use Rattle.block_store.specs.Unit.{IsUnit}
use Rattle.block_store.proofs.Cuts.{length-bytes_of}
use Rattle.block_store.proofs.Fronts.{units_at_more, bytes_of_more}

-- the count never falls
pub strays_rise : (found wanted : List ℕ) (old new : ℕ) → Strays found wanted old new → old ≤ new
strays_rise found wanted old new (inl (same, stays)) = omega (arith, stays)
strays_rise found wanted old new (inr (other, rises)) = omega (arith, rises)

-- two lists in a row whose fronts are as long
module _ (front back other_front other_back : List ℕ) (long : length front ≡ length other_front) (same : front ++ back ≡ other_front ++ other_back) where
  fronts_same : front ≡ other_front
  fronts_same =
      sym (take_at front back (length front) refl) ∙ ap (λ bytes. take (length front) bytes) same
      ∙ take_at other_front other_back (length front) (sym long)

  backs_same : back ≡ other_back
  backs_same =
      sym (drop_at front back (length front) refl) ∙ ap (λ bytes. drop (length front) bytes) same
      ∙ drop_at other_front other_back (length front) (sym long)

-- two reads in a row are one read of their bytes
pub strays_in_a_row : (front unit wanted_front wanted_unit : List ℕ) (old between new : ℕ)
    → length front ≡ length wanted_front
    → Strays front wanted_front old between → Strays unit wanted_unit between new
    → Strays (front ++ unit) (wanted_front ++ wanted_unit) old new
strays_in_a_row front unit wanted_front wanted_unit old between new long (inl (same, stays)) (inl (same_unit, stays_then)) =
    inl (ap (λ f. f ++ unit) same ∙ ap (λ u. wanted_front ++ u) same_unit, stays_then ∙ stays)
strays_in_a_row front unit wanted_front wanted_unit old between new long (inl (same, stays)) (inr (other, rises)) =
    inr (
      λ whole. other (backs_same front unit wanted_front wanted_unit long whole),
      omega (arith, stays, rises),
    )
strays_in_a_row front unit wanted_front wanted_unit old between new long (inr (other, rises)) then =
    inr (
      λ whole. other (fronts_same front unit wanted_front wanted_unit long whole),
      omega (arith, rises, strays_rise unit wanted_unit between new then),
    )

-- two lists in a row are two others exactly where each is the other one
both_same : (front here found unit : List ℕ) (same equal : Bool) → length front ≡ length found
    → equal ≡ pointwise eqb unit here
    → IsTrue same ↔ (front ≡ found)
    → IsTrue (same && equal) ↔ (front ++ here ≡ found ++ unit)
both_same front here found unit true equal long is_equal (to, from) =
    let decides = bytes_decides unit here in (
      λ e. ap (λ f. f ++ here) (to refl) ∙ ap (λ u. found ++ u) (sym (decides.0 (sym is_equal ∙ e))),
      λ whole. is_equal ∙ decides.1 (sym (backs_same front here found unit long whole)),
    )
both_same front here found unit false equal long is_equal (to, from) =
    (λ e. absurd (true≢false (sym e)), λ whole. from (fronts_same front here found unit long whole))

-- a range that is within the contents has so many bytes
pub length-range : (contents : List (List ℕ)) (first count : ℕ) → All IsUnit contents → first + count ≤ length contents
    → length (bytes_of (units_at contents first count)) ≡ count * 512
length-range contents first count all within =
    let each = All-take IsUnit count _ (All-drop IsUnit first contents all) in
    let long = length-take-le count (drop first contents) (omega (arith, length-drop first contents)) in
    length-bytes_of (units_at contents first count) (recursion_from_All IsUnit _ each) ∙ ap (λ n. n * 512) long

-- a range and the unit behind it, read into their places
pub next_found : (contents : List (List ℕ)) (out unit : List ℕ) (first i k old between new : ℕ)
    → All IsUnit contents → first + i < length contents → i * 512 ≤ length out → length unit ≡ 512
    → Strays (take (i * 512) out) (bytes_of (units_at contents first i)) old between
    → Strays unit (get_or contents (first + i) []) between new
    → Strays (take ((i + 1) * 512) (put_mid (i * 512) k out unit)) (bytes_of (units_at contents first (i + 1))) old new
next_found contents out unit first i k old between new all within room long front then =
    let read = take-put_mid (i * 512) k out unit ((i + 1) * 512) (omega (arith, long)) room in
    let wanted = ap bytes_of (units_at_more contents first i within) ∙ bytes_of_more (units_at contents first i) (get_or contents (first + i) []) in
    let lengths = length-take-le (i * 512) out room ∙ sym (length-range contents first i all (omega arith)) in
    rw (read, wanted) (strays_in_a_row (take (i * 512) out) unit _ _ old between new lengths front then)

-- bytes beside those that a read found, with one more unit
pub next_compared : (contents : List (List ℕ)) (bytes unit : List ℕ) (first i : ℕ) (same equal : Bool) (old between new : ℕ)
    → All IsUnit contents → first + i < length contents → i * 512 + 512 ≤ length bytes → length unit ≡ 512
    → equal ≡ pointwise eqb unit (take 512 (drop (i * 512) bytes))
    → Compared (take (i * 512) bytes) (bytes_of (units_at contents first i)) same old between
    → Strays unit (get_or contents (first + i) []) between new
    → Compared (take ((i + 1) * 512) bytes) (bytes_of (units_at contents first (i + 1))) (same && equal) old new
next_compared contents bytes unit first i same equal old between new all within room long is_equal front then =
    let here = take 512 (drop (i * 512) bytes) in
    let wanted = ap bytes_of (units_at_more contents first i within) ∙ bytes_of_more (units_at contents first i) (get_or contents (first + i) []) in
    let front_long = length-take-le (i * 512) bytes (omega (arith, room)) in
    let lengths = front.whole ∙ front_long ∙ sym (length-range contents first i all (omega arith)) in
    let more : (i + 1) * 512 ≡ i * 512 + 512 = omega arith in
    let cut : take ((i + 1) * 512) bytes ≡ take (i * 512) bytes ++ here = ap (λ n. take n bytes) more ∙ take-add (i * 512) 512 bytes in
    let here_long : length here ≡ 512 = length-take-le 512 (drop (i * 512) bytes) (omega (arith, room, length-drop (i * 512) bytes)) in
    rw (wanted, cut) (record {
      found = front.found ++ unit;
      whole = omega (arith, length-append front.found unit, length-append (take (i * 512) bytes) here, front.whole, long, here_long);
      answer = both_same (take (i * 512) bytes) here front.found unit same equal (sym front.whole) is_equal front.answer;
      strays = strays_in_a_row front.found unit _ _ old between new lengths front.strays then;
    })
