-- Writes in a row, as one.
use Rattle.std.proofs.Common.{◌≡◌, ℕ, zero, suc, ◌+◌, ◌-◌, ◌*◌, ◌/◌, ◌%◌, ◌≤◌, List, ◌∷◌, ◌++◌, refl, sym, ◌∙◌, ap, arith, length, take, drop}
use Rattle.std.proofs.lemmas.List.{length-append, length-drop, take-append-le, drop-append-le, take_all, drop-drop}
use Rattle.std.proofs.lemmas.List.Elements.{recursion_from_All}
use Rattle.std.specs.List.{All}
use Rattle.std.specs.Simd.{first_chunks}
use Rattle.block_store.specs.Range.{bytes_of, units_of, overwritten}
use Rattle.block_store.specs.Unit.{IsUnit}
use Rattle.block_store.proofs.Cuts.{chunks_of_units, length-first_chunks}
use Rattle.block_store.proofs.Overwrites.{two_in_a_row}
use Rattle.file_disk.specs.Replay.{Replayed, after_write}
use Rattle.file_disk.proofs.Bytes.{length-bytes}

pub whole_written : (was : Replayed) (first : ℕ) (units : List (List ℕ)) → All IsUnit units
    → (after_write (first * 512) (bytes_of units) was).contents ≡ overwritten was.contents first units
whole_written was first units all =
    let aligned : first * 512 % 512 ≡ 0 = omega arith in
    let place : first * 512 / 512 ≡ first = omega arith in
    let long = length-bytes units all in
    let many : length (bytes_of units) / 512 ≡ length units = omega (arith, long) in
    ap (λ n. overwritten was.contents (first * 512 / 512) (units_of (take n was.begun ++ bytes_of units))) aligned
    ∙ ap (λ n. overwritten was.contents n (units_of (bytes_of units))) place
    ∙ ap (λ n. overwritten was.contents first (first_chunks 512 n (bytes_of units))) many
    ∙ ap (overwritten was.contents first) (chunks_of_units units (recursion_from_All IsUnit units all))

-- more chunks are those of the front and those of what is behind
chunks_more : (front back : ℕ) (bytes : List ℕ)
    → first_chunks 512 (front + back) bytes ≡ first_chunks 512 front bytes ++ first_chunks 512 back (drop (front * 512) bytes)
chunks_more zero back bytes =
    let none : zero + back ≡ back = omega arith in
    let start : zero * 512 ≡ 0 = omega arith in
    ap (λ n. first_chunks 512 n bytes) none ∙ sym (ap (λ n. first_chunks 512 back (drop n bytes)) start)
chunks_more (suc front) back bytes =
    let more : suc front + back ≡ suc (front + back) = omega arith in
    let place : 512 + front * 512 ≡ suc front * 512 = omega arith in
    ap (λ n. first_chunks 512 n bytes) more
    ∙ ap (λ us. take 512 bytes ∷ us) (chunks_more front back (drop 512 bytes))
    ∙ ap (λ s. (take 512 bytes ∷ first_chunks 512 front (drop 512 bytes)) ++ first_chunks 512 back s) (drop-drop (front * 512) 512 bytes)
    ∙ ap (λ n. (take 512 bytes ∷ first_chunks 512 front (drop 512 bytes)) ++ first_chunks 512 back (drop n bytes)) place

-- chunks of a front
chunks_of_front : (count : ℕ) (front back : List ℕ) → count * 512 ≤ length front → first_chunks 512 count (front ++ back) ≡ first_chunks 512 count front
chunks_of_front zero front back within = refl
chunks_of_front (suc count) front back within =
    let some : 512 ≤ length front = omega arith in
    ap (λ unit. unit ∷ first_chunks 512 count (drop 512 (front ++ back))) (take-append-le 512 front back some)
    ∙ ap (λ s. take 512 front ∷ first_chunks 512 count s) (drop-append-le 512 front back some)
    ∙ ap (λ us. take 512 front ∷ us) (chunks_of_front count (drop 512 front) back (omega (arith, length-drop 512 front)))

module _ (was : Replayed) (offset : ℕ) (front back : List ℕ) (aligned : offset % 512 ≡ 0) where
  -- the bytes of a write that begins at a unit
  alone : (bytes : List ℕ) → take (offset % 512) was.begun ++ bytes ≡ bytes
  alone bytes = ap (λ n. take n was.begun ++ bytes) aligned

  begun_first : (after_write offset front was).begun ≡ drop (length front / 512 * 512) front
  begun_first = ap (λ s. drop (length s / 512 * 512) s) (alone front)

  contents_first : (after_write offset front was).contents ≡ overwritten was.contents (offset / 512) (units_of front)
  contents_first = ap (λ s. overwritten was.contents (offset / 512) (units_of s)) (alone front)

  -- the bytes from the start of the unit on that was begun
  bytes_then : take ((offset + length front) % 512) (after_write offset front was).begun ++ back ≡ drop (length front / 512 * 512) (front ++ back)
  bytes_then =
      let place : (offset + length front) % 512 ≡ length front % 512 = omega (arith, aligned) in
      let begun = drop (length front / 512 * 512) front in
      ap (λ s. take ((offset + length front) % 512) s ++ back) begun_first
      ∙ ap (λ n. take n begun ++ back) place
      ∙ ap (λ s. s ++ back) (take_all (length front % 512) begun (omega (arith, length-drop (length front / 512 * 512) front)))
      ∙ sym (drop-append-le (length front / 512 * 512) front back (omega arith))

  both_long : length (drop (length front / 512 * 512) (front ++ back)) ≡ length front + length back - length front / 512 * 512
  both_long = length-drop (length front / 512 * 512) (front ++ back) ∙ ap (λ n. n - length front / 512 * 512) (length-append front back)

  pub cut_begun : (after_write (offset + length front) back (after_write offset front was)).begun ≡ (after_write offset (front ++ back) was).begun
  cut_begun =
      let all = front ++ back in
      let behind = drop (length front / 512 * 512) all in
      let place : length front / 512 * 512 + (length front + length back - length front / 512 * 512) / 512 * 512 ≡ (length front + length back) / 512 * 512 = omega arith in
      ap (λ s. drop (length s / 512 * 512) s) bytes_then
      ∙ ap (λ n. drop (n / 512 * 512) behind) both_long
      ∙ drop-drop ((length front + length back - length front / 512 * 512) / 512 * 512) (length front / 512 * 512) all
      ∙ ap (λ n. drop n all) place
      ∙ ap (λ n. drop (n / 512 * 512) all) (sym (length-append front back))
      ∙ sym (ap (λ s. drop (length s / 512 * 512) s) (alone all))

  -- the units of both are those of the front, and those from the unit on that was begun
  units_then : units_of (front ++ back) ≡ units_of front ++ units_of (drop (length front / 512 * 512) (front ++ back))
  units_then =
      let all = front ++ back in
      let many = (length front + length back - length front / 512 * 512) / 512 in
      let sum : (length front + length back) / 512 ≡ length front / 512 + many = omega arith in
      ap (λ n. first_chunks 512 (n / 512) all) (length-append front back)
      ∙ ap (λ n. first_chunks 512 n all) sum
      ∙ chunks_more (length front / 512) many all
      ∙ ap (λ us. us ++ first_chunks 512 many (drop (length front / 512 * 512) all)) (chunks_of_front (length front / 512) front back (omega arith))
      ∙ ap (λ n. units_of front ++ first_chunks 512 (n / 512) (drop (length front / 512 * 512) all)) (sym both_long)

  pub cut_contents : offset + length front + length back ≤ length was.contents * 512
      → (after_write (offset + length front) back (after_write offset front was)).contents ≡ (after_write offset (front ++ back) was).contents
  cut_contents within =
      let behind = drop (length front / 512 * 512) (front ++ back) in
      let place : (offset + length front) / 512 ≡ offset / 512 + length front / 512 = omega (arith, aligned) in
      let front_many : length (units_of front) ≡ length front / 512 = length-first_chunks (length front / 512) front in
      let behind_many : length (units_of behind) ≡ length behind / 512 = length-first_chunks (length behind / 512) behind in
      ap (λ s. overwritten (after_write offset front was).contents ((offset + length front) / 512) (units_of s)) bytes_then
      ∙ ap (λ c. overwritten c ((offset + length front) / 512) (units_of behind)) contents_first
      ∙ ap (λ n. overwritten (overwritten was.contents (offset / 512) (units_of front)) n (units_of behind)) place
      ∙ ap (λ n. overwritten (overwritten was.contents (offset / 512) (units_of front)) (offset / 512 + n) (units_of behind)) (sym front_many)
      ∙ two_in_a_row was.contents (units_of front) (units_of behind) (offset / 512) (omega (arith, within, aligned, front_many, behind_many, both_long))
      ∙ ap (overwritten was.contents (offset / 512)) (sym units_then)
      ∙ sym (ap (λ s. overwritten was.contents (offset / 512) (units_of s)) (alone (front ++ back)))
