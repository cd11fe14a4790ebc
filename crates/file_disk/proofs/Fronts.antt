-- What writes in a row leave.
use Rattle.std.proofs.Common.{◌≡◌, ℕ, suc, ◌+◌, ◌-◌, ◌*◌, ◌/◌, ◌%◌, ◌≤◌, List, [], ◌∷◌, ◌++◌, refl, sym, ◌∙◌, ap, arith, length, take, drop, append_assoc}
use Rattle.std.proofs.lemmas.List.{length-take-le, length-drop, take-append-drop, drop-append-le, take_all, take_at, drop_at, drop-drop}
use Rattle.std.proofs.lemmas.List.Elements.{All-take, All-drop, recursion_from_All}
use Rattle.std.proofs.Math.Seq.{take-add}
use Rattle.std.specs.List.{All, AllByRecursion}
use Rattle.std.specs.Simd.{first_chunks}
use Rattle.block_store.specs.Range.{bytes_of, units_of, units_at, overwritten}
use Rattle.block_store.specs.Unit.{IsUnit}
use Rattle.block_store.proofs.Shown.{part_written}
use Rattle.file_disk.specs.Replay.{Replayed, after_write}
use Rattle.file_disk.proofs.Bytes.{length-bytes, range_bytes, part_of_range}

-- units and bytes behind them are cut into these units
pub chunks_in_front : (units : List (List ℕ)) (rest : List ℕ) → AllByRecursion IsUnit units
    → first_chunks 512 (length units) (bytes_of units ++ rest) ≡ units
chunks_in_front [] rest all = refl
chunks_in_front (unit ∷ units) rest (is_unit, all) =
    let behind = bytes_of units ++ rest in
    ap (λ bytes. first_chunks 512 (suc (length units)) bytes) (append_assoc unit (bytes_of units) rest)
    ∙ ap (λ u. u ∷ first_chunks 512 (length units) (drop 512 (unit ++ behind))) (take_at unit behind 512 is_unit)
    ∙ ap (λ bytes. unit ∷ first_chunks 512 (length units) bytes) (drop_at unit behind 512 is_unit)
    ∙ ap (λ us. unit ∷ us) (chunks_in_front units rest all)

-- the units that the bytes between two places are cut into
pub chunks_between : (units : List (List ℕ)) → All IsUnit units → (done from count : ℕ) → from + count ≤ length units → (from + count) * 512 ≤ done
    → first_chunks 512 count (drop (from * 512) (take done (bytes_of units))) ≡ units_at units from count
chunks_between units all done from count within room =
    let bytes = drop (from * 512) (take done (bytes_of units)) in
    let part = units_at units from count in
    let none : 0 + from * 512 ≡ from * 512 = omega arith in
    let part_long : length part ≡ count = length-take-le count (drop from units) (omega (arith, length-drop from units)) in
    let each : All IsUnit part = All-take IsUnit count (drop from units) (All-drop IsUnit from units all) in
    let front : take (count * 512) bytes ≡ bytes_of part =
    part_of_range (bytes_of units) done 0 (from * 512) (count * 512) (omega arith)
    ∙ ap (λ n. take (count * 512) (drop n (bytes_of units))) none
    ∙ range_bytes units all from count within in
    ap (λ s. first_chunks 512 count s) (sym (take-append-drop (count * 512) bytes))
    ∙ ap (λ s. first_chunks 512 count (s ++ drop (count * 512) bytes)) front
    ∙ ap (λ n. first_chunks 512 n (bytes_of part ++ drop (count * 512) bytes)) (sym part_long)
    ∙ chunks_in_front part (drop (count * 512) bytes) (recursion_from_All IsUnit part each)

-- a write behind those that were made of some units
module _ (contents units : List (List ℕ)) (all : All IsUnit units) (was : Replayed) (first done count : ℕ) (fits : first + length units ≤ length contents) (within : done + count ≤ length units * 512) (is_begun : take (done % 512) was.begun ≡ drop (done / 512 * 512) (take done (bytes_of units))) where
  long : length (bytes_of units) ≡ length units * 512
  long = length-bytes units all

  done_long : length (take done (bytes_of units)) ≡ done
  done_long = length-take-le done (bytes_of units) (omega (arith, long))

  more_long : length (take (done + count) (bytes_of units)) ≡ done + count
  more_long = length-take-le (done + count) (bytes_of units) (omega (arith, long))

  -- the bytes from the start of the unit on that was begun
  begun_is : take ((first * 512 + done) % 512) was.begun ++ take count (drop done (bytes_of units)) ≡ drop (done / 512 * 512) (take (done + count) (bytes_of units))
  begun_is =
      let place : (first * 512 + done) % 512 ≡ done % 512 = omega arith in
      ap (λ n. take n was.begun ++ take count (drop done (bytes_of units))) place
      ∙ ap (λ s. s ++ take count (drop done (bytes_of units))) is_begun
      ∙ sym (drop-append-le (done / 512 * 512) (take done (bytes_of units)) (take count (drop done (bytes_of units))) (omega (arith, done_long)))
      ∙ ap (λ s. drop (done / 512 * 512) s) (sym (take-add done count (bytes_of units)))

  begun_long : length (drop (done / 512 * 512) (take (done + count) (bytes_of units))) ≡ done + count - done / 512 * 512
  begun_long = length-drop (done / 512 * 512) (take (done + count) (bytes_of units)) ∙ ap (λ n. n - done / 512 * 512) more_long

  cut_is : units_of (drop (done / 512 * 512) (take (done + count) (bytes_of units))) ≡ units_at units (done / 512) ((done + count) / 512 - done / 512)
  cut_is =
      let bytes = drop (done / 512 * 512) (take (done + count) (bytes_of units)) in
      let many : (done + count - done / 512 * 512) / 512 ≡ (done + count) / 512 - done / 512 = omega arith in
      ap (λ n. first_chunks 512 (n / 512) bytes) begun_long
      ∙ ap (λ n. first_chunks 512 n bytes) many
      ∙ chunks_between units all (done + count) (done / 512) ((done + count) / 512 - done / 512) (omega arith) (omega arith)

  pub next_contents : was.contents ≡ overwritten contents first (take (done / 512) units)
      → (after_write (first * 512 + done) (take count (drop done (bytes_of units))) was).contents ≡ overwritten contents first (take ((done + count) / 512) units)
  next_contents is =
      let place : (first * 512 + done) / 512 ≡ first + done / 512 = omega arith in
      let sum : done / 512 + ((done + count) / 512 - done / 512) ≡ (done + count) / 512 = omega arith in
      part_written contents was.contents _ units first (done / 512) ((done + count) / 512 - done / 512) fits (omega arith) is
      (ap (λ n. overwritten was.contents n (units_of (take ((first * 512 + done) % 512) was.begun ++ take count (drop done (bytes_of units))))) place
      ∙ ap (λ s. overwritten was.contents (first + done / 512) (units_of s)) begun_is
      ∙ ap (λ us. overwritten was.contents (first + done / 512) us) cut_is)
      ∙ ap (λ n. overwritten contents first (take n units)) sum

  pub next_begun : take ((done + count) % 512) (after_write (first * 512 + done) (take count (drop done (bytes_of units))) was).begun
      ≡ drop ((done + count) / 512 * 512) (take (done + count) (bytes_of units))
  next_begun =
      let bytes = drop (done / 512 * 512) (take (done + count) (bytes_of units)) in
      let all_bytes = take (done + count) (bytes_of units) in
      let place : done / 512 * 512 + (done + count - done / 512 * 512) / 512 * 512 ≡ (done + count) / 512 * 512 = omega arith in
      let rest_long = length-drop ((done + count) / 512 * 512) all_bytes in
      ap (λ s. take ((done + count) % 512) (drop (length s / 512 * 512) s)) begun_is
      ∙ ap (λ n. take ((done + count) % 512) (drop (n / 512 * 512) bytes)) begun_long
      ∙ ap (λ s. take ((done + count) % 512) s) (drop-drop ((done + count - done / 512 * 512) / 512 * 512) (done / 512 * 512) all_bytes)
      ∙ ap (λ n. take ((done + count) % 512) (drop n all_bytes)) place
      ∙ take_all ((done + count) % 512) (drop ((done + count) / 512 * 512) all_bytes) (omega (arith, rest_long, more_long))
