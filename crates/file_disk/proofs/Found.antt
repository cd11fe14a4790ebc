-- What reads in a row find, beside what the contents have.
use Rattle.std.proofs.Common.{◌≡◌, inl, inr, refl, ℕ, ◌+◌, ◌*◌, ◌≤◌, List, ◌++◌, sym, ◌∙◌, ap, arith, length, take, drop}
use Rattle.std.proofs.lemmas.Bool.{cases_Bool, false≢true}
use Rattle.std.proofs.lemmas.List.{length-take-le, take-take}
use Rattle.std.proofs.lemmas.Slice.{take-put_mid}
use Rattle.std.proofs.lemmas.Slice.Eq.{bytes_eq-Decides}
use Rattle.std.proofs.Math.Seq.{take-add, take-append-add}
use Rattle.std.specs.Prelude.{bytes_eq}
use Rattle.std.specs.List.{All}
use borrow.Rule.Slice.PartMut.{put_mid}
use Rattle.block_store.specs.Faults.{Strays}
use Rattle.block_store.specs.Range.{bytes_of, units_at}
use Rattle.block_store.specs.Unit.{IsUnit}
use Rattle.block_store.proofs.Strays.{strays_in_a_row, length-range}
use Rattle.file_disk.specs.Replay.{Replayed, strays_after}
use Rattle.file_disk.proofs.Bytes.{range_bytes, part_of_range}

-- one read
pub read_strays : (offset : ℕ) (bytes : List ℕ) (was : Replayed)
    → Strays bytes (take (length bytes) (drop offset (bytes_of was.contents))) was.strays (strays_after offset bytes was)
unfolding strays_after
read_strays offset bytes was =
    let wanted = take (length bytes) (drop offset (bytes_of was.contents)) in
    elim (cases_Bool (bytes_eq bytes wanted)) [
      | inl same ↦ rw same (inl ((bytes_eq-Decides bytes wanted).0 same, refl))
      | inr other ↦ rw other (inr (λ is. false≢true (sym other ∙ (bytes_eq-Decides bytes wanted).1 is), omega arith))
    ]

-- the front of a list, after a write behind it
pub front_put : (done count k : ℕ) (out part : List ℕ) → done ≤ length out → count ≤ length part
    → take (done + count) (put_mid done k out part) ≡ take done out ++ take count part
front_put done count k out part room few =
    let long = length-take-le done out room in
    sym (take-take (done + count) (done + length part) (put_mid done k out part) (omega arith))
    ∙ ap (λ s. take (done + count) s) (take-put_mid done k out part (done + length part) refl room)
    ∙ ap (λ n. take (n + count) (take done out ++ part)) (sym long)
    ∙ take-append-add (take done out) part count

-- a read behind those that were made of a range
pub next_read : (contents : List (List ℕ)) (was : Replayed) (out part : List ℕ) (first units done count k old : ℕ)
    → All IsUnit contents → was.contents ≡ contents → first + units ≤ length contents → length out ≡ units * 512
    → done + count ≤ units * 512 → count ≤ length part
    → Strays (take done out) (take done (bytes_of (units_at contents first units))) old was.strays
    → Strays (take (done + count) (put_mid done k out part)) (take (done + count) (bytes_of (units_at contents first units)))
    old (strays_after (first * 512 + done) (take count part) was)
next_read contents was out part first units done count k old all same within long room few before =
    let wanted = bytes_of (units_at contents first units) in
    let new = strays_after (first * 512 + done) (take count part) was in
    let piece_long : length (take count part) ≡ count = length-take-le count part few in
    let wanted_long : length wanted ≡ units * 512 = length-range contents first units all within in
    let lengths : length (take done out) ≡ length (take done wanted) =
    length-take-le done out (omega arith) ∙ sym (length-take-le done wanted (omega arith)) in
    let is_wanted : take (length (take count part)) (drop (first * 512 + done) (bytes_of was.contents)) ≡ take count (drop done wanted) =
    ap (λ n. take n (drop (first * 512 + done) (bytes_of was.contents))) piece_long
    ∙ ap (λ cs. take count (drop (first * 512 + done) (bytes_of cs))) same
    ∙ sym (part_of_range (bytes_of contents) (units * 512) (first * 512) done count room)
    ∙ ap (λ s. take count (drop done s)) (range_bytes contents all first units within) in
    let here : Strays (take count part) (take count (drop done wanted)) was.strays new =
    rw is_wanted at (read_strays (first * 512 + done) (take count part) was) in
    let out_is = front_put done count k out part (omega arith) few in
    let wanted_is = take-add done count wanted in
    rw (out_is, wanted_is)
    (strays_in_a_row (take done out) (take count part) (take done wanted) (take count (drop done wanted)) old was.strays new lengths before here)
