-- The records of a page, one after another, are what stands behind its header.
use Rattle.std.proofs.Common.{◌≡◌, ℕ, zero, suc, ◌+◌, ◌-◌, ◌*◌, ◌≤◌, All, List, [], ◌∷◌, ◌++◌, length, take, drop, sym, ap, ◌∙◌, inl, inr, arith, length-drop}
use Rattle.std.proofs.lemmas.Bool.{cases_lt}
use Rattle.std.proofs.lemmas.Bool.Decides.{nat_tests}
use Rattle.std.proofs.lemmas.List.{drop-drop, length-take-le, take-append-drop}
use Rattle.std.proofs.lemmas.List.Concat.{flat_map-cons}
use Rattle.std.proofs.lemmas.List.Elements.{All-cons, All-nil, All-same}
use Rattle.std.proofs.Math.Seq.{take-add}
use Rattle.host_pages.specs.DiscoveryPage.{IsDiscoveryPage, record_at, record_count, record_place, records_from}
use Rattle.host_pages.specs.Laws.{RecordsAreJoined, joined}
use Rattle.host_pages.proofs.Lists.{records_from-more, records_from-none}

-- a page has room for the records that it counts
room_of : (page : List ℕ) → IsDiscoveryPage page → record_place (record_count page) ≤ length page
room_of page is =
    elim (cases_lt (length page) (record_place (record_count page))) [
      | inl short ↦ absurd (grind (arith, nat_tests, is))
      | inr room ↦ room
    ]

record_len : (page : List ℕ) (n : ℕ) → record_place n + 1024 ≤ length page → length (record_at page n) ≡ 1024
record_len page n room =
    let behind = length-drop (record_place n) page in
    let len : record_place n + 1024 - record_place n ≡ 1024 = omega arith in
    ap (λ k. length (take k (drop (record_place n) page))) len ∙ length-take-le 1024 (drop (record_place n) page) (omega (arith, behind))

-- of 1,024 bytes
abbrev IsLong : List ℕ → Type 0
IsLong r = length r ≡ 1024

each_record : (page : List ℕ) (first count : ℕ) → record_place (first + count) ≤ length page → All (λ r. length r ≡ 1024) (records_from page first count)
each_record page first zero room = All-same IsLong (records_from page first 0) [] (records_from-none page first) (All-nil IsLong)
each_record page first (suc n) room =
    let more = records_from-more page first (suc n) (omega arith) in
    let same : suc n - 1 ≡ n = omega arith in
    let later = records_from page (first + 1) n in
    All-same IsLong (records_from page first (suc n)) (record_at page first ∷ later) (more ∙ ap (λ k. record_at page first ∷ records_from page (first + 1) k) same)
    (All-cons IsLong (record_at page first) later (record_len page first (omega arith)) (each_record page (first + 1) n (omega arith)))

records_join : (page : List ℕ) (first count : ℕ) → joined (records_from page first count) ≡ take (count * 1024) (drop (record_place first) page)
records_join page first zero = ap joined (records_from-none page first)
records_join page first (suc n) =
    let same : suc n - 1 ≡ n = omega arith in
    let len : record_place first + 1024 - record_place first ≡ 1024 = omega arith in
    let next : record_place first + 1024 ≡ record_place (first + 1) = omega arith in
    let all : 1024 + n * 1024 ≡ suc n * 1024 = omega arith in
    let behind = drop (record_place first) page in
    ap joined (records_from-more page first (suc n) (omega arith))
    ∙ flat_map-cons (λ part. part) (record_at page first) (records_from page (first + 1) (suc n - 1))
    ∙ ap (λ k. record_at page first ++ joined (records_from page (first + 1) k)) same
    ∙ ap (λ later. record_at page first ++ later) (records_join page (first + 1) n)
    ∙ ap (λ k. take k behind ++ take (n * 1024) (drop (record_place (first + 1)) page)) len
    ∙ ap (λ k. take 1024 behind ++ take (n * 1024) (drop k page)) (sym next)
    ∙ ap (λ later. take 1024 behind ++ take (n * 1024) later) (sym (drop-drop 1024 (record_place first) page))
    ∙ sym (take-add 1024 (n * 1024) behind)
    ∙ ap (λ k. take k behind) all

pub records_are_joined : RecordsAreJoined
records_are_joined page is =
    let count = record_count page in
    let behind = drop 1024 page in
    record {
      each = each_record page 0 count (omega (arith, room_of page is));
      whole = (
        drop (count * 1024) behind,
        sym (take-append-drop 1024 page)
            ∙ ap (λ rest. take 1024 page ++ rest) (sym (take-append-drop (count * 1024) behind))
            ∙ ap (λ records. take 1024 page ++ (records ++ drop (count * 1024) behind)) (sym (records_join page 0 count)),
      );
    }
