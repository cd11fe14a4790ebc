-- What a try has read stays the front of a page.
use Rattle.std.proofs.Common.{◌≡◌, ℕ, suc, ◌+◌, ◌-◌, ◌<◌, ◌≤◌, ◌==◌, ◌%◌, min, true, false, List, [], ◌∷◌, ◌++◌, length, drop, refl, sym, subst, ap, ◌∙◌, inl, inr, arith, None, length-append, length-drop}
use Rattle.std.specs.Prelude.{nat_lt}
use Rattle.std.proofs.lemmas.Bool.{cases_lt}
use Rattle.std.proofs.lemmas.Bool.Decides.{nat_tests}
use Rattle.std.proofs.lemmas.List.{drop-append-le}
use Rattle.byteorder.specs.Endian.{little_number}
use Rattle.byteorder.specs.Numbers.{little_from-append}
use Rattle.nvt_fields.specs.Field.{field_at}
use Rattle.host_pages.specs.DiscoveryPage.{IsDiscoveryPage, record_count, record_format, record_place}
use Rattle.host_pages.specs.declared.verdict.Verdict.{Verdict}
use Rattle.host_pages.specs.declared.verdict.Verdict.TheVariants.{Ends, Fails, GoesOn, Settles}
use Rattle.host_pages.specs.Discover.{IsAsking, after, after_verdict, answers_left, asks}
use Rattle.host_pages.specs.Reads.{header_read}
use Rattle.host_pages.specs.Tries.{bytes_in}
use Rattle.host_pages.specs.Verdict.{Given, IsBegun, IsHeaded, asked_of, answer_fault, left_of, verdict}
use Rattle.host_pages.proofs.Verdicts.{first_goes, none_left_is_whole, records_goes, settles_by}

-- the next read, by what is left
pub asked_some : (read : List ℕ) → 0 < left_of read → asked_of read ≡ record { offset = length read; len = min 32768 (left_of read) }
asked_some read some = let is : nat_lt 0 (left_of read) ≡ true = grind (arith, nat_tests, some) in rw is refl

pub asked_none : (read : List ℕ) → left_of read ≡ 0 → asked_of read ≡ header_read
asked_none read none = let is : nat_lt 0 (left_of read) ≡ false = grind (arith, nat_tests, none) in rw is refl

-- a field of the front is the same in more
pub field_at-append : (n at : ℕ) (read more : List ℕ) → at + n ≤ length read → field_at n at (read ++ more) ≡ field_at n at read
unfolding field_at
field_at-append n at read more within =
    ap (little_number n) (drop-append-le at read more (omega (arith, within)))
    ∙ little_from-append n (drop at read) more (omega (arith, within, length-drop at read))

-- what a header is
pub headed_from : (h : List ℕ) → answer_fault h ≡ None → (length h ≡ 1024) × IsHeaded h
headed_from h none =
    let len : length h ≡ 1024 = grind (arith, nat_tests, none) in
    let format : record_format h ≡ 0 = grind (arith, nat_tests, none) in
    let few : record_count h ≤ 1024 = grind (arith, nat_tests, none) in
    (len, record { long = omega (arith, len); whole = omega (arith, len); format = format; few = few; most = omega (arith, len) })

headed_more : (read more : List ℕ) → IsHeaded read → length more % 1024 ≡ 0 → length read + length more ≤ record_place (record_count read) → IsHeaded (read ++ more)
headed_more read more is records room =
    let long = is.long in
    let format = field_at-append 2 16 read more (omega (arith, long)) in
    let count = field_at-append 8 8 read more (omega (arith, long)) in
    let of = is.format in
    let few = is.few in
    let whole = is.whole in
    record {
      long = omega (arith, long, length-append read more);
      whole = omega (arith, whole, records, length-append read more);
      format = format ∙ of;
      few = omega (arith, count, few);
      most = omega (arith, room, count, length-append read more);
    }

-- what is left of a header and records behind it
pub left_of-some : (read : List ℕ) → 0 < length read → left_of read ≡ record_place (record_count read) - length read
left_of-some [] some = absurd (omega (arith, some))
left_of-some (b ∷ read) some = refl

pub headed_goes : (read : List ℕ) (a : Given) → IsHeaded read → verdict read a ≡ GoesOn → IsHeaded (read ++ bytes_in a)
headed_goes read a headed goes =
    let long = headed.long in
    let whole = headed.whole in
    let most = headed.most in
    let found = records_goes read a (omega (arith, long)) goes in
    let of = found.len in
    let left = left_of-some read (omega (arith, long)) in
    let more = ap (λ x. length (bytes_in x)) found.is in
    headed_more read (bytes_in a) headed (omega (arith, more, of, left, whole)) (omega (arith, more, of, left, most))

pub begun_more : (read : List ℕ) (a : Given) → IsBegun read → verdict read a ≡ GoesOn → IsBegun (read ++ bytes_in a)
begun_more read a (inl none) goes =
    let found = first_goes a (ap (λ r. verdict r a) (sym none) ∙ goes) in
    let is : read ++ bytes_in a ≡ found.0 = ap (λ r. r ++ bytes_in a) none ∙ ap bytes_in found.1 in
    inr (subst IsHeaded (sym is) (headed_from found.0 found.2).1)
begun_more read a (inr headed) goes = inr (headed_goes read a headed goes)

pub page_settled : (read : List ℕ) (a : Given) → IsBegun read → verdict read a ≡ Settles → IsDiscoveryPage read
page_settled read a (inl none) settles =
    absurd ((settles_by read a settles).some none)
page_settled read a (inr headed) settles =
    let by = settles_by read a settles in
    let whole = none_left_is_whole read by.some by.none_left in
    let format = headed.format in
    let few = headed.few in
    grind (arith, nat_tests, whole, format, few)

-- the length of a read is one that a log page may be read by
pub asked_fits : (read : List ℕ) → IsBegun read → (4 ≤ (asked_of read).len) × ((asked_of read).len % 4 ≡ 0)
asked_fits read (inl none) = subst (λ r. (4 ≤ (asked_of r).len) × ((asked_of r).len % 4 ≡ 0)) (sym none) (omega arith, refl)
asked_fits read (inr headed) =
    let long = headed.long in
    let whole = headed.whole in
    let left = left_of-some read (omega (arith, long)) in
    elim (cases_lt 0 (left_of read)) [
      | inl some ↦
          let is : (asked_of read).len ≡ min 32768 (left_of read) = ap (λ r. r.len) (asked_some read some) in
          (omega (arith, is, some, left, whole), omega (arith, is, some, left, whole))
      | inr past ↦
          let is : (asked_of read).len ≡ 1024 = ap (λ r. r.len) (asked_none read (omega (arith, past))) in
          (omega (arith, is), omega (arith, is))
    ]

-- ---- answers that are left

begun-most : (read : List ℕ) → IsBegun read → length read ≤ 1049600
begun-most read (inl none) = let len = ap length none in omega (arith, len)
begun-most read (inr headed) = let most = headed.most in let few = headed.few in omega (arith, most, few)

-- an answer that lets a try go on has bytes
goes-some : (read : List ℕ) (a : Given) → IsBegun read → verdict read a ≡ GoesOn → 0 < length (bytes_in a)
goes-some read a (inl none) goes =
    let found = first_goes a (ap (λ r. verdict r a) (sym none) ∙ goes) in
    let len = (headed_from found.0 found.2).0 in
    let is = ap (λ x. length (bytes_in x)) found.1 in
    omega (arith, len, is)
goes-some read a (inr headed) goes =
    let long = headed.long in
    let found = records_goes read a (omega (arith, long)) goes in
    let of = found.len in
    let some = found.some in
    let is = ap (λ x. length (bytes_in x)) found.is in
    omega (arith, of, some, is)

-- a further answer leaves fewer
pub fewer_left : (a : Given) (failed : ℕ) (read : List ℕ) → IsBegun read → failed < 8 → IsAsking (after a (asks failed read))
    → answers_left (after a (asks failed read)) < answers_left (asks failed read)
fewer_left a failed read begun below asking = by_verdict (verdict read a) refl asking
  where
    most : length read ≤ 1049600
    most = begun-most read begun

    by_verdict : (v : Verdict) → verdict read a ≡ v → IsAsking (after_verdict v a failed read) → answers_left (after_verdict v a failed read) < answers_left (asks failed read)
    by_verdict GoesOn is asking =
        let some = goes-some read a begun is in
        omega (arith, most, some, below, length-append read (bytes_in a))
    by_verdict Settles is asking = omega (arith, most, below)
    by_verdict Fails is asking =
        elim (cases_lt (suc failed) 8) [
          | inl more ↦ let goes : (suc failed == 8) ≡ false = grind (arith, nat_tests, more) in rw goes (omega (arith, most, below))
          | inr all ↦ let ends : (suc failed == 8) ≡ true = grind (arith, nat_tests, all, below) in rw ends (omega (arith, most, below))
        ]
    by_verdict (Ends fault) is asking = omega (arith, most, below)
