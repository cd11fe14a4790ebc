-- What a verdict says of the answer that it is on.
use Rattle.std.proofs.Common.{◌≡◌, ◌≢◌, ℕ, ◌<◌, ◌≤◌, ◌==◌, min, Bool, true, false, List, [], ◌∷◌, length, refl, sym, subst, ap, ◌∙◌, inl, inr, arith, Option, None, Some}
use Rattle.std.specs.Prelude.{Ok, Err, nat_lt}
use Rattle.std.proofs.lemmas.Bool.{cases_Bool, cases_lt, false≢true}
use Rattle.std.proofs.lemmas.Bool.Decides.{nat_tests}
use Rattle.host_pages.specs.declared.bad_page.BadPage.{BadPage}
use Rattle.host_pages.specs.DiscoveryPage.{genctr_of, record_count, record_place}
use Rattle.host_pages.specs.declared.verdict.Verdict.{Verdict}
use Rattle.host_pages.specs.declared.verdict.Verdict.TheVariants.{GoesOn, Settles}
use Rattle.host_pages.specs.Verdict.{Given, are_alike, compared, header_by, answer_fault, header_verdict, is_past_end, left_of, records_verdict, verdict}

-- ---- what a verdict says of the answer

abbrev is_on : Verdict → Bool
is_on GoesOn = true
is_on _ = false

abbrev is_settled : Verdict → Bool
is_settled Settles = true
is_settled _ = false

not_on : (v : Verdict) → is_on v ≡ false → v ≢ GoesOn
not_on v off is = false≢true (sym off ∙ ap is_on is)

-- of records
pub record Records (read : List ℕ) (a : Given) : Type 0 where
  pub bytes : List ℕ
  pub is : a ≡ Ok bytes
  pub some : 0 < left_of read
  pub len : length bytes ≡ min 32768 (left_of read)

records_go : (len : ℕ) (a : Given) → records_verdict len a ≡ GoesOn → (bytes : List ℕ) × (a ≡ Ok bytes) × (length bytes ≡ len)
records_go len (Ok bytes) is =
    elim (cases_Bool (length bytes == len)) [
      | inl same ↦ (bytes, refl, grind (arith, nat_tests, same))
      | inr other ↦ absurd (false≢true (ap is_on (rw other at is)))
    ]
records_go len (Err s) is =
    elim (cases_Bool (is_past_end s)) [
      | inl past ↦ absurd (false≢true (ap is_on (rw past at is)))
      | inr other ↦ absurd (false≢true (ap is_on (rw other at is)))
    ]

-- of a header
header_goes : (read : List ℕ) (a : Given) → header_verdict read a ≡ GoesOn → (h : List ℕ) × (a ≡ Ok h) × (answer_fault h ≡ None) × (read ≡ [])
header_goes read (Err s) is = absurd (false≢true (ap is_on is))
header_goes read (Ok h) is = by_fault (answer_fault h) refl is
  where
    by_read : (r : List ℕ) → r ≡ read → answer_fault h ≡ None → compared r h ≡ GoesOn → (x : List ℕ) × (◌≡◌ {A = Given} (Ok h) (Ok x)) × (answer_fault x ≡ None) × (read ≡ [])
    by_read [] same none goes = (h, refl, none, sym same)
    by_read (b ∷ r) same none goes =
        elim (cases_Bool (are_alike (b ∷ r) h)) [
          | inl alike ↦ absurd (false≢true (ap is_on (rw alike at goes)))
          | inr apart ↦ absurd (false≢true (ap is_on (rw apart at goes)))
        ]

    by_fault : (f : Option BadPage) → answer_fault h ≡ f → header_by f read h ≡ GoesOn → (x : List ℕ) × (◌≡◌ {A = Given} (Ok h) (Ok x)) × (answer_fault x ≡ None) × (read ≡ [])
    by_fault None none goes = by_read read refl none goes
    by_fault (Some f) some goes = absurd (false≢true (ap is_on goes))

-- a verdict, by what is left
of_records : (read : List ℕ) (a : Given) → 0 < left_of read → verdict read a ≡ records_verdict (min 32768 (left_of read)) a
of_records read a some = let is : nat_lt 0 (left_of read) ≡ true = grind (arith, nat_tests, some) in rw is refl

of_header : (read : List ℕ) (a : Given) → left_of read ≡ 0 → verdict read a ≡ header_verdict read a
of_header read a none = let is : nat_lt 0 (left_of read) ≡ false = grind (arith, nat_tests, none) in rw is refl

pub first_goes : (a : Given) → verdict [] a ≡ GoesOn → (h : List ℕ) × (a ≡ Ok h) × (answer_fault h ≡ None)
first_goes a is = let found = header_goes [] a is in (found.0, found.1, found.2)

pub records_goes : (read : List ℕ) (a : Given) → 0 < length read → verdict read a ≡ GoesOn → Records read a
records_goes read a some is =
    elim (cases_lt 0 (left_of read)) [
      | inl left ↦
          let found = records_go (min 32768 (left_of read)) a (sym (of_records read a left) ∙ is) in
          record { bytes = found.0; is = found.1; some = left; len = found.2 }
      | inr past ↦
          let none : left_of read ≡ 0 = omega (arith, past) in
          let found = header_goes read a (sym (of_header read a none) ∙ is) in
          let empty = ap length found.3 in
          absurd (omega (arith, some, empty))
    ]

-- .. that settles: nothing was left of the page, whose header came before
of_settling : (read : List ℕ) (a : Given) → header_verdict read a ≡ Settles → (h : List ℕ) × (a ≡ Ok h) × (answer_fault h ≡ None) × (read ≢ []) × (are_alike read h ≡ true)
of_settling read (Err s) is = absurd (false≢true (ap is_settled is))
of_settling read (Ok h) is = by_fault (answer_fault h) refl is
  where
    by_read : (r : List ℕ) → r ≡ read → answer_fault h ≡ None → compared r h ≡ Settles
        → (x : List ℕ) × (◌≡◌ {A = Given} (Ok h) (Ok x)) × (answer_fault x ≡ None) × (read ≢ []) × (are_alike read x ≡ true)
    by_read [] same none settles = absurd (false≢true (ap is_settled settles))
    by_read (b ∷ r) same none settles =
        let some : read ≢ [] = λ empty. let long = ap length (same ∙ empty) in absurd (omega (arith, long)) in
        elim (cases_Bool (are_alike (b ∷ r) h)) [
          | inl alike ↦ (h, refl, none, some, subst (λ x. are_alike x h ≡ true) same alike)
          | inr apart ↦ absurd (false≢true (ap is_settled (rw apart at settles)))
        ]

    by_fault : (f : Option BadPage) → answer_fault h ≡ f → header_by f read h ≡ Settles
        → (x : List ℕ) × (◌≡◌ {A = Given} (Ok h) (Ok x)) × (answer_fault x ≡ None) × (read ≢ []) × (are_alike read x ≡ true)
    by_fault None none settles = by_read read refl none settles
    by_fault (Some f) some settles = absurd (false≢true (ap is_settled settles))

records_unsettled : (len : ℕ) (a : Given) → records_verdict len a ≢ Settles
records_unsettled len (Ok bytes) is =
    elim (cases_Bool (length bytes == len)) [
      | inl same ↦ absurd (false≢true (ap is_settled (rw same at is)))
      | inr other ↦ absurd (false≢true (ap is_settled (rw other at is)))
    ]
records_unsettled len (Err s) is =
    elim (cases_Bool (is_past_end s)) [
      | inl past ↦ absurd (false≢true (ap is_settled (rw past at is)))
      | inr other ↦ absurd (false≢true (ap is_settled (rw other at is)))
    ]

pub record Settling (read : List ℕ) (a : Given) : Type 0 where
  pub header : List ℕ
  pub is : a ≡ Ok header
  pub sound : answer_fault header ≡ None
  pub some : read ≢ []
  pub alike : are_alike read header ≡ true
  pub none_left : left_of read ≡ 0

pub settles_by : (read : List ℕ) (a : Given) → verdict read a ≡ Settles → Settling read a
settles_by read a is =
    elim (cases_lt 0 (left_of read)) [
      | inl left ↦ absurd (records_unsettled (min 32768 (left_of read)) a (sym (of_records read a left) ∙ is))
      | inr past ↦
          let none : left_of read ≡ 0 = omega (arith, past) in
          let found = of_settling read a (sym (of_header read a none) ∙ is) in
          record {
            header = found.0;
            is = found.1;
            sound = found.2;
            some = found.3;
            alike = found.4;
            none_left = none;
          }
    ]

-- .. so all of it was read
pub none_left_is_whole : (read : List ℕ) → read ≢ [] → left_of read ≡ 0 → record_place (record_count read) ≤ length read
none_left_is_whole [] some none = absurd (some refl)
none_left_is_whole (b ∷ read) some none = omega (arith, none)

pub alike_genctr : (read header : List ℕ) → are_alike read header ≡ true → genctr_of read ≡ genctr_of header
alike_genctr read header alike = grind (arith, nat_tests, alike)
