-- Pages of one generation counter, between which there were fewer than 2^64 changes, are the same.
use Rattle.std.proofs.Common.{◌≡◌, ℕ, zero, suc, ◌+◌, ◌-◌, ◌%◌, ◌^◌, ◌<◌, ◌≤◌, refl, subst, ap, ◌∙◌, inl, inr, arith}
use Rattle.std.proofs.lemmas.Bool.{cases_lt}
use Rattle.host_pages.specs.Moments.{AreMoments, IsSame, Page, bytes_of}

-- later there were as many changes, or more
pub changes-rise : (pages : ℕ → Page) (changes : ℕ → ℕ) → AreMoments pages changes → (m n : ℕ) → m ≤ n → changes m ≤ changes n
changes-rise pages changes are m zero le =
    let same : m ≡ 0 = omega (arith, le) in
    let at = ap changes same in
    omega (arith, at)
changes-rise pages changes are m (suc n) le =
    elim (cases_lt n m) [
      | inl past ↦
          let same : m ≡ suc n = omega (arith, past, le) in
          let at = ap changes same in
          omega (arith, at)
      | inr within ↦
          let before = changes-rise pages changes are m n within in
          elim (are.next n) [
            | inl stays ↦ let count = stays.1 in omega (arith, before, count)
            | inr changed ↦ let count = changed.1 in omega (arith, before, count)
          ]
    ]

-- GENCTR is higher by them, round 64 bits
genctr-counts : (pages : ℕ → Page) (changes : ℕ → ℕ) → AreMoments pages changes → (m n : ℕ) → m ≤ n
    → (pages n).genctr ≡ ((pages m).genctr + (changes n - changes m)) % 2 ^ 64
genctr-counts pages changes are m zero le =
    let same : m ≡ 0 = omega (arith, le) in
    let at = ap changes same in
    let counter = ap (λ k. (pages k).genctr) same in
    let small = (are.each 0).genctr in
    omega (arith, at, counter, small)
genctr-counts pages changes are m (suc n) le =
    elim (cases_lt n m) [
      | inl past ↦
          let same : m ≡ suc n = omega (arith, past, le) in
          let at = ap changes same in
          let counter = ap (λ k. (pages k).genctr) same in
          let small = (are.each (suc n)).genctr in
          omega (arith, at, counter, small)
      | inr within ↦
          let before = genctr-counts pages changes are m n within in
          let rise = changes-rise pages changes are m n within in
          elim (are.next n) [
            | inl stays ↦ let count = stays.1 in let is = stays.0.genctr in omega (arith, before, rise, count, is)
            | inr changed ↦ let count = changed.1 in let is = changed.0.genctr in omega (arith, before, rise, count, is)
          ]
    ]

-- where no change came between, the page is the same
same-without : (pages : ℕ → Page) (changes : ℕ → ℕ) → AreMoments pages changes → (m n : ℕ) → m ≤ n → changes n ≡ changes m → IsSame (pages m) (pages n)
same-without pages changes are m zero le none =
    let same : m ≡ 0 = omega (arith, le) in
    subst (λ k. IsSame (pages m) (pages k)) same (record { genctr = refl; records = refl })
same-without pages changes are m (suc n) le none =
    elim (cases_lt n m) [
      | inl past ↦
          let same : m ≡ suc n = omega (arith, past, le) in
          subst (λ k. IsSame (pages m) (pages k)) same (record { genctr = refl; records = refl })
      | inr within ↦
          let rise = changes-rise pages changes are m n within in
          elim (are.next n) [
            | inl stays ↦
                let count = stays.1 in
                let before = same-without pages changes are m n within (omega (arith, none, count)) in
                record { genctr = stays.0.genctr ∙ before.genctr; records = stays.0.records ∙ before.records }
            | inr changed ↦ let count = changed.1 in absurd (omega (arith, none, rise, count))
          ]
    ]

-- so it is at every moment between two of one generation
pub same-between : (pages : ℕ → Page) (changes : ℕ → ℕ) → AreMoments pages changes → (m n l : ℕ) → m ≤ n → n ≤ l
    → (pages m).genctr ≡ (pages l).genctr → changes l < changes m + 2 ^ 64 → IsSame (pages m) (pages n)
same-between pages changes are m n l first last alike few =
    let counts = genctr-counts pages changes are m l (omega (arith, first, last)) in
    let before = changes-rise pages changes are m n first in
    let behind = changes-rise pages changes are n l last in
    let small = (are.each m).genctr in
    let none : changes l ≡ changes m = omega (arith, counts, alike, few, small, before, behind) in
    same-without pages changes are m n first (omega (arith, none, before, behind))

pub bytes_of-same : (p q : Page) → IsSame p q → bytes_of q ≡ bytes_of p
unfolding bytes_of
bytes_of-same p q same = rw (same.genctr, same.records) refl
