-- Lists by places, and what is left of them behind their first item.
use Rattle.std.proofs.Common.{◌≡◌, ℕ, zero, suc, ◌+◌, ◌-◌, ◌<◌, ◌==◌, false, List, [], ◌∷◌, map, refl, ap, ◌∙◌, arith}
use Rattle.std.proofs.lemmas.Bool.Decides.{nat_tests}
use Rattle.std.specs.List.{before_first, position_or_len, range_with_len}
use Rattle.host_pages.specs.DiscoveryPage.{record_at, records_from}
use Rattle.host_pages.specs.NsList.{is_zero, listed_from}
use Rattle.host_pages.specs.Numbers.{number_at, numbers_from}

map_more : {X : Type 0} (f : ℕ → X) (first count : ℕ) → 0 < count
    → map f (range_with_len first count) ≡ f first ∷ map f (range_with_len (first + 1) (count - 1))
map_more f first zero some = absurd (omega (arith, some))
map_more f first (suc n) some = let same : suc n - 1 ≡ n = omega arith in rw same refl

-- ---- records

pub records_from-none : (page : List ℕ) (first : ℕ) → records_from page first 0 ≡ []
unfolding records_from
records_from-none page first = refl

pub records_from-more : (page : List ℕ) (first count : ℕ) → 0 < count
    → records_from page first count ≡ record_at page first ∷ records_from page (first + 1) (count - 1)
unfolding records_from
records_from-more page first count some = map_more (record_at page) first count some

pub ruleset records = (records_from-none, records_from-more)

-- ---- numbers

pub numbers_from-none : (bytes : List ℕ) (first : ℕ) → numbers_from bytes first 0 ≡ []
unfolding numbers_from
numbers_from-none bytes first = refl

pub numbers_from-more : (bytes : List ℕ) (first count : ℕ) → 0 < count
    → numbers_from bytes first count ≡ number_at bytes first ∷ numbers_from bytes (first + 1) (count - 1)
unfolding numbers_from
numbers_from-more bytes first count some = map_more (number_at bytes) first count some

pub ruleset numbers = (numbers_from-none, numbers_from-more)

-- ---- numbers before the first 0

not_zero : (n : ℕ) → (n ≡ 0 → ⊥) → (n == 0) ≡ false
not_zero zero apart = absurd (apart refl)
not_zero (suc n) apart = grind (arith, nat_tests)

before_first-zero : (n : ℕ) (ns : List ℕ) → n ≡ 0 → before_first is_zero (n ∷ ns) ≡ []
before_first-zero n ns is = rw is refl

before_first-more : (n : ℕ) (ns : List ℕ) → (n ≡ 0 → ⊥) → before_first is_zero (n ∷ ns) ≡ n ∷ before_first is_zero ns
before_first-more n ns apart =
    let goes_on : (n == 0) ≡ false = not_zero n apart in
    let one : 1 + position_or_len is_zero ns ≡ suc (position_or_len is_zero ns) = omega arith in
    rw (goes_on, one) refl

pub listed_from-none : (bytes : List ℕ) (first : ℕ) → listed_from bytes first 0 ≡ []
unfolding listed_from numbers_from
listed_from-none bytes first = refl

pub listed_from-zero : (bytes : List ℕ) (first count : ℕ) → 0 < count → number_at bytes first ≡ 0 → listed_from bytes first count ≡ []
unfolding listed_from
listed_from-zero bytes first count some is =
    ap (before_first is_zero) (numbers_from-more bytes first count some)
    ∙ before_first-zero (number_at bytes first) (numbers_from bytes (first + 1) (count - 1)) is

pub listed_from-more : (bytes : List ℕ) (first count : ℕ) → 0 < count → (number_at bytes first ≡ 0 → ⊥)
    → listed_from bytes first count ≡ number_at bytes first ∷ listed_from bytes (first + 1) (count - 1)
unfolding listed_from
listed_from-more bytes first count some apart =
    ap (before_first is_zero) (numbers_from-more bytes first count some)
    ∙ before_first-more (number_at bytes first) (numbers_from bytes (first + 1) (count - 1)) apart

pub ruleset listed = (listed_from-none, listed_from-zero, listed_from-more)
