-- The bytes of a list, as it goes on.
use Rattle.std.proofs.Common.{◌≡◌, ℕ, ◌*◌, ◌<◌, ◌≤◌, Bool, not, List, [], ◌∷◌, ◌++◌, true, false, length, filter, nat_lt, refl, arith, length-append}
use Rattle.std.proofs.lemmas.Bool.Decides.{nat_tests}
use Rattle.std.proofs.lemmas.List.{append-nil}
use Rattle.std.proofs.lemmas.List.Concat.{flat_map-append}
use Rattle.std.proofs.lemmas.List.Elements.{filter-append}
use Rattle.std.proofs.lemmas.List.Filters.{length-filter_both}
use Rattle.std.specs.Int.{w32, to_le_bytes}
use Rattle.change_lists.specs.ActiveList.{list_page, nsids_above}

-- 4 bytes for each identifier
pub length-page : (nsids : List ℕ) → length (list_page nsids) ≡ 4 * length nsids
length-page [] = refl
length-page (n ∷ nsids) =
    omega (arith, length-append (to_le_bytes w32 n) (list_page nsids), length-page nsids)

-- what is kept is no longer
pub length-kept : (test : ℕ → Bool) (xs : List ℕ) → length (filter test xs) ≤ length xs
length-kept test xs = omega (arith, length-filter_both test (λ x. not (test x)) (λ _. refl) xs)

-- one identifier more, which is above that one
pub listed_next : (above : ℕ) (done : List ℕ) (n : ℕ) → above < n → list_page (nsids_above above (done ++ n ∷ [])) ≡ list_page (nsids_above above done) ++ to_le_bytes w32 n
listed_next above done n over =
    let test : nat_lt above n ≡ true = grind (arith, nat_tests, over) in
    rw (filter-append, test, flat_map-append, append-nil) refl

-- or is not
pub passed_next : (above : ℕ) (done : List ℕ) (n : ℕ) → n ≤ above → nsids_above above (done ++ n ∷ []) ≡ nsids_above above done
passed_next above done n under =
    let test : nat_lt above n ≡ false = grind (arith, nat_tests, under) in
    rw (filter-append, test) (append-nil (nsids_above above done))
