-- The rows of the controllers that live: what a walk over them finds, one after the other.
use Rattle.std.proofs.Common.{◌≡◌, ℕ, zero, suc, ◌+◌, ◌<◌, ◌≤◌, List, [], ◌∷◌, All, AllPairs, Contains, length, Option, Some, None, refl, sym, ap, subst, ◌∙◌, arith}
use Rattle.std.proofs.lemmas.List.{drop_all, drop_more}
use Rattle.std.proofs.lemmas.List.Elements.{All-cons, All-contains, All-nil, All-weaker}
use Rattle.std.proofs.lemmas.List.Kept.{AllPairs-cons}
use Rattle.std.specs.List.{cons_option}
use Rattle.tables.specs.NumberTable.{place}
use Rattle.tables.proofs.NumberTables.{place_within}
use Rattle.fabrics_connect.specs.declared.row.Row.{Row}
use Rattle.fabrics_connect.specs.Controllers.{AreControllers, live_from, live_rows}
use Rattle.fabrics_connect.specs.Laws.{IsWalk, LiveAreWalked}

-- ---- one identifier after the other

one_more : (rows : List (Option Row)) (n : ℕ) → n < length rows → live_from rows n ≡ cons_option (place rows n) (live_from rows (n + 1))
one_more rows n below = ap (λ (l : List (Option Row)). live_rows l) (drop_more rows n None below)

-- from this identifier on those are left that were from that one on: one that is free, one that a controller has, and the
-- end
pub free_passed : (rows : List (Option Row)) (from n : ℕ) → AreControllers rows → n < 33 → live_from rows from ≡ live_from rows n → place rows n ≡ None → live_from rows from ≡ live_from rows (n + 1)
free_passed rows from n are below same free =
    same ∙ one_more rows n (omega (arith, are.places)) ∙ ap (λ (o : Option Row). cons_option o (live_from rows (n + 1))) free

pub live_found : (rows : List (Option Row)) (from n : ℕ) (row : Row) → AreControllers rows → n < 33 → live_from rows from ≡ live_from rows n → place rows n ≡ Some row → live_from rows from ≡ row ∷ live_from rows (row.cntlid + 1)
live_found rows from n row are below same there =
    same ∙ one_more rows n (omega (arith, are.places)) ∙ ap (λ (o : Option Row). cons_option o (live_from rows (n + 1))) there
    ∙ ap (λ (m : ℕ). row ∷ live_from rows (m + 1)) (sym (are.own n row there))

pub none_left : (rows : List (Option Row)) (from n : ℕ) → AreControllers rows → 33 ≤ n → live_from rows from ≡ live_from rows n → live_from rows from ≡ []
none_left rows from n are past same =
    same ∙ ap (λ (l : List (Option Row)). live_rows l) (drop_all n rows (omega (arith, are.places)))

-- ---- the whole walk

-- the rows of a part of the table, which begins with this identifier, stand under their own
abbrev pub StandFrom : ℕ → List (Option Row) → Type 0
StandFrom n rows = (i : ℕ) (row : Row) → place rows i ≡ Some row → row.cntlid ≡ n + i

behind : (n : ℕ) (o : Option Row) (rows : List (Option Row)) → StandFrom n (o ∷ rows) → StandFrom (n + 1) rows
behind n o rows stand = λ i row found. omega (arith, stand (suc i) row found)

least : (n : ℕ) (rows : List (Option Row)) → StandFrom n rows → All (λ r. n ≤ r.cntlid) (live_rows rows)
least n [] stand = All-nil (λ r. n ≤ r.cntlid)
least n (None ∷ rows) stand =
    All-weaker (λ r. n + 1 ≤ r.cntlid) (λ r. n ≤ r.cntlid) (λ r above. omega arith) (live_rows rows) (least (n + 1) rows (behind n None rows stand))
least n (Some row ∷ rows) stand =
    All-cons (λ r. n ≤ r.cntlid) row (live_rows rows) (omega (arith, stand 0 row refl))
    (All-weaker (λ r. n + 1 ≤ r.cntlid) (λ r. n ≤ r.cntlid) (λ r above. omega arith) (live_rows rows) (least (n + 1) rows (behind n (Some row) rows stand)))

rising : (n : ℕ) (rows : List (Option Row)) → StandFrom n rows → AllPairs (λ r s. r.cntlid < s.cntlid) (live_rows rows)
rising n [] stand = λ i j d less below. absurd (omega arith)
rising n (None ∷ rows) stand = rising (n + 1) rows (behind n None rows stand)
rising n (Some row ∷ rows) stand =
    let here : row.cntlid ≡ n = omega (arith, stand 0 row refl) in
    AllPairs-cons (λ r s. r.cntlid < s.cntlid) row (live_rows rows)
    (All-weaker (λ r. n + 1 ≤ r.cntlid) (λ r. row.cntlid < r.cntlid) (λ r above. omega (arith, here)) (live_rows rows) (least (n + 1) rows (behind n (Some row) rows stand)))
    (rising (n + 1) rows (behind n (Some row) rows stand))

-- a row that is walked over stands somewhere
abbrev pub StandsIn : List (Option Row) → Row → Type 0
StandsIn rows row = (i : ℕ) × (place rows i ≡ Some row)

stands_behind : (o : Option Row) (rows : List (Option Row)) (row : Row) → StandsIn rows row → StandsIn (o ∷ rows) row
stands_behind o rows row (i, there) = (suc i, there)

walked_stand : (rows : List (Option Row)) → All (StandsIn rows) (live_rows rows)
walked_stand [] = All-nil (StandsIn [])
walked_stand (None ∷ rows) =
    All-weaker (StandsIn rows) (StandsIn (None ∷ rows)) (stands_behind None rows) (live_rows rows) (walked_stand rows)
walked_stand (Some first ∷ rows) =
    All-cons (StandsIn (Some first ∷ rows)) first (live_rows rows) (0, refl)
    (All-weaker (StandsIn rows) (StandsIn (Some first ∷ rows)) (stands_behind (Some first) rows) (live_rows rows) (walked_stand rows))

-- .. and one that stands there is walked over
first_in : (x : Row) (xs : List Row) → Contains (x ∷ xs) x
first_in x xs = (0, omega arith, refl)

later_in : (x : Row) (xs : List Row) (y : Row) → Contains xs y → Contains (x ∷ xs) y
later_in x xs y (k, below, is) = (suc k, omega arith, is)

standing_walked : (rows : List (Option Row)) (i : ℕ) (row : Row) → place rows i ≡ Some row → Contains (live_rows rows) row
standing_walked [] i row there = absurd (cc)
standing_walked (None ∷ rows) zero row there = absurd (cc)
standing_walked (None ∷ rows) (suc i) row there = standing_walked rows i row there
standing_walked (Some first ∷ rows) zero row there =
    let same : first ≡ row = cc in
    subst (λ (r : Row). Contains (first ∷ live_rows rows) r) same (first_in first (live_rows rows))
standing_walked (Some first ∷ rows) (suc i) row there = later_in first (live_rows rows) row (standing_walked rows i row there)

under_own : (rows : List (Option Row)) → AreControllers rows → (row : Row) → StandsIn rows row → place rows row.cntlid ≡ Some row
under_own rows are row (i, there) = ap (place rows) (are.own i row there) ∙ there

not_first : (rows : List (Option Row)) (i : ℕ) (row : Row) → place rows 0 ≡ None → place rows i ≡ Some row → 1 ≤ i
not_first rows zero row unused found = absurd (cc)
not_first rows (suc i) row unused found = omega arith

-- an identifier that a controller has is one of those that are given
identifier_of : (rows : List (Option Row)) → AreControllers rows → (row : Row) → StandsIn rows row → (1 ≤ row.cntlid) × (row.cntlid ≤ 32)
identifier_of rows are row (i, there) =
    (omega (arith, are.own i row there, not_first rows i row are.unused there), omega (arith, are.own i row there, are.places, place_within rows i row there))

pub is_walk : (rows : List (Option Row)) → AreControllers rows → IsWalk rows (live_rows rows)
is_walk rows are = record {
  rising = rising 0 rows (λ i row found. omega (arith, are.own i row found));
  live = λ row. (
    λ found. under_own rows are row (All-contains (StandsIn rows) (live_rows rows) row (walked_stand rows) found),
    λ there. standing_walked rows row.cntlid row there,
  );
  identifiers = All-weaker (StandsIn rows) (λ row. (1 ≤ row.cntlid) × (row.cntlid ≤ 32)) (identifier_of rows are) (live_rows rows) (walked_stand rows);
}

pub live_are_walked : LiveAreWalked
live_are_walked = record { walks = is_walk }
