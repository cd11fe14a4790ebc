-- What a plan changes of a host's records: its count goes on exactly where they are others.
use Rattle.std.proofs.Common.{◌≡◌, ◌≢◌, ℕ, zero, suc, ◌<◌, ◌+◌, ◌%◌, ◌^◌, ◌==◌, Bool, true, false, not, List, [], ◌∷◌, bytes_eq, refl, ap, sym, ◌∙◌, arith, inl, inr}
use Rattle.std.proofs.lemmas.Bool.{cases_Bool, eq-eqb, ne_eqb}
use Rattle.std.specs.Prelude.{if◌then◌else◌}
use Rattle.nvt_config.specs.Configuration.{Configuration}
use Rattle.discovery_view.specs.Catalog.{records_at}
use Rattle.discovery_view.specs.Plan.{IsPlaceOf, LeadsTo, Planned, row_set, rows_after, shown_after, slots_after}
use Rattle.discovery_view.specs.Ready.{AreOf, Places, has_row, row_at, shown_by}
use Rattle.discovery_view.specs.Record.{Parts, same_records}
use Rattle.discovery_view.specs.Records.{records_of}
use Rattle.discovery_view.specs.View.{Named, Row, Rows, changes_discovery, count_after, count_in, records_in, row_among, row_in}
use Rattle.discovery_view.proofs.Catalogs.{shown_records}
use Rattle.discovery_view.proofs.Rows.{absurd_test}
use Rattle.discovery_view.proofs.Strangers.{row_shown}

-- ---- a row beside one that is set

pub row_elsewhere : {R : Type 0} (hosts : List (Named R)) (strangers : R) (host : List ℕ) (there place : ℕ) (row : R) → IsPlaceOf host hosts there → there ≢ place
    → row_among (row_set hosts place row) strangers host ≡ row_among hosts strangers host
row_elsewhere [] strangers host there place row is apart = absurd is
row_elsewhere (h ∷ hosts) strangers host zero zero row is apart = absurd (apart refl)
row_elsewhere (h ∷ hosts) strangers host zero (suc place) row is apart = rw is refl
row_elsewhere (h ∷ hosts) strangers host (suc there) zero row is apart = rw is.0 refl
row_elsewhere (h ∷ hosts) strangers host (suc there) (suc place) row is apart =
    rw is.0 (row_elsewhere hosts strangers host there place row is.1 (λ same. apart (ap (λ n. suc n) same)))

pub row_nowhere : {R : Type 0} (hosts : List (Named R)) (strangers : R) (host : List ℕ) (place : ℕ) (row : R) → has_row hosts host ≡ false
    → row_among (row_set hosts place row) strangers host ≡ row_among hosts strangers host
row_nowhere [] strangers host place row none = refl
row_nowhere (h ∷ hosts) strangers host zero row none =
    elim (cases_Bool (bytes_eq host h.name)) [
      | inl same ↦ absurd_test (has_row (h ∷ hosts) host) (rw same refl) none
      | inr apart ↦ rw apart refl
    ]
row_nowhere (h ∷ hosts) strangers host (suc place) row none =
    elim (cases_Bool (bytes_eq host h.name)) [
      | inl same ↦ rw same refl
      | inr apart ↦ rw apart (row_nowhere hosts strangers host place row (rw apart at none))
    ]

-- ---- where a count goes on

goes_on : (b : Bool) (n m : ℕ) → n < 2 ^ 64 → m ≡ (if b then n else (n + 1) % 2 ^ 64) → not (m == n) ≡ not b
goes_on true n m below is = rw (is, eq-eqb n n refl) refl
goes_on false n m below is = rw (ne_eqb m n (λ same. omega (arith, is, same, below))) refl

pub told : (c d : Configuration) (slots : List Parts) (rows : Rows Places) (plan : Planned) (host : List ℕ) → (row_in rows host).count < 2 ^ 64 → AreOf c slots rows
    → LeadsTo d (shown_by slots rows) slots rows plan → not ((row_in (rows_after rows plan.rows) host).count == (row_in rows host).count) ≡ changes_discovery c d host
unfolding records_in count_in
told c d slots rows plan host below of leads =
    let old = row_in rows host in
    let before : row_in (shown_by slots rows) host ≡ row_at slots old = row_shown slots rows host in
    let records : records_at slots old.places ≡ records_of c host = rw (of.table, of.places host) (shown_records c host) in
    let after : row_in (shown_after slots rows plan) host ≡ row_at (slots_after slots plan) (row_in (rows_after rows plan.rows) host) = row_shown (slots_after slots plan) (rows_after rows plan.rows) host in
    let count : (row_in (shown_after slots rows plan) host).count ≡ count_after (row_in (shown_by slots rows) host).records (records_in (shown_after slots rows plan) host) (row_in (shown_by slots rows) host).count = leads.shows.counts host in
    let counts : (row_in (rows_after rows plan.rows) host).count ≡ count_after (records_of c host) (records_of d host) old.count =
    rw (before, records, leads.shows.records host) at (sym (ap (λ (r : Row). r.count) after) ∙ count) in
    goes_on (same_records (records_of c host) (records_of d host)) old.count (row_in (rows_after rows plan.rows) host).count below counts
