-- Plans that leave the table as it is: each row stays, or all but one.
use Rattle.std.proofs.Common.{◌≡◌, ℕ, zero, suc, ◌≤◌, ◌+◌, ◌-◌, ◌%◌, ◌^◌, ◌<◌, true, false, Option, Some, None, IfOk, Result, Ok, Err, get_or, List, [], ◌∷◌, ◌++◌, length, take, drop, bytes_eq, refl, ap, sym, ◌∙◌, arith, inl, inr}
use lib.Pointwise.{pointwise_decides}
use Rattle.std.proofs.lemmas.Bool.{cases_Bool, lt-ltb}
use Rattle.std.proofs.lemmas.List.{length-drop, nil_from_length, take-append-drop}
use Rattle.std.proofs.lemmas.List.Quantifiers.{position-Some}
use Rattle.std.specs.Prelude.{MatchOption, if◌then◌else◌, position}
use Rattle.std.specs.List.{position_or_len}
use Rattle.std.specs.Map.{keys_of}
use Rattle.indexmap.specs.IndexMap.{set_value_at}
use Rattle.nvt_config.specs.Configuration.{Configuration}
use Rattle.discovery_view.specs.declared.rows_plan.RowsPlan.{RowsPlan}
use Rattle.discovery_view.specs.declared.rows_plan.RowsPlan.TheVariants.{Stay, One}
use Rattle.discovery_view.specs.Catalog.{catalog_of, places_of, records_at}
use Rattle.discovery_view.specs.Plan.{IsLeast, IsPlaceOf, IsPlannedFor, LeadsTo, common_first, row_set, rows_after, spliced, table_stays}
use Rattle.discovery_view.specs.Ready.{AreWithin, Follows, Places, has_row, next_places, shown_by}
use Rattle.discovery_view.specs.Record.{Parts, same_records}
use Rattle.discovery_view.specs.Records.{records_of}
use Rattle.discovery_view.specs.View.{Named, Rows, count_after, row_among, row_in}
use Rattle.discovery_view.proofs.Catalogs.{shown_records, shown_within}
use Rattle.discovery_view.proofs.Rows.{rows_of, same_name}
use Rattle.discovery_view.proofs.Strangers.{row_shown, shows_next}
use Rattle.discovery_view.proofs.Told.{own, parts_decide}

-- ---- the table stays

nil_behind : {T : Type 0} (xs : List T) → xs ++ [] ≡ xs
nil_behind [] = refl
nil_behind (x ∷ xs) = ap (λ l. x ∷ l) (nil_behind xs)

none_taken : {T : Type 0} (n : ℕ) → take n (let none : List T = [] in none) ≡ []
none_taken zero = refl
none_taken (suc n) = refl

pub none_between : {T : Type 0} (xs : List T) → spliced xs (length xs) [] 0 ≡ xs
none_between xs = let all : length xs - 0 ≡ length xs = omega arith in rw (all, nil_behind (take (length xs) xs)) (take-append-drop (length xs) xs)

all_common : (ps : List Parts) → common_first ps ps ≡ length ps
all_common [] = refl
all_common (p ∷ ps) = rw (own p) (omega (arith, all_common ps))

nothing_left : {T : Type 0} (xs : List T) → drop (length xs) xs ≡ []
nothing_left xs = nil_from_length (drop (length xs) xs) (omega (arith, length-drop (length xs) xs))

least_stays : (slots next : List Parts) (rows : RowsPlan) → next ≡ slots → IsLeast slots next (table_stays slots rows)
least_stays slots next rows same = rw same (record {
  first = sym (all_common slots);
  last = rw (nothing_left slots) refl;
  fresh = rw (nothing_left slots) (sym (none_taken (length slots - 0 - length slots)));
})

-- ---- the row at a place

pub place_found : {R : Type 0} (hosts : List (Named R)) (strangers : R) (name host : List ℕ) (place : ℕ) (row : R) → IsPlaceOf name hosts place → host ≡ name → row_among (row_set hosts place row) strangers host ≡ row
place_found [] strangers name host place row there same = absurd there
place_found (h ∷ hosts) strangers name host zero row there same = rw (same, there) refl
place_found (h ∷ hosts) strangers name host (suc place) row there same =
    rw (same, there.0) (place_found hosts strangers name name place row there.1 refl)

pub place_apart : {R : Type 0} (hosts : List (Named R)) (strangers : R) (name host : List ℕ) (place : ℕ) (row : R) → IsPlaceOf name hosts place → bytes_eq host name ≡ false
    → row_among (row_set hosts place row) strangers host ≡ row_among hosts strangers host
place_apart [] strangers name host place row there apart = absurd there
place_apart (h ∷ hosts) strangers name host zero row there apart =
    let other : bytes_eq host h.name ≡ false = ap (λ n. bytes_eq host n) (sym (same_name name h.name there)) ∙ apart in
    rw other refl
place_apart (h ∷ hosts) strangers name host (suc place) row there apart =
    let rest = place_apart hosts strangers name host place row there.1 apart in
    elim (cases_Bool (bytes_eq host h.name)) [
      | inl same ↦ rw same refl
      | inr other ↦ rw other rest
    ]

-- ---- a row that stays

same_again : (ps : List Parts) → same_records ps ps ≡ true
same_again ps = (pointwise_decides parts_decide ps ps).1 refl

uncounted : (ps : List Parts) (n : ℕ) → count_after ps ps n ≡ n
uncounted ps n = ap (λ b. if b then n else (n + 1) % 2 ^ 64) (same_again ps)

row_of : (row : Places) (places : List ℕ) (count : ℕ) → row.places ≡ places → row.count ≡ count → row ≡ (let r : Places = record { places = places; count = count } in r)
row_of row places count one other = λ i. record { places = one i; count = other i }

stays_next : (d : Configuration) (slots : List Parts) (rows : Rows Places) (host : List ℕ) → slots ≡ catalog_of d → (row_in rows host).places ≡ places_of d host
    → row_in rows host ≡ next_places (Some (shown_by slots rows)) d host
stays_next d slots rows host same stays =
    let row = row_in rows host in
    let records : records_at slots row.places ≡ records_of d host = rw (same, stays) (shown_records d host) in
    row_of row (places_of d host) (count_after (row_in (shown_by slots rows) host).records (records_of d host) (row_in (shown_by slots rows) host).count) stays
    (rw (row_shown slots rows host, records) (sym (uncounted (records_of d host) row.count)))

leads : (d : Configuration) (slots : List Parts) (rows : Rows Places) (plan : RowsPlan) → slots ≡ catalog_of d → Follows (next_places (Some (shown_by slots rows)) d) (rows_after rows plan)
    → LeadsTo d (shown_by slots rows) slots rows (table_stays slots plan)
leads d slots rows plan same follows =
    let shows = shows_next d (shown_by slots rows) (rows_after rows plan) follows in
    record {
      shows = rw (none_between slots) (rw (← same) at shows);
      of = record { table = none_between slots ∙ same; places = λ host. ap (λ (r : Places). r.places) (follows host) };
      least = least_stays slots (catalog_of d) plan (sym same);
    }

pub planned : (slots : List Parts) (rows : Rows Places) (room : ℕ) (plan : RowsPlan) → AreWithin slots (rows_after rows plan) → IsPlannedFor slots rows room (table_stays slots plan)
planned slots rows room plan within = record {
  fits = omega arith;
  room = omega arith;
  within = rw (none_between slots) within;
}

-- ---- each row stays

pub all_stay : (d : Configuration) (slots : List Parts) (rows : Rows Places) → slots ≡ catalog_of d → ((host : List ℕ) → (row_in rows host).places ≡ places_of d host)
    → LeadsTo d (shown_by slots rows) slots rows (table_stays slots Stay)
all_stay d slots rows same stays = leads d slots rows Stay same (λ host. stays_next d slots rows host same (stays host))

-- ---- all but one

pub one_next : (d : Configuration) (slots : List Parts) (rows : Rows Places) (name : List ℕ) (place : ℕ) (row : Places) → IsPlaceOf name rows.hosts place → slots ≡ catalog_of d
    → ((other : List ℕ) → bytes_eq other name ≡ false → (row_in rows other).places ≡ places_of d other) → row ≡ next_places (Some (shown_by slots rows)) d name
    → LeadsTo d (shown_by slots rows) slots rows (table_stays slots (One place row))
one_next d slots rows name place row there same others is =
    leads d slots rows (One place row) same (λ host.
    elim (cases_Bool (bytes_eq host name)) [
      | inl found ↦
          let named = same_name host name found in
          place_found rows.hosts rows.strangers name host place row there named ∙ is ∙ ap (next_places (Some (shown_by slots rows)) d) (sym named)
      | inr apart ↦
          place_apart rows.hosts rows.strangers name host place row there apart ∙ stays_next d slots rows host same (others host apart)
    ])

pub one_within : (d : Configuration) (slots : List Parts) (rows : Rows Places) (name : List ℕ) (place : ℕ) (row : Places) → AreWithin slots rows → IsPlaceOf name rows.hosts place → slots ≡ catalog_of d
    → row.places ≡ places_of d name → AreWithin slots (rows_after rows (One place row))
one_within d slots rows name place row within there same is = record {
  table = within.table;
  hosts = λ host.
      elim (cases_Bool (bytes_eq host name)) [
        | inl found ↦
            rw (place_found rows.hosts rows.strangers name host place row there (same_name host name found), same)
            (shown_within d name row is (rw same at within.table))
        | inr apart ↦ rw (place_apart rows.hosts rows.strangers name host place row there apart) (within.hosts host)
      ];
  strangers = within.strangers;
}

-- ---- a place in a map

first_place : {K R : Type 0} (name : K → List ℕ) (es : List (K × R)) (host : List ℕ) (place : ℕ) (d : K) → place < length (keys_of es) → bytes_eq host (name (get_or (keys_of es) place d)) ≡ true
    → ((k : ℕ) → k < place → bytes_eq host (name (get_or (keys_of es) k d)) ≡ false) → IsPlaceOf host (rows_of name es) place
first_place name [] host place d below here none = absurd (omega (arith, below))
first_place name (e ∷ es) host zero d below here none = here
first_place name (e ∷ es) host (suc place) d below here none =
    (none 0 (omega arith), first_place name es host place d (omega (arith, below)) here (λ k under. none (suc k) (omega (arith, under))))

row_placed : {K R : Type 0} (name : K → List ℕ) (es : List (K × R)) (host : List ℕ) → has_row (rows_of name es) host ≡ true
    → position_or_len (λ k. bytes_eq host (name k)) (keys_of es) < length (keys_of es)
row_placed name [] host there = absurd (cc)
row_placed name (e ∷ es) host there =
    elim (cases_Bool (bytes_eq host (name e.0))) [
      | inl same ↦ rw same (omega arith)
      | inr apart ↦ rw apart (omega (arith, row_placed name es host (rw apart at there)))
    ]

no_place : {K R : Type 0} (name : K → List ℕ) (es : List (K × R)) (host : List ℕ) → None ≡ position (λ k. bytes_eq host (name k)) (keys_of es) → has_row (rows_of name es) host ≡ false
no_place name es host none =
    elim (cases_Bool (has_row (rows_of name es) host)) [
      | inl there ↦
          let below = lt-ltb (position_or_len (λ k. bytes_eq host (name k)) (keys_of es)) (length (keys_of es)) (row_placed name es host there) in
          let found = rw below at none in
          absurd (cc)
      | inr apart ↦ apart
    ]

pub place_is : {K R : Type 0} (name : K → List ℕ) (es : List (K × R)) (host : List ℕ) (r : Option ℕ) → r ≡ position (λ k. bytes_eq host (name k)) (keys_of es)
    → MatchOption r (has_row (rows_of name es) host ≡ false) (IsPlaceOf host (rows_of name es))
place_is name es host None is = no_place name es host is
place_is name [] host (Some place) is = absurd (cc)
place_is name (e ∷ es) host (Some place) is =
    let found = position-Some (λ k. bytes_eq host (name k)) (keys_of (e ∷ es)) place e.0 (sym is) in
    first_place name (e ∷ es) host place e.0 found.0 found.1 found.2

pub set_there : {K R : Type 0} (name : K → List ℕ) (es : List (K × R)) (place : ℕ) (row : R) → rows_of name (set_value_at es place row) ≡ row_set (rows_of name es) place row
set_there name [] place row = refl
set_there name (e ∷ es) zero row = refl
set_there name (e ∷ es) (suc place) row = ap (λ l. record { name = name e.0; row = e.1 } ∷ l) (set_there name es place row)

pub set_past : {K R : Type 0} (name : K → List ℕ) (es : List (K × R)) (place : ℕ) (row : R) → length es ≤ place → rows_of name es ≡ row_set (rows_of name es) place row
set_past name [] place row past = refl
set_past name (e ∷ es) zero row past = absurd (omega (arith, past))
set_past name (e ∷ es) (suc place) row past = ap (λ l. record { name = name e.0; row = e.1 } ∷ l) (set_past name es place row (omega (arith, past)))

pub made_one : {A E : Type 0} (P : A → Type 0) (r : Result A E) → ((a : A) → r ≡ Ok a → P a) → IfOk r P
made_one P (Ok a) f = f a refl
made_one P (Err error) f = tt
