-- The rows that a view has ready: where one is found, and that each is the next of the host that it is for.
use lib.Pointwise.{bytes_decides}
use Rattle.std.proofs.Common.{◌≡◌, ℕ, Bool, true, false, ◌||◌, Option, Some, None, is_some, unwrap_or, List, [], ◌∷◌, ◌++◌, map, bytes_eq, refl, ap, sym, ◌∙◌, subst, inl, inr}
use Rattle.std.proofs.lemmas.Bool.{cases_Bool, both_ways, false_from_ne_true}
use Rattle.std.proofs.lemmas.List.Folds.{list_any-append}
use Rattle.std.specs.List.{AllByRecursion, list_any}
use Rattle.std.specs.Map.{lookup}
use Rattle.discovery_view.specs.Ready.{Follows, has_row, with_row, with_rows}
use Rattle.discovery_view.specs.View.{Named, Rows, row_among}

-- ---- names

pub own_name : (name : List ℕ) → bytes_eq name name ≡ true
own_name name = (bytes_decides name name).1 refl

pub same_name : (a b : List ℕ) → bytes_eq a b ≡ true → a ≡ b
same_name a b same = (bytes_decides a b).0 same

pub turned : (a b : List ℕ) → bytes_eq a b ≡ true → bytes_eq b a ≡ true
turned a b same = (bytes_decides b a).1 (sym (same_name a b same))

pub absurd_test : {P : Type 0} (b : Bool) → b ≡ true → b ≡ false → P
absurd_test b is not_so = absurd (both_ways b not_so is)

-- ---- where a row is found

-- rows as a map has them
abbrev pub rows_of : {K R : Type 0} → (K → List ℕ) → List (K × R) → List (Named R)
rows_of name es = map (λ e. record { name = name e.0; row = e.1 }) es

pub row_found : {K R : Type 0} (name : K → List ℕ) (es : List (K × R)) (strangers : R) (host : List ℕ)
    → row_among (rows_of name es) strangers host ≡ unwrap_or (lookup (λ k. bytes_eq host (name k)) es) strangers
row_found name [] strangers host = refl
row_found name (e ∷ es) strangers host =
    elim (cases_Bool (bytes_eq host (name e.0))) [
      | inl same ↦ rw same refl
      | inr apart ↦ rw apart (row_found name es strangers host)
    ]

pub row_there : {K R : Type 0} (name : K → List ℕ) (es : List (K × R)) (host : List ℕ)
    → has_row (rows_of name es) host ≡ is_some (lookup (λ k. bytes_eq host (name k)) es)
row_there name [] host = refl
row_there name (e ∷ es) host =
    elim (cases_Bool (bytes_eq host (name e.0))) [
      | inl same ↦ rw same refl
      | inr apart ↦ rw apart (row_there name es host)
    ]

pub none_there : {X : Type 0} (o : Option X) → is_some o ≡ false → o ≡ None
none_there None none = refl
none_there (Some x) none = absurd_test true refl none

pub not_found : {R : Type 0} (hosts : List (Named R)) (strangers : R) (host : List ℕ) → has_row hosts host ≡ false → row_among hosts strangers host ≡ strangers
not_found [] strangers host none = refl
not_found (h ∷ hosts) strangers host none =
    elim (cases_Bool (bytes_eq host h.name)) [
      | inl same ↦ absurd_test (bytes_eq host h.name || has_row hosts host) (ap (λ b. b || has_row hosts host) same) none
      | inr apart ↦ rw apart (not_found hosts strangers host (sym (ap (λ b. b || has_row hosts host) apart) ∙ none))
    ]

pub among_hosts : {R : Type 0} (hosts : List (Named R)) (host : List ℕ) → has_row hosts host ≡ true → list_any (bytes_eq host) (map (λ h. h.name) hosts) ≡ true
among_hosts [] host there = there
among_hosts (h ∷ hosts) host there =
    elim (cases_Bool (bytes_eq host h.name)) [
      | inl same ↦ rw same refl
      | inr apart ↦ rw apart (among_hosts hosts host (rw apart at there))
    ]

-- ---- rows that are added

module _ {R : Type 0} (next : List ℕ → R) where
  abbrev IsNext : Named R → Type 0
  IsNext h = h.row ≡ next h.name

  -- the row that a name gets
  abbrev row_of : List ℕ → Named R
  row_of host = record { name = host; row = next host }

  found_next : (hosts : List (Named R)) (strangers : R) (host : List ℕ) → AllByRecursion IsNext hosts → has_row hosts host ≡ true → row_among hosts strangers host ≡ next host
  found_next [] strangers host all some = absurd_test false some refl
  found_next (h ∷ hosts) strangers host all some =
      elim (cases_Bool (bytes_eq host h.name)) [
        | inl same ↦ rw same (all.0 ∙ ap next (sym (same_name host h.name same)))
        | inr apart ↦ rw apart (found_next hosts strangers host all.1 (sym (ap (λ b. b || has_row hosts host) apart) ∙ some))
      ]

  one_more : (hosts : List (Named R)) (h : Named R) → AllByRecursion IsNext hosts → IsNext h → AllByRecursion IsNext (hosts ++ h ∷ [])
  one_more [] h all here = (here, tt)
  one_more (g ∷ hosts) h all here = (all.0, one_more hosts h all.1 here)

  add_next : (v : Rows R) (host : List ℕ) → AllByRecursion IsNext v.hosts → AllByRecursion IsNext (with_row next v host).hosts
  add_next v host all =
      elim (cases_Bool (has_row v.hosts host)) [
        | inl there ↦ rw there all
        | inr none ↦ rw none (one_more v.hosts (row_of host) all refl)
      ]

  add_strangers : (v : Rows R) (host : List ℕ) → (with_row next v host).strangers ≡ v.strangers
  add_strangers v host =
      elim (cases_Bool (has_row v.hosts host)) [
        | inl there ↦ rw there refl
        | inr none ↦ rw none refl
      ]

  add_keeps : (v : Rows R) (host other : List ℕ) → has_row v.hosts other ≡ true → has_row (with_row next v host).hosts other ≡ true
  add_keeps v host other there =
      elim (cases_Bool (has_row v.hosts host)) [
        | inl some ↦ rw some there
        | inr none ↦
            let all = list_any-append (λ (h : Named R). bytes_eq other h.name) v.hosts (row_of host ∷ []) in
            rw none (all ∙ ap (λ b. b || has_row (row_of host ∷ []) other) there)
      ]

  add_has : (v : Rows R) (host : List ℕ) → has_row (with_row next v host).hosts host ≡ true
  add_has v host =
      elim (cases_Bool (has_row v.hosts host)) [
        | inl some ↦ rw some some
        | inr none ↦
            let all = list_any-append (λ (h : Named R). bytes_eq host h.name) v.hosts (row_of host ∷ []) in
            rw none (all ∙ ap (λ b. b || (bytes_eq host host || false)) none ∙ ap (λ b. b || false) (own_name host))
      ]

  rows_next : (v : Rows R) (names : List (List ℕ)) → AllByRecursion IsNext v.hosts → AllByRecursion IsNext (with_rows next v names).hosts
  rows_next v [] all = all
  rows_next v (n ∷ names) all = rows_next (with_row next v n) names (add_next v n all)

  pub rows_strangers : (v : Rows R) (names : List (List ℕ)) → (with_rows next v names).strangers ≡ v.strangers
  rows_strangers v [] = refl
  rows_strangers v (n ∷ names) = rows_strangers (with_row next v n) names ∙ add_strangers v n

  rows_keep : (v : Rows R) (names : List (List ℕ)) (host : List ℕ) → has_row v.hosts host ≡ true → has_row (with_rows next v names).hosts host ≡ true
  rows_keep v [] host there = there
  rows_keep v (n ∷ names) host there = rows_keep (with_row next v n) names host (add_keeps v n host there)

  rows_have : (v : Rows R) (names : List (List ℕ)) (host : List ℕ) → list_any (bytes_eq host) names ≡ true → has_row (with_rows next v names).hosts host ≡ true
  rows_have v [] host among = absurd_test false among refl
  rows_have v (n ∷ names) host among =
      elim (cases_Bool (bytes_eq host n)) [
        | inl same ↦ rows_keep (with_row next v n) names host (subst (λ (h : List ℕ). has_row (with_row next v n).hosts h ≡ true) (sym (same_name host n same)) (add_has v n))
        | inr apart ↦ rows_have (with_row next v n) names host (sym (ap (λ b. b || list_any (bytes_eq host) names) apart) ∙ among)
      ]

  pub all_follow : (known new : List (List ℕ)) (strangers : R) (v : Rows R)
      → ((host : List ℕ) → list_any (bytes_eq host) known ≡ false → list_any (bytes_eq host) new ≡ false → strangers ≡ next host)
      → v ≡ with_rows next (with_rows next (record { hosts = []; strangers = strangers }) known) new
      → Follows next v
  all_follow known new strangers v others is = λ host.
      let start : Rows R = record { hosts = []; strangers = strangers } in
      let half : Rows R = with_rows next start known in
      let all : Rows R = with_rows next half new in
      rw is (
      elim (cases_Bool (has_row all.hosts host)) [
        | inl there ↦ found_next all.hosts all.strangers host (rows_next half new (rows_next start known tt)) there
        | inr none ↦
            let unknown : list_any (bytes_eq host) known ≡ false = false_from_ne_true (list_any (bytes_eq host) known) (λ among. both_ways (has_row all.hosts host) none (rows_keep half new host (rows_have start known host among))) in
            let absent : list_any (bytes_eq host) new ≡ false = false_from_ne_true (list_any (bytes_eq host) new) (λ among. both_ways (has_row all.hosts host) none (rows_have half new host among)) in
            not_found all.hosts all.strangers host none
            ∙ rows_strangers half new ∙ rows_strangers start known ∙ others host unknown absent
      ])
