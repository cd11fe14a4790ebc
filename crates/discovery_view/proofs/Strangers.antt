-- Strangers are shown the same, and the rows of places show each host the records of a configuration.
use Rattle.std.proofs.Common.{◌≡◌, ℕ, Bool, true, false, ◌||◌, Option, Some, None, List, [], ◌∷◌, ◌++◌, map, filter, All, bytes_eq, refl, ap, sym, ◌∙◌, subst, inl, inr}
use Rattle.std.proofs.Math.Path.{fun_ext}
use Rattle.std.proofs.lemmas.Bool.{cases_Bool, both_ways, false_from_ne_true}
use Rattle.std.proofs.lemmas.List.Elements.{All-head, All-tail}
use Rattle.std.specs.List.{flat_map, list_any}
use Rattle.config_lists.specs.declared.allow.Allow.{Allow}
use Rattle.config_lists.specs.declared.host.Host.{Host}
use Rattle.config_lists.specs.declared.subsystem.Subsystem.{Subsystem}
use Rattle.nvt_config.specs.Configuration.{Configuration, has_allow, has_host, has_live_host}
use Rattle.nvt_config.specs.Permission.{is_open_subsystem, may_use}
use Rattle.nvt_config.specs.Valid.{IsAllow, IsValid}
use Rattle.discovery_view.specs.Catalog.{catalog_of, is_referral, places_from, places_of}
use Rattle.discovery_view.specs.Ready.{AreReady, AreWithin, Follows, Places, count_from, names_before, names_in, next_places, places_after, row_at, row_before, shown_by, stranger, strangers_before, with_rows}
use Rattle.discovery_view.specs.Record.{Parts}
use Rattle.discovery_view.specs.Records.{parts_of, ports_in_order, records_of, referral_of, referrals_in_order, subsystems_in_order}
use Rattle.discovery_view.specs.View.{Named, Row, Rows, Shown, ShowsFirst, ShowsNext, count_after, count_in, records_in, row_among, row_in}
use Rattle.discovery_view.proofs.Catalogs.{shown_records, shown_within}
use Rattle.discovery_view.proofs.Rows.{absurd_test, all_follow, among_hosts, not_found, same_name, turned}

-- ---- strangers

live_added : (hosts : List Host) (host : List ℕ) → has_live_host hosts host ≡ true → has_host hosts host ≡ true
live_added [] host live = live
live_added (g ∷ hosts) host live =
    elim (cases_Bool (bytes_eq g.nqn host)) [
      | inl same ↦ rw same refl
      | inr apart ↦ rw apart (live_added hosts host (rw apart at live))
    ]

not_allowed : (subsystems : List Subsystem) (hosts : List Host) (allows : List Allow) (nqn host : List ℕ) → All (IsAllow subsystems hosts) allows
    → has_host hosts host ≡ false → has_allow allows nqn host ≡ false
not_allowed subsystems hosts [] nqn host all none = refl
not_allowed subsystems hosts (a ∷ allows) nqn host all none =
    let rest = not_allowed subsystems hosts allows nqn host (All-tail (IsAllow subsystems hosts) a allows all) none in
    elim (cases_Bool (bytes_eq a.host host)) [
      | inl same ↦
          let live : has_live_host hosts a.host ≡ true = (All-head (IsAllow subsystems hosts) a allows all).host in
          let there : has_host hosts host ≡ true = subst (λ (h : List ℕ). has_host hosts h ≡ true) (same_name a.host host same) (live_added hosts a.host live) in
          absurd_test (has_host hosts host) there none
      | inr apart ↦
          elim (cases_Bool (bytes_eq a.subsystem nqn)) [
            | inl named ↦ rw (apart, named) rest
            | inr other ↦ rw (apart, other) rest
          ]
    ]

allows_alike : (c : Configuration) (host other : List ℕ) → IsValid c → has_host c.hosts host ≡ false → has_host c.hosts other ≡ false
    → (nqn : List ℕ) → has_allow c.allows nqn host ≡ has_allow c.allows nqn other
allows_alike c host other valid one two nqn =
    not_allowed c.subsystems c.hosts c.allows nqn host valid.allows.sound one
    ∙ sym (not_allowed c.subsystems c.hosts c.allows nqn other valid.allows.sound two)

same_use : (c : Configuration) (host other : List ℕ) → IsValid c → has_host c.hosts host ≡ false → has_host c.hosts other ≡ false
    → (nqn : List ℕ) (port : ℕ) → may_use c host nqn port ≡ may_use c other nqn port
same_use c host other valid one two nqn port = rw (allows_alike c host other valid one two nqn) refl

-- the records of a host that may use what the test passes
abbrev records_by : Configuration → (List ℕ → ℕ → Bool) → List Parts
records_by c may = flat_map (λ port. map (parts_of port) (filter (λ s. may s.nqn port.id) (subsystems_in_order c))) (ports_in_order c) ++ map referral_of (referrals_in_order c)

alike : (c : Configuration) (host other : List ℕ) → IsValid c → has_host c.hosts host ≡ false → has_host c.hosts other ≡ false
    → records_of c host ≡ records_of c other
alike c host other valid one two =
    let same : may_use c host ≡ may_use c other = fun_ext (λ nqn. fun_ext (λ port. same_use c host other valid one two nqn port)) in
    ap (records_by c) same

-- the catalog's records that the host is shown who passes the test
abbrev pub shown_who : Configuration → (List ℕ → Bool) → List ℕ
shown_who c allows = places_from (λ p. is_referral p.subtype || (is_open_subsystem c.subsystems p.nqn || allows p.nqn)) 0 (catalog_of c)

places_alike : (c : Configuration) (host other : List ℕ) → IsValid c → has_host c.hosts host ≡ false → has_host c.hosts other ≡ false
    → places_of c host ≡ places_of c other
places_alike c host other valid one two =
    let same : (λ (nqn : List ℕ). has_allow c.allows nqn host) ≡ (λ nqn. has_allow c.allows nqn other) =
    fun_ext (λ nqn. allows_alike c host other valid one two nqn) in
    ap (shown_who c) same

-- ---- all rows

among_added : (hosts : List Host) (host : List ℕ) → has_host hosts host ≡ true → list_any (bytes_eq host) (map (λ h. h.nqn) hosts) ≡ true
among_added [] host there = there
among_added (h ∷ hosts) host there =
    elim (cases_Bool (bytes_eq h.nqn host)) [
      | inl same ↦ rw (turned h.nqn host same) refl
      | inr apart ↦
          let rest = among_added hosts host (rw apart at there) in
          ap (λ b. bytes_eq host h.nqn || b) rest ∙ either (bytes_eq host h.nqn)
    ]
  where
    either : (b : Bool) → (b || true) ≡ true
    either true = refl
    either false = refl

-- the row before of one who had none
stranger_before : (before : Option Shown) (host : List ℕ) → list_any (bytes_eq host) (names_before before) ≡ false → row_before before host ≡ strangers_before before
stranger_before None host none = refl
stranger_before (Some old) host none =
    ap (λ r. Some r) (not_found old.hosts old.strangers host (false_from_ne_true _ (λ there.
    both_ways (list_any (bytes_eq host) (names_in old)) none (among_hosts old.hosts host there))))

pub table_follows : (before : Option Shown) (c : Configuration) (strangers : Places) (v : Rows Places) → IsValid c → has_host c.hosts stranger ≡ false
    → strangers ≡ places_after (strangers_before before) c stranger
    → v ≡ with_rows (next_places before c) (with_rows (next_places before c) (record { hosts = []; strangers = strangers }) (names_before before)) (map (λ h. h.nqn) c.hosts)
    → Follows (next_places before c) v
table_follows before c strangers v valid free first is =
    all_follow (next_places before c) (names_before before) (map (λ (h : Host). h.nqn) c.hosts) strangers v (λ host unknown absent.
    let new : has_host c.hosts host ≡ false = false_from_ne_true (has_host c.hosts host) (λ there. both_ways (list_any (bytes_eq host) (map (λ (h : Host). h.nqn) c.hosts)) absent (among_added c.hosts host there)) in
    first ∙ rw (stranger_before before host unknown, places_alike c host stranger valid new free, alike c host stranger valid new free) refl) is

-- ---- what a table and rows show

among_shown_rows : (slots : List Parts) (hosts : List (Named Places)) (strangers : Places) (host : List ℕ)
    → row_among (map (λ h. record { name = h.name; row = row_at slots h.row }) hosts) (row_at slots strangers) host ≡ row_at slots (row_among hosts strangers host)
among_shown_rows slots [] strangers host = refl
among_shown_rows slots (h ∷ hosts) strangers host =
    elim (cases_Bool (bytes_eq host h.name)) [
      | inl same ↦ rw same refl
      | inr apart ↦ rw apart (among_shown_rows slots hosts strangers host)
    ]

pub row_shown : (slots : List Parts) (rows : Rows Places) (host : List ℕ) → row_in (shown_by slots rows) host ≡ row_at slots (row_in rows host)
row_shown slots rows host = among_shown_rows slots rows.hosts rows.strangers host

pub names_shown : (slots : List Parts) (hosts : List (Named Places)) → map (λ (h : Named Row). h.name) (map (λ h. record { name = h.name; row = row_at slots h.row }) hosts) ≡ map (λ (h : Named Places). h.name) hosts
names_shown slots [] = refl
names_shown slots (h ∷ hosts) = ap (λ l. h.name ∷ l) (names_shown slots hosts)

-- what a host is shown by the catalog and its next row
next_shown : (before : Option Shown) (c : Configuration) (rows : Rows Places) (host : List ℕ) → Follows (next_places before c) rows
    → row_in (shown_by (catalog_of c) rows) host ≡ (let row : Row = record { records = records_of c host; count = count_from (row_before before host) (records_of c host) } in row)
next_shown before c rows host follows =
    row_shown (catalog_of c) rows host ∙ rw (follows host, shown_records c host) refl

pub rows_within : (before : Option Shown) (c : Configuration) (rows : Rows Places) → AreReady (catalog_of c) → Follows (next_places before c) rows
    → rows.strangers ≡ places_after (strangers_before before) c stranger → AreWithin (catalog_of c) rows
rows_within before c rows ready follows last = record {
  table = ready;
  hosts = λ host. shown_within c host (row_in rows host) (ap (λ (r : Places). r.places) (follows host)) ready;
  strangers = shown_within c stranger rows.strangers (ap (λ (r : Places). r.places) last) ready;
}

pub shows_first : (c : Configuration) (rows : Rows Places) → Follows (next_places None c) rows → ShowsFirst c (shown_by (catalog_of c) rows)
unfolding records_in count_in
shows_first c rows follows = record {
  records = λ host. ap (λ (r : Row). r.records) (next_shown None c rows host follows);
  counts = λ host. ap (λ (r : Row). r.count) (next_shown None c rows host follows);
}

counted : (before : Row) (records : List Parts) (after : Row) → after ≡ (let row : Row = record { records = records; count = count_from (Some before) records } in row)
    → after.count ≡ count_after before.records after.records before.count
counted before records after is = rw is refl

pub shows_next : (c : Configuration) (old : Shown) (rows : Rows Places) → Follows (next_places (Some old) c) rows → ShowsNext c old (shown_by (catalog_of c) rows)
unfolding records_in count_in
shows_next c old rows follows = record {
  records = λ host. ap (λ (r : Row). r.records) (next_shown (Some old) c rows host follows);
  counts = λ host. counted (row_in old host) (records_of c host) (row_in (shown_by (catalog_of c) rows) host) (next_shown (Some old) c rows host follows);
}
