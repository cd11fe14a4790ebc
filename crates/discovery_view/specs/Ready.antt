-- What a view has ready: a table of records, and for each host the places of its records in that table.
use Rattle.std.specs.Prelude.{◌≡◌, ◌≤◌, ◌<◌, ℕ, Bool, List, [], ◌∷◌, ◌++◌, All, length, map, fold, replicate, Option, None, Some, if◌then◌else◌}
use Rattle.std.specs.List.{list_any}
use Rattle.std.specs.Str.{bytes_eq}
use Rattle.nvt_config.specs.Configuration.{Configuration}
use Rattle.discovery_view.specs.declared.finding.Finding.{Finding}
use Rattle.discovery_view.specs.declared.finding.Finding.TheVariants.{Sought, Kept}
use Rattle.discovery_view.specs.Catalog.{catalog_of, places_of, records_at}
use Rattle.discovery_view.specs.Record.{Parts, record_of}
use Rattle.discovery_view.specs.Records.{records_of}
use Rattle.discovery_view.specs.View.{Named, Row, Rows, Shown, count_after, row_in}

-- records are not more than these, and have 1,024 bytes each
pub record AreReady (records : List Parts) : Type 0 where
  pub few : length records ≤ 1056
  pub whole : All (λ p. length (record_of p) ≡ 1024) records

-- ---- rows of any kind

-- whether there is a row of that name
abbrev pub has_row : {R : Type 0} → List (Named R) → List ℕ → Bool
has_row hosts host = list_any (λ h. bytes_eq host h.name) hosts

-- with a row of the host, unless there is one
abbrev pub with_row : {R : Type 0} → (List ℕ → R) → Rows R → List ℕ → Rows R
with_row next v host =
    if has_row v.hosts host then v else record v { hosts = v.hosts ++ (record { name = host; row = next host }) ∷ [] }

-- .. of each of these hosts
abbrev pub with_rows : {R : Type 0} → (List ℕ → R) → Rows R → List (List ℕ) → Rows R
with_rows next v hosts = fold (with_row next) v hosts

-- each host has its next row
abbrev pub Follows : {R : Type 0} → (List ℕ → R) → Rows R → Type 0
Follows next v = (host : List ℕ) → row_in v host ≡ next host

-- the names that have a row of their own
abbrev pub names_in : {R : Type 0} → Rows R → List (List ℕ)
names_in v = map (λ h. h.name) v.hosts

-- a text that is longer than any name, and so the name of no host
abbrev pub stranger : List ℕ
stranger = replicate 224 0

-- ---- rows of places

-- the places of a host's records, and its generation counter
pub record Places : Type 0 where
  pub places : List ℕ
  pub count : ℕ

abbrev pub row_at : List Parts → Places → Row
row_at slots row = record { records = records_at slots row.places; count = row.count }

-- what is shown by a table of records and the rows of places in it
abbrev pub shown_by : List Parts → Rows Places → Shown
shown_by slots rows = record {
  hosts = map (λ h. record { name = h.name; row = row_at slots h.row }) rows.hosts;
  strangers = row_at slots rows.strangers;
}

-- each place of a row is one of the table, and what is there is ready, as the table is
pub record IsWithin (slots : List Parts) (row : Places) : Type 0 where
  pub places : All (λ place. place < length slots) row.places
  pub ready : AreReady (records_at slots row.places)

pub record AreWithin (slots : List Parts) (rows : Rows Places) : Type 0 where
  pub table : AreReady slots
  pub hosts : (host : List ℕ) → IsWithin slots (row_in rows host)
  pub strangers : IsWithin slots rows.strangers

-- the count after the row before, which has gone on with these records, or 0 where nothing was before
abbrev pub count_from : Option Row → List Parts → ℕ
count_from None records = 0
count_from (Some old) records = count_after old.records records old.count

-- the row that a host was shown before, if there was a view before
abbrev pub row_before : Option Shown → List ℕ → Option Row
row_before None host = None
row_before (Some v) host = Some (row_in v host)

-- .. that the strangers were shown
abbrev pub strangers_before : Option Shown → Option Row
strangers_before None = None
strangers_before (Some v) = Some v.strangers

-- the row of a host that is shown this configuration now, after this row
abbrev pub places_after : Option Row → Configuration → List ℕ → Places
places_after before c host = record { places = places_of c host; count = count_from before (records_of c host) }

abbrev pub next_places : Option Shown → Configuration → List ℕ → Places
next_places before c host = places_after (row_before before host) c host

abbrev pub names_before : Option Shown → List (List ℕ)
names_before None = []
names_before (Some v) = names_in v

-- ---- the state

-- the lists as contracts see them: what is shown, the table of records, the rows of places in it, and for how many more
-- records it has room
pub record ListsState : Type 0 where
  pub shown : Shown
  pub slots : List Parts
  pub rows : Rows Places
  pub room : ℕ

abbrev pub shown_before : Option ListsState → Option Shown
shown_before None = None
shown_before (Some lists) = Some lists.shown

-- the places of what each host is shown by this configuration are where they were, if they are not looked for
abbrev pub AreFound : Finding → Option ListsState → Configuration → Type 0
AreFound Sought before c = Unit {0}
AreFound Kept None c = Unit {0}
AreFound Kept (Some lists) c = (host : List ℕ) → (row_in lists.rows host).places ≡ places_of c host

-- a view, as contracts see it: what it shows, the table of records, the rows of places in it, for how many more records
-- it has room, and how many were formed
pub record ViewState : Type 0 where
  pub shown : Shown
  pub slots : List Parts
  pub rows : Rows Places
  pub room : ℕ
  pub formed : ℕ

-- the table and the rows are those of this configuration: a view that has them shows it
pub record AreOf (c : Configuration) (slots : List Parts) (rows : Rows Places) : Type 0 where
  pub table : slots ≡ catalog_of c
  pub places : (host : List ℕ) → (row_in rows host).places ≡ places_of c host
