-- A discovery view, as its callers see it: the records that each host is shown, and how often they changed.
use Rattle.std.specs.Prelude.{◌≡◌, ℕ, ◌+◌, ◌%◌, ◌^◌, Bool, not, List, [], ◌∷◌, if◌then◌else◌}
use Rattle.std.specs.Str.{bytes_eq}
use Rattle.nvt_config.specs.Configuration.{Configuration}
use Rattle.discovery_view.specs.Page.{discovery_page}
use Rattle.discovery_view.specs.Record.{Parts, same_records}
use Rattle.discovery_view.specs.Records.{records_of}

-- what a view has ready for a host: its records, and its generation counter
pub record Row : Type 0 where
  pub records : List Parts
  pub count : ℕ

-- .. for the host of this name
pub record Named (R : Type 0) : Type 0 where
  pub name : List ℕ
  pub row : R

-- rows of hosts, and that of the strangers
pub record Rows (R : Type 0) : Type 0 where
  pub hosts : List (Named R)
  pub strangers : R

-- What a view shows: to each host whose name was ever added its own row, and to every other, a stranger, the row
-- of the strangers. Callers go by `records_in`, `count_in` and `page_in` alone: that it is kept as these rows is the
-- view's own.
abbrev pub Shown : Type 0
Shown = Rows Row

-- whether a change from one configuration to another changes the host's records
abbrev pub changes_discovery : Configuration → Configuration → List ℕ → Bool
changes_discovery old new host = not (same_records (records_of old host) (records_of new host))

-- 1 where it does
abbrev pub changes_records : Configuration → Configuration → List ℕ → ℕ
changes_records old new host = if same_records (records_of old host) (records_of new host) then 0 else 1

-- the row of the host of this name, among those of hosts and that of the strangers
abbrev pub row_among : {R : Type 0} → List (Named R) → R → List ℕ → R
row_among [] strangers host = strangers
row_among (h ∷ hosts) strangers host = if bytes_eq host h.name then h.row else row_among hosts strangers host

-- a host whose name was never added is a stranger: all strangers share one row
abbrev pub row_in : {R : Type 0} → Rows R → List ℕ → R
row_in v host = row_among v.hosts v.strangers host

-- the records that a host is shown
unfoldable pub records_in : Shown → List ℕ → List Parts
records_in v host = (row_in v host).records

-- the generation counter of a host, which goes round after 64 bits
unfoldable pub count_in : Shown → List ℕ → ℕ
count_in v host = (row_in v host).count

-- the discovery log page of a host
abbrev pub page_in : Shown → List ℕ → List ℕ
page_in v host = discovery_page (count_in v host) (records_in v host)

-- each host is shown the records of this configuration, and none has changed yet
pub record ShowsFirst (c : Configuration) (v : Shown) : Type 0 where
  pub records : (host : List ℕ) → records_in v host ≡ records_of c host
  pub counts : (host : List ℕ) → count_in v host ≡ 0

-- what becomes of a count where records go from these to those: one more, unless they are the same
abbrev pub count_after : List Parts → List Parts → ℕ → ℕ
count_after old new count = if same_records old new then count else (count + 1) % 2 ^ 64

-- after a change to this configuration each host is shown its records, and its count has gone on with them
pub record ShowsNext (c : Configuration) (old new : Shown) : Type 0 where
  pub records : (host : List ℕ) → records_in new host ≡ records_of c host
  pub counts : (host : List ℕ) → count_in new host ≡ count_after (records_in old host) (records_in new host) (count_in old host)
