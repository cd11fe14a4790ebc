-- What an edit will make of a view: of its table of records, and of the rows of places in it.
use Rattle.std.specs.Prelude.{◌≡◌, ◌≤◌, ◌+◌, ◌-◌, ℕ, zero, suc, true, false, List, [], ◌∷◌, ◌++◌, length, take, drop, slice_range, reverse, if◌then◌else◌}
use Rattle.std.specs.Str.{bytes_eq}
use Rattle.discovery_view.specs.declared.rows_plan.RowsPlan.{RowsPlan}
use Rattle.discovery_view.specs.declared.rows_plan.RowsPlan.TheVariants.{Stay, One, All}
use Rattle.nvt_config.specs.Configuration.{Configuration}
use Rattle.discovery_view.specs.Catalog.{catalog_of}
use Rattle.discovery_view.specs.Ready.{AreOf, AreWithin, Places, shown_by}
use Rattle.discovery_view.specs.Record.{Parts, same_parts}
use Rattle.discovery_view.specs.View.{Named, Rows, Shown, ShowsNext}

-- other records come between the first of the table and the last, and this becomes of the rows
pub record Planned : Type 0 where
  pub first : ℕ
  pub last : ℕ
  pub fresh : List Parts
  pub rows : RowsPlan

-- a list with others between the first of it and the last
abbrev pub spliced : {T : Type 0} → List T → ℕ → List T → ℕ → List T
spliced slots first fresh last = take first slots ++ fresh ++ drop (length slots - last) slots

abbrev pub slots_after : List Parts → Planned → List Parts
slots_after slots plan = spliced slots plan.first plan.fresh plan.last

-- the rows of hosts, with this one at that place
abbrev pub row_set : {R : Type 0} → List (Named R) → ℕ → R → List (Named R)
row_set [] place row = []
row_set (h ∷ hosts) zero row = record h { row = row } ∷ hosts
row_set (h ∷ hosts) (suc place) row = h ∷ row_set hosts place row

-- the first row of a name is at that place
abbrev pub IsPlaceOf : {R : Type 0} → List ℕ → List (Named R) → ℕ → Type 0
IsPlaceOf name [] place = ⊥
IsPlaceOf name (h ∷ hosts) zero = bytes_eq name h.name ≡ true
IsPlaceOf name (h ∷ hosts) (suc place) = (bytes_eq name h.name ≡ false) × IsPlaceOf name hosts place

abbrev pub rows_after : Rows Places → RowsPlan → Rows Places
rows_after rows Stay = rows
rows_after rows (One place row) = record rows { hosts = row_set rows.hosts place row }
rows_after rows (All next) = next

abbrev pub shown_after : List Parts → Rows Places → Planned → Shown
shown_after slots rows plan = shown_by (slots_after slots plan) (rows_after rows plan.rows)

-- the table stays as it is, and this becomes of the rows
abbrev pub table_stays : List Parts → RowsPlan → Planned
table_stays slots rows = record { first = length slots; last = 0; fresh = []; rows = rows }

-- a plan that was made for this table, which has room for so many records more, and these rows
pub record IsPlannedFor (slots : List Parts) (rows : Rows Places) (spare : ℕ) (plan : Planned) : Type 0 where
  pub fits : plan.first + plan.last ≤ length slots
  pub room : length plan.fresh ≤ spare
  pub within : AreWithin (slots_after slots plan) (rows_after rows plan.rows)

-- how many of the first records of both tell the same
abbrev pub common_first : List Parts → List Parts → ℕ
common_first [] qs = 0
common_first (p ∷ ps) [] = 0
common_first (p ∷ ps) (q ∷ qs) = if same_parts p q then 1 + common_first ps qs else 0

-- .. of the last
abbrev pub common_last : List Parts → List Parts → ℕ
common_last ps qs = common_first (reverse ps) (reverse qs)

-- the plan leads from this table to the next, and of the first table keeps all that are the same at the beginning, and at the end
pub record IsLeast (slots next : List Parts) (plan : Planned) : Type 0 where
  pub first : plan.first ≡ common_first slots next
  pub last : plan.last ≡ common_last (drop plan.first slots) (drop plan.first next)
  pub fresh : plan.fresh ≡ slice_range next plan.first (length next - plan.last)

-- the plan leads from these lists, with the least change of the table, to what the next configuration shows
pub record LeadsTo (next : Configuration) (shown : Shown) (slots : List Parts) (rows : Rows Places) (plan : Planned) : Type 0 where
  pub shows : ShowsNext next shown (shown_after slots rows plan)
  pub of : AreOf next (slots_after slots plan) (rows_after rows plan.rows)
  pub least : IsLeast slots (catalog_of next) plan
