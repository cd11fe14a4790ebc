-- The identifiers of controllers.
use Rattle.std.specs.Prelude.{◌≡◌, ℕ, List, Some}
use Rattle.fabrics_connect.specs.declared.row.Row.{Row}
use Rattle.target_history.specs.Occurrence.{Occurrence}
use Rattle.target_history.specs.History.{row_of}

-- the row that a history gives under an identifier is that of a controller of this identifier
pub record RowsHaveTheirIdentifiers : Type 0 where
  pub own : (happened : List Occurrence) (c : ℕ) (row : Row) → row_of happened c ≡ Some row → row.cntlid ≡ c
