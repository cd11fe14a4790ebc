-- What a table ends as, where a `&mut` to one of its values is returned.
use Rattle.std.specs.Prelude.{ℕ, List, Option}
use Rattle.std.specs.Borrow.{LendsIf, Fml, RattleType, MutBor}
use Rattle.tables.specs.NumberTable.{with_value}
use Rattle.tables.specs.contracts.number_table.NumberTable.{the_row}

module _ (T : RattleType) (table : MutBor (List (Option T.Denot))) (number : ℕ) where
  -- once the borrow r ends, the number has the last value written through r, and at `None` the
  -- table stays as it is
  abbrev pub lends_get : Option (MutBor T.Denot) → Fml
  lends_get r = LendsIf (the_row T) T table r (with_value table.now number) table.now
