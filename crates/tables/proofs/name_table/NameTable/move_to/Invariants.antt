use Rattle.std.proofs.Common.{◌≡◌, ◌<◌, ◌++◌, length}
use Rattle.indexmap.specs.IndexMap.{spare}
use Rattle.tables.proofs.name_table.NameTable.move_to.Given as goal

-- what was moved and what is left are all that was there, and there is room for what is left and one more
abbrev pub invariant-loop-name : goal.invariant-loop-name
invariant-loop-name g l =
    (goal.iterator-loop-name g).can_next l.name-iterator ×
    (goal.iterator-loop-name g).is_finite l.name-iterator ×
    (l.values.entries ++ l.name-iterator ≡ l.initial.name-iterator) ×
    (length l.name-iterator < spare l.values)
