-- The I/O queues of a controller: whether it has each, by its identifier from 1 to 8. Place 0 is never used.
use Rattle.std.specs.Prelude.{Bool, false, List, replicate}

abbrev pub no_queues : List Bool
no_queues = replicate 9 false
