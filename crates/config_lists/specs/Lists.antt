-- Changes of a list at the items that a test names.
use Rattle.std.specs.Prelude.{Bool, not, List, map, filter, if◌then◌else◌}

-- each item that passes the test is changed, and stays in its place
abbrev pub changed_where : {X : Type 0} → (X → Bool) → (X → X) → List X → List X
changed_where test change xs = map (λ x. if test x then change x else x) xs

-- the items that fail the test, closed up
abbrev pub without : {X : Type 0} → (X → Bool) → List X → List X
without test xs = filter (λ x. not (test x)) xs
