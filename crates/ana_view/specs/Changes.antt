-- The change counts of one controller, by all that happened to it since its beginning. The newest stands first.
use Rattle.std.specs.Prelude.{ℕ, ◌+◌, ◌%◌, ◌^◌, Bool, true, false, List, [], ◌∷◌}
use Rattle.nvt_config.specs.Configuration.{Configuration}
use Rattle.ana_view.specs.Counts.{Counts, for_each_group}
use Rattle.ana_view.specs.Group.{changes_ana, changes_group}

-- an edit made of one configuration another; the controller was enabled
pub data Occurrence : Type 0 where
  edited : Configuration → Configuration → Occurrence
  enabled : Occurrence

abbrev pub one_where : Bool → ℕ
one_where true = 1
one_where false = 0

-- how many edits since the controller was last enabled changed what it shows
abbrev pub changes_since : List Occurrence → List ℕ → ℕ → ℕ
changes_since [] subsystem port = 0
changes_since (edited old new ∷ before) subsystem port = one_where (changes_ana old new subsystem port) + changes_since before subsystem port
changes_since (enabled ∷ before) subsystem port = 0

-- .. changed a group's descriptor
abbrev pub group_changes_since : List Occurrence → List ℕ → ℕ → ℕ → ℕ
group_changes_since [] subsystem port group = 0
group_changes_since (edited old new ∷ before) subsystem port group =
    one_where (changes_group old new subsystem port group) + group_changes_since before subsystem port group
group_changes_since (enabled ∷ before) subsystem port group = 0

-- the counts of a controller of that subsystem on that port to which this happened, modulo 2^64
abbrev pub counts_of : List Occurrence → List ℕ → ℕ → Counts
counts_of happened subsystem port = record {
  changes = changes_since happened subsystem port % 2 ^ 64;
  groups = for_each_group (λ group. group_changes_since happened subsystem port group % 2 ^ 64);
}
