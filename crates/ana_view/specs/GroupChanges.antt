-- Which ANA groups an edit changes.
use Rattle.std.specs.Prelude.{◌≡◌, ◌≤◌, ◌==◌, ℕ, ◌-◌, Bool, false, not, List, Option, find, slice_index_or}
use Rattle.nvt_config.specs.Configuration.{Configuration}
use Rattle.ana_view.specs.Group.{Descriptor, are_same, changes_group}

-- whether a group is one of those that changed
abbrev pub has_changed : List Bool → ℕ → Bool
has_changed changes group = slice_index_or changes (group - 1) false

-- they are those that change from one configuration to another, as the controllers of that subsystem on that port show
-- them
abbrev pub AreChanges : Configuration → Configuration → List ℕ → ℕ → List Bool → Type 0
AreChanges old new subsystem port changes =
    (group : ℕ) → 1 ≤ group → group ≤ 32 → has_changed changes group ≡ changes_group old new subsystem port group

-- the descriptor of a group in a listing, if it is there
abbrev pub group_in : List Descriptor → ℕ → Option Descriptor
group_in listing group = find (λ g. g.id == group) listing

-- whether a group's descriptor is another in the second listing than in the first, absence being a value
abbrev pub differs_in : List Descriptor → List Descriptor → ℕ → Bool
differs_in old new group = not (are_same (group_in old group) (group_in new group))
