-- The change counts of one controller (Base 2.0, section 5.16.1.13).
use Rattle.std.specs.Prelude.{ℕ, ◌+◌, ◌-◌, ◌%◌, ◌^◌, Bool, true, false, List, map, slice_index}
use Rattle.nvt_config.specs.Configuration.{Configuration}
use Rattle.config_lists.specs.Numbered.{numbers_from}
use Rattle.ana_view.specs.Group.{any_group, changes_group}

-- how often what is shown changed, and how often each group from 1 to 32 did
pub record Counts : Type 0 where
  pub changes : ℕ
  pub groups : List ℕ

-- a number for each group from 1 to 32
unfoldable pub for_each_group : (ℕ → ℕ) → List ℕ
for_each_group count = map count (numbers_from 1 32)

abbrev pub no_changes : Counts
no_changes = record { changes = 0; groups = for_each_group (λ group. 0) }

-- the count of a group
abbrev pub count_in : List ℕ → ℕ → ℕ
count_in groups group = slice_index groups (group - 1)

-- one more where something changed; a count goes round after 64 bits
abbrev pub count_after : Bool → ℕ → ℕ
count_after true n = (n + 1) % 2 ^ 64
count_after false n = n

-- the counts after some groups have changed
abbrev pub counts_with : (ℕ → Bool) → Counts → Counts
counts_with changed counts = record {
  changes = count_after (any_group changed) counts.changes;
  groups = for_each_group (λ group. count_after (changed group) (count_in counts.groups group));
}

-- .. after a change from one configuration to another
abbrev pub counts_after : Configuration → Configuration → List ℕ → ℕ → Counts → Counts
counts_after old new subsystem port counts = counts_with (changes_group old new subsystem port) counts
