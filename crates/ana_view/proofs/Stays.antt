-- What a subsystem that stays as it was shows.
use Rattle.std.proofs.Common.{◌≡◌, ℕ, List, find, ap, sym, ◌∙◌}
use Rattle.config_lists.specs.GroupState.{state_for}
use Rattle.config_lists.specs.Namespace.{is_named}
use Rattle.nvt_config.specs.Configuration.{Configuration}
use Rattle.config_lists.proofs.Sets.{nsids_alike}
use Rattle.nvt_config.specs.Reach.{StaysAsItWas}
use Rattle.nvt_config.proofs.Found.{same_namespace, same_state}
use Rattle.ana_view.specs.Group.{descriptor, descriptor_with, is_in_group, listed, members}
use Rattle.ana_view.specs.View.{AreGroupsOf, OfSubsystem}
use Rattle.ana_view.proofs.Counting.{listed_alike}

module _ (old new : Configuration) (subsystem : List ℕ) (stays : StaysAsItWas old new subsystem) where
  members_stay : (group : ℕ) → members new subsystem group ≡ members old subsystem group
  unfolding members
  members_stay group =
      nsids_alike (λ n. is_in_group (find (is_named subsystem n) new.namespaces) group) (λ n. is_in_group (find (is_named subsystem n) old.namespaces) group) (λ nsid above below.
      ap (λ o. is_in_group o group) (same_namespace old new subsystem stays nsid))

  pub descriptor_stays : (port group : ℕ) → descriptor new subsystem port group ≡ descriptor old subsystem port group
  descriptor_stays port group =
      ap (λ state. descriptor_with group state (members new subsystem group)) (same_state old new subsystem stays port group)
      ∙ ap (descriptor_with group (state_for port subsystem group old.states)) (members_stay group)

  pub listed_stays : (port : ℕ) → listed new subsystem port ≡ listed old subsystem port
  listed_stays port = listed_alike (descriptor new subsystem port) (descriptor old subsystem port) (λ group above below. descriptor_stays port group)

  -- the groups of before are those of after
  pub groups_stay : (groups : OfSubsystem) → AreGroupsOf old subsystem groups → AreGroupsOf new subsystem groups
  groups_stay groups are = record { on_each = λ port. are.on_each port ∙ sym (listed_stays port) }
