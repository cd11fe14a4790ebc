use Rattle.nvt_config.proofs.config.Config.commit.Goals as goal

pub add_subsystem-requires-clause-room : goal.add_subsystem-requires-clause-room
add_subsystem-requires-clause-room c = rw c.in-AddSubsystem.is (rw c.in-AddSubsystem.is at c.requires.room)

pub add_subsystem-requires-clause-valid : goal.add_subsystem-requires-clause-valid
add_subsystem-requires-clause-valid c = rw c.in-AddSubsystem.is (rw c.in-AddSubsystem.is at c.requires.valid)

pub returns-in-AddSubsystem : goal.returns-in-AddSubsystem
returns-in-AddSubsystem c = rw c.in-AddSubsystem.is (rw c.in-AddSubsystem.is at c.add_subsystem.ensures)

pub set_access-requires : goal.set_access-requires
set_access-requires c = rw c.in-SetAccess.is at c.requires.valid

pub returns-in-SetAccess : goal.returns-in-SetAccess
returns-in-SetAccess c = rw c.in-SetAccess.is c.set_access.ensures

pub remove_subsystem-requires : goal.remove_subsystem-requires
remove_subsystem-requires c = rw c.in-RemoveSubsystem.is at c.requires.valid

pub returns-in-RemoveSubsystem : goal.returns-in-RemoveSubsystem
returns-in-RemoveSubsystem c = rw c.in-RemoveSubsystem.is c.remove_subsystem.ensures

pub add_namespace-requires-clause-room : goal.add_namespace-requires-clause-room
add_namespace-requires-clause-room c = rw c.in-AddNamespace.is (rw c.in-AddNamespace.is at c.requires.room)

pub add_namespace-requires-clause-valid : goal.add_namespace-requires-clause-valid
add_namespace-requires-clause-valid c = rw c.in-AddNamespace.is (rw c.in-AddNamespace.is at c.requires.valid)

pub returns-in-AddNamespace : goal.returns-in-AddNamespace
returns-in-AddNamespace c = rw c.in-AddNamespace.is (rw c.in-AddNamespace.is at c.add_namespace.ensures)

pub set_namespace-requires : goal.set_namespace-requires
set_namespace-requires c = rw c.in-SetNamespace.is at c.requires.valid

pub returns-in-SetNamespace : goal.returns-in-SetNamespace
returns-in-SetNamespace c = rw c.in-SetNamespace.is c.set_namespace.ensures

pub remove_namespace-requires : goal.remove_namespace-requires
remove_namespace-requires c = rw c.in-RemoveNamespace.is at c.requires.valid

pub returns-in-RemoveNamespace : goal.returns-in-RemoveNamespace
returns-in-RemoveNamespace c = rw c.in-RemoveNamespace.is c.remove_namespace.ensures

pub add_port-requires-clause-room : goal.add_port-requires-clause-room
add_port-requires-clause-room c = rw c.in-AddPort.is (rw c.in-AddPort.is at c.requires.room)

pub add_port-requires-clause-valid : goal.add_port-requires-clause-valid
add_port-requires-clause-valid c = rw c.in-AddPort.is (rw c.in-AddPort.is at c.requires.valid)

pub returns-in-AddPort : goal.returns-in-AddPort
returns-in-AddPort c = rw c.in-AddPort.is (rw c.in-AddPort.is at c.add_port.ensures)

pub replace_port-requires : goal.replace_port-requires
replace_port-requires c = rw c.in-ReplacePort.is (rw c.in-ReplacePort.is at c.requires.valid)

pub returns-in-ReplacePort : goal.returns-in-ReplacePort
returns-in-ReplacePort c = rw c.in-ReplacePort.is (rw c.in-ReplacePort.is at c.replace_port.ensures)

pub add_link-requires-clause-room : goal.add_link-requires-clause-room
add_link-requires-clause-room c = rw c.in-AddLink.is (rw c.in-AddLink.is at c.requires.room)

pub add_link-requires-clause-valid : goal.add_link-requires-clause-valid
add_link-requires-clause-valid c = rw c.in-AddLink.is (rw c.in-AddLink.is at c.requires.valid)

pub returns-in-AddLink : goal.returns-in-AddLink
returns-in-AddLink c = rw c.in-AddLink.is (rw c.in-AddLink.is at c.add_link.ensures)

pub remove_link-requires : goal.remove_link-requires
remove_link-requires c = rw c.in-RemoveLink.is at c.requires.valid

pub returns-in-RemoveLink : goal.returns-in-RemoveLink
returns-in-RemoveLink c = rw c.in-RemoveLink.is c.remove_link.ensures

pub add_host-requires-clause-room : goal.add_host-requires-clause-room
add_host-requires-clause-room c = rw c.in-AddHost.is (rw c.in-AddHost.is at c.requires.room)

pub add_host-requires-clause-valid : goal.add_host-requires-clause-valid
add_host-requires-clause-valid c = rw c.in-AddHost.is (rw c.in-AddHost.is at c.requires.valid)

pub returns-in-AddHost : goal.returns-in-AddHost
returns-in-AddHost c = rw c.in-AddHost.is (rw c.in-AddHost.is at c.add_host.ensures)

pub set_live-requires : goal.set_live-requires
set_live-requires c = rw c.in-SetLive.is at c.requires.valid

pub returns-in-SetLive : goal.returns-in-SetLive
returns-in-SetLive c = rw c.in-SetLive.is c.set_live.ensures

pub add_allow-requires-clause-room : goal.add_allow-requires-clause-room
add_allow-requires-clause-room c = rw c.in-AddAllow.is (rw c.in-AddAllow.is at c.requires.room)

pub add_allow-requires-clause-valid : goal.add_allow-requires-clause-valid
add_allow-requires-clause-valid c = rw c.in-AddAllow.is (rw c.in-AddAllow.is at c.requires.valid)

pub returns-in-AddAllow : goal.returns-in-AddAllow
returns-in-AddAllow c = rw c.in-AddAllow.is (rw c.in-AddAllow.is at c.add_allow.ensures)

pub remove_allow-requires : goal.remove_allow-requires
remove_allow-requires c = rw c.in-RemoveAllow.is at c.requires.valid

pub returns-in-RemoveAllow : goal.returns-in-RemoveAllow
returns-in-RemoveAllow c = rw c.in-RemoveAllow.is c.remove_allow.ensures

pub add_state-requires-clause-room : goal.add_state-requires-clause-room
add_state-requires-clause-room c = rw c.in-AddState.is (rw c.in-AddState.is at c.requires.room)

pub add_state-requires-clause-valid : goal.add_state-requires-clause-valid
add_state-requires-clause-valid c = rw c.in-AddState.is (rw c.in-AddState.is at c.requires.valid)

pub returns-in-AddState : goal.returns-in-AddState
returns-in-AddState c = rw c.in-AddState.is (rw c.in-AddState.is at c.add_state.ensures)

pub replace_state-requires : goal.replace_state-requires
replace_state-requires c = rw c.in-ReplaceState.is at c.requires.valid

pub returns-in-ReplaceState : goal.returns-in-ReplaceState
returns-in-ReplaceState c = rw c.in-ReplaceState.is c.replace_state.ensures

pub remove_state-requires : goal.remove_state-requires
remove_state-requires c = rw c.in-RemoveState.is at c.requires.valid

pub returns-in-RemoveState : goal.returns-in-RemoveState
returns-in-RemoveState c = rw c.in-RemoveState.is c.remove_state.ensures

pub add_referral-requires-clause-room : goal.add_referral-requires-clause-room
add_referral-requires-clause-room c = rw c.in-AddReferral.is (rw c.in-AddReferral.is at c.requires.room)

pub add_referral-requires-clause-valid : goal.add_referral-requires-clause-valid
add_referral-requires-clause-valid c = rw c.in-AddReferral.is (rw c.in-AddReferral.is at c.requires.valid)

pub returns-in-AddReferral : goal.returns-in-AddReferral
returns-in-AddReferral c = rw c.in-AddReferral.is (rw c.in-AddReferral.is at c.add_referral.ensures)

pub replace_referral-requires : goal.replace_referral-requires
replace_referral-requires c = rw c.in-ReplaceReferral.is (rw c.in-ReplaceReferral.is at c.requires.valid)

pub returns-in-ReplaceReferral : goal.returns-in-ReplaceReferral
returns-in-ReplaceReferral c = rw c.in-ReplaceReferral.is (rw c.in-ReplaceReferral.is at c.replace_referral.ensures)

pub remove_referral-requires : goal.remove_referral-requires
remove_referral-requires c = rw c.in-RemoveReferral.is at c.requires.valid

pub returns-in-RemoveReferral : goal.returns-in-RemoveReferral
returns-in-RemoveReferral c = rw c.in-RemoveReferral.is c.remove_referral.ensures

pub add_show-requires-clause-room : goal.add_show-requires-clause-room
add_show-requires-clause-room c = rw c.in-AddShow.is (rw c.in-AddShow.is at c.requires.room)

pub add_show-requires-clause-valid : goal.add_show-requires-clause-valid
add_show-requires-clause-valid c = rw c.in-AddShow.is (rw c.in-AddShow.is at c.requires.valid)

pub returns-in-AddShow : goal.returns-in-AddShow
returns-in-AddShow c = rw c.in-AddShow.is (rw c.in-AddShow.is at c.add_show.ensures)

pub remove_show-requires : goal.remove_show-requires
remove_show-requires c = rw c.in-RemoveShow.is at c.requires.valid

pub returns-in-RemoveShow : goal.returns-in-RemoveShow
returns-in-RemoveShow c = rw c.in-RemoveShow.is c.remove_show.ensures
