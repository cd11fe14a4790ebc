-- What a plan makes of a configuration.
use Rattle.std.specs.Prelude.{◌≡◌, ◌<◌, length, vec_capacity, Ok}
use Rattle.config_lists.specs.declared.edit.Edit.{Edit}
use Rattle.nvt_config.specs.Accept.{accept}
use Rattle.nvt_config.specs.Configuration.{Configuration, with_subsystem, with_access, without_subsystem, with_namespace, with_namespace_set, without_namespace, with_port, with_port_set, without_port, with_link, without_link, with_live, with_new_host, with_allow, without_allow, with_new_state, with_state_set, without_state, with_referral, with_referral_set, without_referral, with_show, without_show}
use Rattle.nvt_config.specs.Valid.{IsValid}
use Rattle.nvt_config.specs.declared.plan.ListChange.{ListChange}
use Rattle.nvt_config.specs.declared.plan.ListChange.TheVariants.{AddSubsystem, SetAccess, RemoveSubsystem, AddNamespace, SetNamespace, RemoveNamespace, AddPort, ReplacePort, RemovePort, AddLink, RemoveLink, AddHost, SetLive, AddAllow, RemoveAllow, AddState, ReplaceState, RemoveState, AddReferral, ReplaceReferral, RemoveReferral, AddShow, RemoveShow}
use Rattle.nvt_config.specs.declared.plan.Plan.{Plan}

abbrev pub changed_by : ListChange → Configuration → Configuration
changed_by (AddSubsystem addition) c = with_subsystem c addition.item
changed_by (SetAccess nqn access) c = with_access c nqn.now access
changed_by (RemoveSubsystem nqn) c = without_subsystem c nqn.now
changed_by (AddNamespace addition) c = with_namespace c addition.item
changed_by (SetNamespace nqn nsid value) c = with_namespace_set c nqn.now nsid value
changed_by (RemoveNamespace nqn nsid) c = without_namespace c nqn.now nsid
changed_by (AddPort addition) c = with_port c addition.item
changed_by (ReplacePort port) c = with_port_set c port
changed_by (RemovePort id) c = without_port c id
changed_by (AddLink addition) c = with_link c addition.item
changed_by (RemoveLink port nqn) c = without_link c port nqn.now
changed_by (AddHost addition) c = with_new_host c addition.item
changed_by (SetLive nqn live) c = with_live c nqn.now live
changed_by (AddAllow addition) c = with_allow c addition.item
changed_by (RemoveAllow nqn host) c = without_allow c nqn.now host.now
changed_by (AddState addition) c = with_new_state c addition.item
changed_by (ReplaceState port nqn group state) c = with_state_set c port nqn.now group state
changed_by (RemoveState port nqn group) c = without_state c port nqn.now group
changed_by (AddReferral addition) c = with_referral c addition.item
changed_by (ReplaceReferral referral) c = with_referral_set c referral
changed_by (RemoveReferral id) c = without_referral c id
changed_by (AddShow addition) c = with_show c addition.item
changed_by (RemoveShow nqn nsid host) c = without_show c nqn.now nsid host.now

-- the configuration that a plan makes of this one
abbrev pub made : Plan → Configuration → Configuration
made plan c = changed_by plan.change c

-- what is added comes with room for the list that it makes longer
abbrev pub HasRoom : ListChange → Configuration → Type 0
HasRoom (AddSubsystem addition) c = length c.subsystems < vec_capacity addition.list
HasRoom (SetAccess nqn access) c = Unit {0}
HasRoom (RemoveSubsystem nqn) c = Unit {0}
HasRoom (AddNamespace addition) c = length c.namespaces < vec_capacity addition.list
HasRoom (SetNamespace nqn nsid value) c = Unit {0}
HasRoom (RemoveNamespace nqn nsid) c = Unit {0}
HasRoom (AddPort addition) c = length c.ports < vec_capacity addition.list
HasRoom (ReplacePort port) c = Unit {0}
HasRoom (RemovePort id) c = Unit {0}
HasRoom (AddLink addition) c = length c.links < vec_capacity addition.list
HasRoom (RemoveLink port nqn) c = Unit {0}
HasRoom (AddHost addition) c = length c.hosts < vec_capacity addition.list
HasRoom (SetLive nqn live) c = Unit {0}
HasRoom (AddAllow addition) c = length c.allows < vec_capacity addition.list
HasRoom (RemoveAllow nqn host) c = Unit {0}
HasRoom (AddState addition) c = length c.states < vec_capacity addition.list
HasRoom (ReplaceState port nqn group state) c = Unit {0}
HasRoom (RemoveState port nqn group) c = Unit {0}
HasRoom (AddReferral addition) c = length c.referrals < vec_capacity addition.list
HasRoom (ReplaceReferral referral) c = Unit {0}
HasRoom (RemoveReferral id) c = Unit {0}
HasRoom (AddShow addition) c = length c.shows < vec_capacity addition.list
HasRoom (RemoveShow nqn nsid host) c = Unit {0}

-- the plan can be carried out: it makes a configuration within its limits, and has all the memory for it
pub record IsReady (plan : Plan) (c : Configuration) : Type 0 where
  pub room : HasRoom plan.change c
  pub valid : IsValid (made plan c)

-- the plan makes of the configuration what the edit makes of it, and is ready to
pub record IsPlanOf (c : Configuration) (edit : Edit) (plan : Plan) : Type 0 where
  pub makes : accept c edit ≡ Ok (made plan c)
  pub ready : IsReady plan c
