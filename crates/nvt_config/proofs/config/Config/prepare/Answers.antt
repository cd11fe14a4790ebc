use Rattle.std.proofs.Common.{refl}
use Rattle.nvt_config.proofs.Effects.{is_plan}
use Rattle.nvt_config.proofs.config.Config.prepare.Goals as goal

pub returns-in-SubsystemSet : goal.returns-in-SubsystemSet
returns-in-SubsystemSet c =
    rw c.in-SubsystemSet.is (is_plan _ _ _ c.new.result _ c.self.view_is (rw c.in-SubsystemSet.is at c.requires) c.new.ensures refl tt c.self.invariant)

pub returns-in-SubsystemDel : goal.returns-in-SubsystemDel
returns-in-SubsystemDel c =
    rw c.in-SubsystemDel.is (is_plan _ _ _ c.new-in-SubsystemDel.result _ c.self.view_is (rw c.in-SubsystemDel.is at c.requires) c.new-in-SubsystemDel.ensures refl tt c.self.invariant)

pub returns-in-PortDel : goal.returns-in-PortDel
returns-in-PortDel c =
    rw c.in-PortDel.is (is_plan _ _ _ c.new-in-PortDel.result _ c.self.view_is (rw c.in-PortDel.is at c.requires) c.new-in-PortDel.ensures refl tt c.self.invariant)

pub returns-in-LinkDel : goal.returns-in-LinkDel
returns-in-LinkDel c =
    rw c.in-LinkDel.is (is_plan _ _ _ c.new-in-LinkDel.result _ c.self.view_is (rw c.in-LinkDel.is at c.requires) c.new-in-LinkDel.ensures refl tt c.self.invariant)

pub returns-in-HostDel : goal.returns-in-HostDel
returns-in-HostDel c =
    rw c.in-HostDel.is (is_plan _ _ _ c.new-in-HostDel.result _ c.self.view_is (rw c.in-HostDel.is at c.requires) c.new-in-HostDel.ensures refl tt c.self.invariant)

pub returns-in-NamespaceSize : goal.returns-in-NamespaceSize
returns-in-NamespaceSize c =
    rw c.in-NamespaceSize.is (is_plan _ _ _ c.new-in-NamespaceSize.result _ c.self.view_is (rw c.in-NamespaceSize.is at c.requires) c.new-in-NamespaceSize.ensures refl tt c.self.invariant)

pub returns-in-NamespaceGroup : goal.returns-in-NamespaceGroup
returns-in-NamespaceGroup c =
    rw c.in-NamespaceGroup.is (is_plan _ _ _ c.new-in-NamespaceGroup.result _ c.self.view_is (rw c.in-NamespaceGroup.is at c.requires) c.new-in-NamespaceGroup.ensures refl tt c.self.invariant)

pub returns-in-NamespaceDel : goal.returns-in-NamespaceDel
returns-in-NamespaceDel c =
    rw c.in-NamespaceDel.is (is_plan _ _ _ c.new-in-NamespaceDel.result _ c.self.view_is (rw c.in-NamespaceDel.is at c.requires) c.new-in-NamespaceDel.ensures refl tt c.self.invariant)

pub returns-in-AllowDel : goal.returns-in-AllowDel
returns-in-AllowDel c =
    rw c.in-AllowDel.is (is_plan _ _ _ c.new-in-AllowDel.result _ c.self.view_is (rw c.in-AllowDel.is at c.requires) c.new-in-AllowDel.ensures refl tt c.self.invariant)

pub returns-in-ReferralDel : goal.returns-in-ReferralDel
returns-in-ReferralDel c =
    rw c.in-ReferralDel.is (is_plan _ _ _ c.new-in-ReferralDel.result _ c.self.view_is (rw c.in-ReferralDel.is at c.requires) c.new-in-ReferralDel.ensures refl tt c.self.invariant)

pub returns-in-NamespaceView : goal.returns-in-NamespaceView
returns-in-NamespaceView c =
    rw c.in-NamespaceView.is (is_plan _ _ _ c.new-in-NamespaceView.result _ c.self.view_is (rw c.in-NamespaceView.is at c.requires) c.new-in-NamespaceView.ensures refl tt c.self.invariant)

pub returns-in-NamespaceHide : goal.returns-in-NamespaceHide
returns-in-NamespaceHide c =
    rw c.in-NamespaceHide.is (is_plan _ _ _ c.new-in-NamespaceHide.result _ c.self.view_is (rw c.in-NamespaceHide.is at c.requires) c.new-in-NamespaceHide.ensures refl tt c.self.invariant)
