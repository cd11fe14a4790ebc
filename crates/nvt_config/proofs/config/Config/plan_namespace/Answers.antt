use Rattle.std.proofs.Common.{refl, arith}
use Rattle.config_lists.specs.declared.edit.Edit.TheVariants.{NamespaceAdd}
use Rattle.nvt_config.specs.declared.plan.ListChange.TheVariants.{AddNamespace}
use Rattle.nvt_config.proofs.Effects.{is_plan, namespace_numbers}
use Rattle.nvt_config.proofs.config.Config.plan_namespace.Goals as goal

pub namespace_of-requires-clause-nsid : goal.namespace_of-requires-clause-nsid
namespace_of-requires-clause-nsid c = (namespace_numbers _ _ c.args.namespace.now c.self.view_is c.requires c.self.invariant).nsid

pub namespace_of-requires-clause-disk : goal.namespace_of-requires-clause-disk
namespace_of-requires-clause-disk c = (namespace_numbers _ _ c.args.namespace.now c.self.view_is c.requires c.self.invariant).disk

pub namespace_of-requires-clause-group : goal.namespace_of-requires-clause-group
namespace_of-requires-clause-group c = (namespace_numbers _ _ c.args.namespace.now c.self.view_is c.requires c.self.invariant).group

pub returns : goal.returns
returns c =
    is_plan _ _ (NamespaceAdd c.args.namespace.now) c.new-2.result (AddNamespace c.in_ok-addition.addition) c.self.view_is c.requires c.new-2.ensures (rw (c.in_ok-addition.ensures.same, c.in_ok-namespace.ensures) refl) (omega (arith, c.in_ok-addition.ensures.room)) c.self.invariant
