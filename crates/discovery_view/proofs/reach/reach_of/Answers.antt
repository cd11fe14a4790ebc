use Rattle.discovery_view.proofs.Placed.{records_reached}
use Rattle.discovery_view.proofs.Reaches.{nobody_reached}
use Rattle.discovery_view.proofs.reach.reach_of.Goals as goal

pub returns-in-NamespaceAdd : goal.returns-in-NamespaceAdd
returns-in-NamespaceAdd c = nobody_reached c.args.edit.now c.in-NamespaceAdd.is

pub returns-in-PortSet : goal.returns-in-PortSet
returns-in-PortSet c = records_reached c.args.edit.now c.in-PortSet.is
