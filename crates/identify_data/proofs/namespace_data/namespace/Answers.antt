use Rattle.identify_data.specs.Namespace.{namespace_data, namespace_fields}
use Rattle.identify_data.proofs.Parts.{table_of}
use Rattle.identify_data.proofs.namespace_data.namespace.Goals as goal

pub returns : goal.returns
unfolding namespace_data
returns c = rw (c.in-Some.is, table_of (namespace_fields c.in-Some.namespace.now)) (cc)
