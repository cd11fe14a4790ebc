use Rattle.identify_data.specs.Controller.{controller_data, controller_fields, controller_of}
use Rattle.identify_data.proofs.Parts.{table_of}
use Rattle.identify_data.proofs.controller_data.controller.Goals as goal

pub returns : goal.returns
unfolding controller_data
returns c = rw (table_of (controller_fields (controller_of c.args.identity.now))) (cc)
