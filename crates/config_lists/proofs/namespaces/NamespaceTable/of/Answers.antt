use Rattle.std.proofs.Common.{◌∙◌, None, arith}
use Rattle.std.proofs.Math.ListN.{get_or-map}
use Rattle.std.proofs.lemmas.List.{length-map}
use Rattle.std.specs.Option.{option_copied}
use Rattle.config_lists.proofs.Tables.{none_at_first}
use Rattle.config_lists.proofs.namespaces.NamespaceTable.of.Goals as goal

pub set_places-requires-clause-empty : goal.set_places-requires-clause-empty
set_places-requires-clause-empty c = none_at_first 4097

pub returns-clause-found : goal.returns-clause-found
returns-clause-found c = λ nsid within.
    get_or-map option_copied c.set_places.new.places nsid None ∙ c.set_places.ensures.places nsid (omega (arith, within, c.set_places.ensures.len))

pub returns-clause-len : goal.returns-clause-len
returns-clause-len c = length-map c.set_places.new.places option_copied ∙ c.set_places.ensures.len
