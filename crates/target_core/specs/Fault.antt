-- The words of what a call of a target answers.
use Rattle.std.specs.Prelude.{ℕ, List, codes}
use Rattle.target_core.specs.declared.fault.OpenFault.{OpenFault}
use Rattle.target_core.specs.declared.fault.OpenFault.TheVariants.{NoSuchPort, Full, Memory}

-- why a connection is not opened
abbrev pub word_of_open_fault : OpenFault → List ℕ
word_of_open_fault NoSuchPort = codes "NoSuchPort"
word_of_open_fault Full = codes "Full"
word_of_open_fault Memory = codes "Memory"
