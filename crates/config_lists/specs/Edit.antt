-- What each edit promises, whatever made it.
use Rattle.nvt_fields.specs.Name.{IsName}
use Rattle.config_lists.specs.declared.edit.Edit.{Edit}
use Rattle.config_lists.specs.declared.edit.Edit.TheVariants.{SubsystemAdd}

-- a subsystem is added under a name
abbrev pub IsNamed : Edit → Type 0
IsNamed (SubsystemAdd nqn serial access) = IsName nqn
IsNamed _ = Unit {0}
