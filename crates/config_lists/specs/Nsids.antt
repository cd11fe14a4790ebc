-- The identifiers of the namespaces in a table.
use Rattle.std.specs.Prelude.{ℕ, Bool, List, Option, None, is_some, slice_index_or}
use Rattle.config_lists.specs.declared.namespace.Namespace.{Namespace}
use Rattle.config_lists.specs.Numbered.{nsids_where}

-- whether an identifier has a namespace
abbrev pub is_taken : List (Option Namespace) → ℕ → Bool
is_taken table nsid = is_some (slice_index_or table nsid None)

-- those that have one, rising
abbrev pub nsids_in : List (Option Namespace) → List ℕ
nsids_in table = nsids_where (is_taken table)
