-- What changes, as it is taken from two tables of namespaces by identifier.
use Rattle.std.specs.Prelude.{ℕ, Bool, not, List, Option, None, filter, slice_index_or}
use Rattle.std.specs.Option.{option_map}
use Rattle.config_lists.specs.declared.namespace.Namespace.{Namespace}
use Rattle.change_lists.specs.ChangedSet.{with_nsids}
use Rattle.change_lists.specs.Changes.{are_same, attributes_of}

-- whether the namespace of an identifier is another in the second table than in the first
abbrev pub differs : List (Option Namespace) → List (Option Namespace) → ℕ → Bool
differs before after nsid =
    not (are_same (option_map attributes_of (slice_index_or before nsid None)) (option_map attributes_of (slice_index_or after nsid None)))

-- a set with those of some identifiers that pass
abbrev pub noted : (ℕ → Bool) → List ℕ → List ℕ → List ℕ
noted test nsids set = with_nsids (filter test nsids) set
