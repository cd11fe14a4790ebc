-- Lists of namespaces' identifiers, rising.
use Rattle.std.specs.Prelude.{ℕ, zero, suc, ◌+◌, ◌-◌, Bool, List, [], ◌∷◌, filter}
use Rattle.std.specs.List.{list_any}
use Rattle.config_lists.specs.declared.namespace.Namespace.{Namespace}
use Rattle.config_lists.specs.Namespace.{is_named, nsid_max}

-- so many numbers, from this one on
abbrev pub numbers_from : ℕ → ℕ → List ℕ
numbers_from first zero = []
numbers_from first (suc n) = first ∷ numbers_from (suc first) n

-- the identifiers from one on that a namespace may have and that pass a test
unfoldable pub nsids_from : ℕ → (ℕ → Bool) → List ℕ
nsids_from next test = filter test (numbers_from next (nsid_max + 1 - next))

-- all that pass
unfoldable pub nsids_where : (ℕ → Bool) → List ℕ
nsids_where test = filter test (numbers_from 1 nsid_max)

-- whether a namespace of the subsystem has an identifier
abbrev pub is_there : List Namespace → List ℕ → ℕ → Bool
is_there namespaces subsystem n = list_any (is_named subsystem n) namespaces

-- the identifiers that a namespace of the subsystem has
unfoldable pub active_nsids : List Namespace → List ℕ → List ℕ
active_nsids namespaces subsystem = nsids_where (is_there namespaces subsystem)
