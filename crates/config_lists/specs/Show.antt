-- The shows, and which namespaces a host sees.
use Rattle.std.specs.Prelude.{ℕ, ◌==◌, Bool, ◌&&◌, ◌||◌, List}
use Rattle.std.specs.List.{list_any}
use Rattle.std.specs.Str.{bytes_eq}
use Rattle.config_lists.specs.declared.namespace.Namespace.{Namespace}
use Rattle.config_lists.specs.declared.show.Show.{Show}
use Rattle.config_lists.specs.Namespace.{is_for_all}

-- whether it shows the namespace of this subsystem and this identifier
abbrev pub is_show_of : List ℕ → ℕ → Show → Bool
is_show_of subsystem nsid s = (s.nsid == nsid) && bytes_eq s.subsystem subsystem

-- .. to this host
abbrev pub is_show_to : List ℕ → ℕ → List ℕ → Show → Bool
is_show_to subsystem nsid host s = is_show_of subsystem nsid s && bytes_eq s.host host

-- whether a host is shown the namespace of a subsystem and an identifier
abbrev pub has_show : List Show → List ℕ → ℕ → List ℕ → Bool
has_show shows subsystem nsid host = list_any (is_show_to subsystem nsid host) shows

-- whether it shows this host a namespace of this subsystem
abbrev pub is_show_in : List ℕ → List ℕ → Show → Bool
is_show_in subsystem host s = bytes_eq s.subsystem subsystem && bytes_eq s.host host

-- whether the host is shown a namespace of the subsystem
abbrev pub is_shown_of : List Show → List ℕ → List ℕ → Bool
is_shown_of shows subsystem host = list_any (is_show_in subsystem host) shows

-- whether a host sees a namespace: each host does, or it is shown the namespace
abbrev pub is_seen : List Show → List ℕ → Namespace → Bool
is_seen shows host n = is_for_all n.visibility || has_show shows n.subsystem n.nsid host
