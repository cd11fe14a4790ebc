-- The subsystems that allow a host, by their names.
use Rattle.std.specs.Prelude.{ℕ, Bool, ◌&&◌, List, [], ◌∷◌, ◌++◌}
use Rattle.std.specs.Borrow.{Bor}
use Rattle.std.specs.List.{list_any}
use Rattle.std.specs.Str.{bytes_eq}
use Rattle.config_lists.specs.declared.allow.Allow.{Allow}
use Rattle.config_lists.specs.Lists.{without}
use Rattle.config_lists.specs.declared.edit.Edit.{Edit}
use Rattle.config_lists.specs.declared.edit.Edit.TheVariants.{AllowAdd, AllowDel}
use Rattle.discovery_view.specs.declared.allowed.Allowance.{Allowance}
use Rattle.discovery_view.specs.declared.allowed.Allowance.TheVariants.{Given, Taken}

-- whether a name is among these
abbrev pub is_named : List (Bor (List ℕ)) → List ℕ → Bool
is_named names nqn = list_any (λ name. bytes_eq name.now nqn) names

-- whether an allow is that of this subsystem and this host
abbrev pub is_allow_of : List ℕ → List ℕ → Allow → Bool
is_allow_of nqn host a = bytes_eq a.subsystem nqn && bytes_eq a.host host

-- an allow is of one host: what any other host is shown stays as it is
abbrev pub host_of : Allowance → List ℕ
host_of (Given nqn host) = host.now
host_of (Taken nqn host) = host.now

abbrev pub allows_after : List Allow → Allowance → List Allow
allows_after allows (Given nqn host) = allows ++ (record { subsystem = nqn.now; host = host.now }) ∷ []
allows_after allows (Taken nqn host) = without (is_allow_of nqn.now host.now) allows

abbrev pub edit_of : Allowance → Edit
edit_of (Given nqn host) = AllowAdd nqn.now host.now
edit_of (Taken nqn host) = AllowDel nqn.now host.now
