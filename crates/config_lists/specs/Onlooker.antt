-- What a host is shown of a subsystem.
use Rattle.std.specs.Prelude.{ℕ, List}
use Rattle.config_lists.specs.declared.show.Show.{Show}
use Rattle.config_lists.specs.Show.{has_show}
use Rattle.config_lists.specs.Numbered.{nsids_where}

-- a host looks at a subsystem, by these shows
pub record Looking : Type 0 where
  pub shows : List Show
  pub host : List ℕ
  pub subsystem : List ℕ

-- the identifiers of the subsystem's namespaces that the host is shown
abbrev pub nsids_shown : List Show → List ℕ → List ℕ → List ℕ
nsids_shown shows host subsystem = nsids_where (λ nsid. has_show shows subsystem nsid host)
