-- What an edit that reaches one host makes of the configuration.
use Rattle.std.specs.Prelude.{◌≡◌, List, [], ◌∷◌, ◌++◌, Some, IfOk}
use Rattle.config_lists.specs.declared.show.Show.{Show}
use Rattle.config_lists.specs.Lists.{without}
use Rattle.config_lists.specs.Show.{is_show_to}
use Rattle.config_lists.specs.declared.edit.Edit.{Edit}
use Rattle.config_lists.specs.declared.edit.Edit.TheVariants.{NamespaceHide, NamespaceShow}
use Rattle.nvt_config.specs.Accept.{accept}
use Rattle.nvt_config.specs.Configuration.{Configuration}
use Rattle.nvt_config.specs.Reach.{host_reached}

-- the shows after an edit that shows a namespace or hides one; those that are there, for each other edit
abbrev pub shows_made : Configuration → Edit → List Show
shows_made c (NamespaceShow nqn nsid host) = c.shows ++ (record { subsystem = nqn; nsid = nsid; host = host }) ∷ []
shows_made c (NamespaceHide nqn nsid host) = without (is_show_to nqn nsid host) c.shows
shows_made c edit = c.shows

-- an edit that reaches one host alone leaves all but these shows as it is
abbrev pub ChangesShowsAlone : Configuration → Edit → List Show → Type 0
ChangesShowsAlone c edit shows = IfOk (accept c edit) (λ next. (host : List _) → host_reached edit ≡ Some host → next ≡ record c { shows = shows })
