-- What an edit that shows a namespace, or hides one, makes of the shows.
use Rattle.std.specs.Prelude.{Bool, List, [], ◌∷◌, ◌++◌, not}
use Rattle.config_lists.specs.declared.show.Show.{Show}
use Rattle.config_lists.specs.Lists.{without}
use Rattle.config_lists.specs.Show.{is_show_to}
use Rattle.config_lists.specs.declared.shows.NamedShow.{NamedShow}
use Rattle.config_lists.specs.declared.shows.ShowChange.{ShowChange}
use Rattle.config_lists.specs.declared.shows.ShowChange.TheVariants.{Less, More, Nothing}

-- the show of these names
abbrev pub shown_by : NamedShow → Show
shown_by s = record { subsystem = s.subsystem.now; nsid = s.nsid; host = s.host.now }

-- whether a show stays where that one is taken out
abbrev pub is_left : Show → Show → Bool
is_left out s = not (is_show_to out.subsystem out.nsid out.host s)

-- one show more stands after the others; one less is taken out
abbrev pub shows_after : ShowChange → List Show → List Show
shows_after Nothing shows = shows
shows_after (More s) shows = shows ++ shown_by s ∷ []
shows_after (Less s) shows = without (is_show_to s.subsystem.now s.nsid s.host.now) shows
