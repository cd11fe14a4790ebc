use Rattle.std.proofs.Common.{ap, sym, ◌∙◌}
use Rattle.config_lists.specs.Show.{is_show_in, is_shown_of}
use Rattle.config_lists.specs.Shows.{is_left, shown_by, shows_after}
use Rattle.config_lists.proofs.Changed.{any_left}
use Rattle.config_lists.proofs.shows.Shows.is_shown_of.Goals as goal

pub returns-in-Less : goal.returns-in-Less
returns-in-Less c =
    let v = c.self.inside in
    c.is_shown_without.ensures ∙ sym (any_left (is_show_in c.args.subsystem.now c.args.host.now) (is_left (shown_by c.in-Less.show)) v.listed.now)
    ∙ ap (λ change. is_shown_of (shows_after change v.listed.now) c.args.subsystem.now c.args.host.now) (sym c.in-Less.is) ∙ ap (λ shows. is_shown_of shows c.args.subsystem.now c.args.host.now) c.self.view_is
