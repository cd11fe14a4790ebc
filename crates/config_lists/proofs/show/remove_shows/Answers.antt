use Rattle.std.proofs.Common.{rules, not}
use Rattle.std.proofs.lemmas.Fn.{filter_same}
use Rattle.config_lists.specs.Show.{is_show_of}
use Rattle.config_lists.proofs.show.remove_shows.Goals as goal

pub returns : goal.returns
returns c = filter_same _ (λ s. not (is_show_of c.args.subsystem.now c.args.nsid s)) _ (λ x b f k. search rules) _ _ c.retain.ensures.filtered
