use Rattle.std.proofs.Common.{◌∙◌, sym}
use Rattle.config_lists.specs.Namespace.{is_named}
use Rattle.config_lists.specs.Show.{is_seen}
use Rattle.config_lists.proofs.Lists.{find-filter}
use Rattle.config_lists.proofs.show.find_seen.Goals as goal

pub returns : goal.returns
returns c =
    c.first_seen.ensures ∙ sym (find-filter (is_named c.args.subsystem.now c.args.nsid) (is_seen c.args.shows.now c.args.host.now) c.args.namespaces.now)
