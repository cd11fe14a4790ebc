use Rattle.discovery_view.proofs.Catalogs.{then_whole}
use Rattle.discovery_view.proofs.catalog.+push_ports.Goals as goal

pub returns-in_ok-push_links-in-Some-Some-default-clause-whole : goal.returns-in_ok-push_links-in-Some-Some-default-clause-whole
returns-in_ok-push_links-in-Some-Some-default-clause-whole t c =
    then_whole c.args.entries.now.items c.push_links.new.entries.items c.push_ports.new.entries.items c.push_ports.result c.in_ok-push_links-in-Some-Some-default.ensures.whole c.push_ports.ensures.whole
