use Rattle.std.proofs.Common.{◌≡◌, ◌∙◌, arith}
use Rattle.ana_view.specs.Tables.{AreNamespacesOf}
use Rattle.ana_view.proofs.Counting.{listed_alike}
use Rattle.ana_view.proofs.Listed.{plain_groups}
use Rattle.ana_view.proofs.Ready.{groups_of}
use Rattle.ana_view.proofs.subsystem.SubsystemGroups.of.Goals as goal

pub returns-clause-groups : goal.returns-clause-groups
returns-clause-groups c =
    let seen = c.args.seen.now in
    let subsystem = c.args.subsystem.now in
    let own : AreNamespacesOf seen subsystem c.table-namespaces.result = record { found = c.table-namespaces.ensures.found } in
    let plain : c.in_ok-plain.plain ≡ plain_groups seen subsystem =
    c.in_ok-plain.ensures ∙ listed_alike _ _ (λ group above below. c.plain.ensures seen subsystem own group (omega arith)) in
    let added = c.in_ok-add_ports.ensures in
    groups_of seen subsystem c.add_ports.new.self (c.add_ports.ensures.plain ∙ plain) added.listed added.ports added.sparse
