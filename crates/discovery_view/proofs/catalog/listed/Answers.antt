use Rattle.std.proofs.Common.{◌≡◌, IsTrue, length, nat_lt, refl, arith}
use Rattle.std.proofs.lemmas.List.Elements.{All-nil}
use Rattle.config_lists.specs.declared.port.Port.{Port}
use Rattle.config_lists.specs.declared.subsystem.Subsystem.{Subsystem}
use Rattle.config_lists.specs.Port.{is_port}
use Rattle.discovery_view.specs.Order.{entries_of, name_below}
use Rattle.discovery_view.specs.Record.{record_of}
use Rattle.discovery_view.specs.Records.{ports_in_order, referrals_in_order, subsystems_in_order}
use Rattle.discovery_view.proofs.Catalogs.{AreWhole, catalog_bound, in_turn}
use Rattle.discovery_view.proofs.Orders.{All-in_order, length-in_order}
use Rattle.discovery_view.proofs.Slots.{entries_from}
use Rattle.discovery_view.proofs.catalog.listed.Goals as goal

pub push_ports-requires : goal.push_ports-requires
push_ports-requires c =
    let config = c.args.config.now in
    let ports : entries_of c.in_order-ports.result.items ≡ ports_in_order config = entries_from c.in_order-ports.result.items (ports_in_order config) (rw (← c.ports.ensures.lent) c.in_order-ports.ensures.entries) in
    rw (c.as_slice.ensures.value, ports) (in_turn (λ (p : Port). IsTrue (is_port p)) (ports_in_order config) (All-in_order (λ p. IsTrue (is_port p)) _ config.ports c.ports.ensures.valid.ports.sound))

pub push_referrals-requires : goal.push_referrals-requires
push_referrals-requires c =
    let config = c.args.config.now in
    let referrals : entries_of c.in_order-referrals.result.items ≡ referrals_in_order config = entries_from c.in_order-referrals.result.items (referrals_in_order config) (rw (← c.referrals.ensures.lent) c.in_order-referrals.ensures.entries) in
    rw (c.as_slice-3.ensures.value, referrals) (in_turn (λ (p : Port). IsTrue (is_port p)) (referrals_in_order config) (All-in_order (λ p. IsTrue (is_port p)) _ config.referrals c.referrals.ensures.valid.referrals.sound))

pub returns-clause-same : goal.returns-clause-same
returns-clause-same c =
    let config = c.args.config.now in
    let ports : entries_of c.in_order-ports.result.items ≡ ports_in_order config = entries_from c.in_order-ports.result.items (ports_in_order config) (rw (← c.ports.ensures.lent) c.in_order-ports.ensures.entries) in
    let subsystems : entries_of c.in_order-subsystems.result.items ≡ subsystems_in_order config = entries_from c.in_order-subsystems.result.items (subsystems_in_order config) (rw (← c.subsystems.ensures.lent) c.in_order-subsystems.ensures.entries) in
    let referrals : entries_of c.in_order-referrals.result.items ≡ referrals_in_order config = entries_from c.in_order-referrals.result.items (referrals_in_order config) (rw (← c.referrals.ensures.lent) c.in_order-referrals.ensures.entries) in
    let links = rw (c.new-entries.ensures.items, c.as_slice.ensures.value, c.as_slice-2.ensures.value, ports, subsystems) at c.in_ok-push_ports.ensures.entries in
    rw (c.in_ok-push_referrals.ensures.entries, links, c.as_slice-3.ensures.value, referrals) refl

pub returns-clause-ready : goal.returns-clause-ready
returns-clause-ready c =
    let config = c.args.config.now in
    let valid = c.ports.ensures.valid in
    let none : AreWhole c.new-entries.result.items = rw c.new-entries.ensures.items (All-nil (λ p. length (record_of p) ≡ 1024)) in
    record {
      few = catalog_bound config (subsystems_in_order config) (ports_in_order config) (referrals_in_order config)
          (omega (arith, length-in_order (λ (s t : Subsystem). name_below s.nqn t.nqn) config.subsystems, valid.subsystems.count))
          (omega (arith, length-in_order (λ (p q : Port). nat_lt p.id q.id) config.ports, valid.ports.count))
          (omega (arith, length-in_order (λ (p q : Port). nat_lt p.id q.id) config.referrals, valid.referrals.count));
      whole = rw (← returns-clause-same c) (c.in_ok-push_referrals.ensures.whole (c.in_ok-push_ports.ensures.whole none));
    }
