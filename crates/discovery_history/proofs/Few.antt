-- A configuration shows few records.
use Rattle.std.proofs.Common.{ℕ, ◌*◌, ◌≤◌, Bool, List, [], ◌∷◌, length, map, arith, inl, inr, length-append}
use Rattle.std.specs.Prelude.{filter, nat_lt}
use Rattle.std.specs.List.{flat_map}
use Rattle.std.proofs.lemmas.Bool.{cases_Bool}
use Rattle.std.proofs.lemmas.List.{length-map}
use Rattle.config_lists.specs.declared.port.Port.{Port}
use Rattle.config_lists.specs.declared.subsystem.Subsystem.{Subsystem}
use Rattle.nvt_config.specs.Configuration.{Configuration}
use Rattle.nvt_config.specs.Permission.{may_use}
use Rattle.nvt_config.specs.Valid.{IsValid}
use Rattle.discovery_view.specs.Order.{name_below}
use Rattle.discovery_view.specs.Record.{record_of}
use Rattle.discovery_view.specs.Records.{parts_of, ports_in_order, records_of, records_on, referral_of, referrals_in_order, subsystems_in_order}
use Rattle.discovery_view.proofs.Orders.{length-in_order}

filter-few : {X : Type 0} (p : X → Bool) (xs : List X) → length (filter p xs) ≤ length xs
filter-few p [] = omega arith
filter-few p (x ∷ xs) =
    let fewer = filter-few p xs in
    elim (cases_Bool (p x)) [
      | inl is ↦ rw is (omega (arith, fewer))
      | inr is ↦ rw is (omega (arith, fewer))
    ]

flat_map-few : {X Y : Type 0} (f : X → List Y) (most : ℕ) → ((x : X) → length (f x) ≤ most) → (xs : List X) → length (flat_map f xs) ≤ most * length xs
flat_map-few f most each [] = omega arith
flat_map-few f most each (x ∷ xs) =
    let fewer = flat_map-few f most each xs in
    let one = each x in
    let all = length-append (f x) (flat_map f xs) in
    grind (arith, fewer, one, all)

on_port-few : (c : Configuration) (host : List ℕ) (port : Port) → length c.subsystems ≤ 32 → length (records_on c host port) ≤ 32
on_port-few c host port few =
    let shown = filter-few (λ s. may_use c host s.nqn port.id) (subsystems_in_order c) in
    let all = length-in_order (λ (s t : Subsystem). name_below s.nqn t.nqn) c.subsystems in
    let same = length-map {A = Subsystem} (filter (λ s. may_use c host s.nqn port.id) (subsystems_in_order c)) (parts_of port) in
    omega (arith, few, shown, all, same)

-- 32 subsystems on each of 16 ports, and 16 referrals
pub records-few : (c : Configuration) (host : List ℕ) → IsValid c → length (map record_of (records_of c host)) ≤ 528
records-few c host valid =
    let subsystems = valid.subsystems.count in
    let ports = valid.ports.count in
    let referrals = valid.referrals.count in
    let of_ports = flat_map-few (records_on c host) 32 (λ port. on_port-few c host port subsystems) (ports_in_order c) in
    let all_ports = length-in_order (λ (p q : Port). nat_lt p.id q.id) c.ports in
    let all_referrals = length-in_order (λ (p q : Port). nat_lt p.id q.id) c.referrals in
    let listed = length-map (referrals_in_order c) referral_of in
    let both = length-append (flat_map (records_on c host) (ports_in_order c)) (map referral_of (referrals_in_order c)) in
    let same = length-map (records_of c host) record_of in
    omega (arith, ports, referrals, of_ports, all_ports, all_referrals, listed, both, same)
