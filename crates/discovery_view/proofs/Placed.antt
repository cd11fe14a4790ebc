-- Which edits change what records tell, and not which of them a host is shown.
use Rattle.std.proofs.Common.{◌≡◌, ℕ, ◌+◌, ◌==◌, ◌⊎◌, List, [], ◌∷◌, ◌++◌, map, filter, Ok, nat_lt, refl, ap, sym, subst, ◌∙◌, inl, inr}
use Rattle.std.proofs.lemmas.Bool.{cases_Bool, eqb-true}
use Rattle.std.specs.Prelude.{if◌then◌else◌}
use Rattle.std.specs.List.{flat_map}
use Rattle.config_lists.specs.declared.edit.Edit.{Edit}
use Rattle.config_lists.specs.declared.edit.Edit.TheVariants.{PortSet, ReferralSet, HostAdd}
use Rattle.config_lists.specs.declared.edit.Endpoint.{Endpoint}
use Rattle.config_lists.specs.declared.host.Host.{Host}
use Rattle.config_lists.specs.declared.port.Port.{Port}
use Rattle.config_lists.specs.declared.subsystem.Subsystem.{Subsystem}
use Rattle.nvt_config.specs.Accept.{accept, effect, port_of}
use Rattle.nvt_config.specs.Configuration.{Configuration, has_link, with_host, with_port_set, with_referral_set}
use Rattle.nvt_config.proofs.Hosts.{hosts_alone}
use Rattle.nvt_config.proofs.Refusals.{is_effect}
use Rattle.discovery_view.specs.Catalog.{is_shown, linked_among, places_from, places_of}
use Rattle.discovery_view.specs.Order.{in_order, put_in_order}
use Rattle.discovery_view.specs.Record.{Parts}
use Rattle.discovery_view.specs.Records.{parts_of, ports_in_order, referral_of, referrals_in_order, subsystems_in_order}
use Rattle.discovery_view.proofs.Named.{lower_port}

-- the records are those of the same kinds and names, one by one
abbrev pub AreAlike : List Parts → List Parts → Type 0
AreAlike [] [] = Unit {0}
AreAlike [] (q ∷ qs) = ⊥
AreAlike (p ∷ ps) [] = ⊥
AreAlike (p ∷ ps) (q ∷ qs) = (p.subtype ≡ q.subtype) × (p.nqn ≡ q.nqn) × AreAlike ps qs

alike_joined : (ps qs us vs : List Parts) → AreAlike ps qs → AreAlike us vs → AreAlike (ps ++ us) (qs ++ vs)
alike_joined [] [] us vs one other = other
alike_joined [] (q ∷ qs) us vs one other = absurd one
alike_joined (p ∷ ps) [] us vs one other = absurd one
alike_joined (p ∷ ps) (q ∷ qs) us vs one other = (one.0, one.1, alike_joined ps qs us vs one.2 other)

same_places : (c : Configuration) (host : List ℕ) (n : ℕ) (ps qs : List Parts) → AreAlike ps qs → places_from (is_shown c host) n ps ≡ places_from (is_shown c host) n qs
same_places c host n [] [] alike = refl
same_places c host n [] (q ∷ qs) alike = absurd alike
same_places c host n (p ∷ ps) [] alike = absurd alike
same_places c host n (p ∷ ps) (q ∷ qs) alike =
    let first : is_shown c host p ≡ is_shown c host q = rw (alike.0, alike.1) refl in
    rw (first, same_places c host (1 + n) ps qs alike.2) refl

set_alike : (p q : Port) (subsystems : List Subsystem) → AreAlike (map (parts_of q) subsystems) (map (parts_of p) subsystems)
set_alike p q [] = tt
set_alike p q (s ∷ subsystems) = (refl, refl, set_alike p q subsystems)

linked_alike : (c : Configuration) (p q : Port) (subsystems : List Subsystem) → q.id ≡ p.id → AreAlike (linked_among c q subsystems) (linked_among c p subsystems)
linked_alike c p q subsystems same =
    subst (λ (id : ℕ). AreAlike (map (parts_of q) (filter (λ (s : Subsystem). has_link c.links id s.nqn) subsystems)) (linked_among c p subsystems)) (sym same)
    (set_alike p q (filter (λ (s : Subsystem). has_link c.links p.id s.nqn) subsystems))

ports_alike : (c : Configuration) (set : Port → Port) (subsystems : List Subsystem) (ports : List Port) → ((p : Port) → (set p).id ≡ p.id)
    → AreAlike (flat_map (λ p. linked_among c p subsystems) (map set ports)) (flat_map (λ p. linked_among c p subsystems) ports)
ports_alike c set subsystems [] keeps = tt
ports_alike c set subsystems (p ∷ ports) keeps =
    alike_joined (linked_among c (set p) subsystems) (linked_among c p subsystems) _ _ (linked_alike c p (set p) subsystems (keeps p)) (ports_alike c set subsystems ports keeps)

referrals_alike : (set : Port → Port) (referrals : List Port) → AreAlike (map referral_of (map set referrals)) (map referral_of referrals)
referrals_alike set [] = tt
referrals_alike set (r ∷ referrals) = (refl, refl, referrals_alike set referrals)

own_kind : (ps : List Parts) → AreAlike ps ps
own_kind [] = tt
own_kind (p ∷ ps) = (refl, refl, own_kind ps)

-- order looks at numbers alone
put_alike : (set : Port → Port) (p : Port) (ports : List Port) → ((x : Port) → (set x).id ≡ x.id) → put_in_order lower_port (set p) (map set ports) ≡ map set (put_in_order lower_port p ports)
put_alike set p [] keeps = refl
put_alike set p (q ∷ ports) keeps =
    let one : lower_port (set p) (set q) ≡ lower_port p q = λ i. nat_lt (keeps p i) (keeps q i) in
    elim (cases_Bool (lower_port p q)) [
      | inl below ↦ rw (one, below) refl
      | inr above ↦ rw (one, above) (ap (λ l. set q ∷ l) (put_alike set p ports keeps))
    ]

order_alike : (set : Port → Port) (ports : List Port) → ((x : Port) → (set x).id ≡ x.id) → in_order lower_port (map set ports) ≡ map set (in_order lower_port ports)
order_alike set [] keeps = refl
order_alike set (p ∷ ports) keeps = rw (order_alike set ports keeps) (put_alike set p (in_order lower_port ports) keeps)

-- a port in place of the one of its number
abbrev put_port : Port → Port → Port
put_port q p = if p.id == q.id then q else p

keeps_number : (q p : Port) → (put_port q p).id ≡ p.id
keeps_number q p =
    elim (cases_Bool (p.id == q.id)) [
      | inl same ↦ rw same (sym (eqb-true p.id q.id same))
      | inr apart ↦ rw apart refl
    ]

-- ---- edits

-- every host is shown what is where it was
abbrev ArePlaced : Configuration → Configuration → Type 0
ArePlaced c d = (host : List ℕ) → places_of d host ≡ places_of c host

port_placed : (c : Configuration) (q : Port) → ArePlaced c (with_port_set c q)
port_placed c q host =
    let S = subsystems_in_order c in
    let R = map referral_of (referrals_in_order c) in
    let moved : in_order lower_port (map (put_port q) c.ports) ≡ map (put_port q) (ports_in_order c) = order_alike (put_port q) c.ports (keeps_number q) in
    let alike = alike_joined _ _ R R (ports_alike c (put_port q) S (ports_in_order c) (keeps_number q)) (own_kind R) in
    ap (λ ports. places_from (is_shown c host) 0 (flat_map (λ p. linked_among c p S) ports ++ R)) moved
    ∙ same_places c host 0 _ _ alike

referral_placed : (c : Configuration) (q : Port) → ArePlaced c (with_referral_set c q)
referral_placed c q host =
    let L = flat_map (λ p. linked_among c p (subsystems_in_order c)) (ports_in_order c) in
    let moved : in_order lower_port (map (put_port q) c.referrals) ≡ map (put_port q) (referrals_in_order c) = order_alike (put_port q) c.referrals (keeps_number q) in
    let alike = alike_joined L L _ _ (own_kind L) (referrals_alike (put_port q) (referrals_in_order c)) in
    ap (λ rs. places_from (is_shown c host) 0 (L ++ map referral_of rs)) moved
    ∙ same_places c host 0 _ _ alike

hosts_placed : (c : Configuration) (hosts : List Host) → ArePlaced c (record c { hosts = hosts })
hosts_placed c hosts host = refl

then_placed : (c d : Configuration) (edit was : Edit) → edit ≡ was → accept c edit ≡ Ok d → ArePlaced c (effect c was) → ArePlaced c d
then_placed c d edit was is ok placed = subst (ArePlaced c) (sym (is_effect c d edit ok ∙ ap (effect c) is)) placed

pub records_reached : (edit : Edit) → ((e : Endpoint) × (edit ≡ PortSet e)) ⊎ (((nqn : List ℕ) × (edit ≡ HostAdd nqn)) ⊎ ((e : Endpoint) × (edit ≡ ReferralSet e)))
    → (c d : Configuration) → accept c edit ≡ Ok d → (host : List ℕ) → places_of d host ≡ places_of c host
records_reached edit (inl (e, is)) c d ok = then_placed c d edit (PortSet e) is ok (port_placed c (port_of e))
records_reached edit (inr (inl (nqn, is))) c d ok =
    then_placed c d edit (HostAdd nqn) is ok (subst (ArePlaced c) (sym (hosts_alone c nqn)) (hosts_placed c (with_host c nqn).hosts))
records_reached edit (inr (inr (e, is))) c d ok = then_placed c d edit (ReferralSet e) is ok (referral_placed c (port_of e))
