-- An edit forms no more records than it reaches.
use Rattle.std.proofs.Common.{◌≡◌, ℕ, ◌≤◌, ◌+◌, Bool, true, false, List, [], ◌∷◌, ◌++◌, length, filter, Result, Ok, Err, IfOk, IsOk, refl, sym, ap, subst, ◌∙◌, arith, append-nil}
use Rattle.std.proofs.lemmas.Bool.{eq-eqb, eqb-true, not-false}
use Rattle.config_lists.specs.declared.edit.Edit.{Edit}
use Rattle.config_lists.specs.declared.edit.Edit.TheVariants.{SubsystemAdd, SubsystemSet, SubsystemDel, PortAdd, PortSet, PortDel, LinkAdd, LinkDel, HostAdd, AnaSet, ReferralAdd, ReferralSet, ReferralDel}
use Rattle.config_lists.specs.declared.fault.EditFault.{EditFault}
use Rattle.config_lists.specs.declared.link.Link.{Link}
use Rattle.config_lists.specs.declared.port.Port.{Port}
use Rattle.config_lists.specs.declared.subsystem.Access.{Access}
use Rattle.config_lists.specs.declared.subsystem.Subsystem.{Subsystem}
use Rattle.config_lists.specs.Lists.{without}
use Rattle.nvt_config.specs.Accept.{accept, effect, port_of, refusals}
use Rattle.nvt_config.specs.Configuration.{Configuration, has_link, has_port, has_subsystem, is_subsystem_linked, with_access, with_link, with_port, with_port_set, with_referral, with_referral_set, with_subsystem, without_link, without_port, without_referral, without_subsystem}
use Rattle.nvt_config.specs.Valid.{IsValid}
use Rattle.nvt_config.proofs.Hosts.{hosts_alone}
use Rattle.nvt_config.proofs.Refusals.{Unless, accepted, whatever}
use Rattle.nvt_config.proofs.States.{states_alone}
use Rattle.discovery_view.specs.Catalog.{catalog_of}
use Rattle.discovery_view.specs.Order.{in_order}
use Rattle.discovery_view.specs.Plan.{IsLeast, LeadsTo, Planned}
use Rattle.discovery_view.specs.Ready.{AreOf, Places}
use Rattle.discovery_view.specs.Record.{Parts}
use Rattle.discovery_view.specs.Records.{ports_in_order, referrals_in_order, subsystems_in_order}
use Rattle.discovery_view.specs.View.{Rows, Shown}
use Rattle.discovery_view.specs.Forming.{EditsFormTheirReach, links_of_port, links_of_subsystem, reach}
use Rattle.discovery_view.proofs.Changing.{Changes, changes_where, unchanged}
use Rattle.discovery_view.proofs.Least.{fresh_few}
use Rattle.discovery_view.proofs.Named.{is_name, is_number, its, link_added, link_removed, linked_bound, lower_name, lower_port, names_with, none_of_name, none_stays, nothing_linked, one_name, one_number, ports_with, unlinked_name, unlinked_port}
use Rattle.discovery_view.proofs.Records.{links_changed, no_record, port_added, port_removed, port_replaced, records, referral_added, referral_removed, referral_replaced, same_name_same_records}
use Rattle.discovery_view.proofs.Rows.{own_name, same_name}
use Rattle.discovery_view.proofs.Splitting.{none_passes, split, with_it_changed, without_it}

-- ---- subsystems

subsystem_added : (c : Configuration) (s : Subsystem) → IsValid c → has_subsystem c.subsystems s.nqn ≡ false → Changes 0 (catalog_of c) (catalog_of (with_subsystem c s))
subsystem_added c s valid none =
    let o = names_with s.nqn c.subsystems s s [] (none_passes (is_name s.nqn) c.subsystems none) tt (own_name s.nqn) refl in
    let old : subsystems_in_order c ≡ o.front ++ o.rest = ap (in_order lower_name) (sym (append-nil c.subsystems)) ∙ o.neither in
    let R = referrals_in_order c in
    unchanged 0 _ _ (ap (λ xs. records c.links xs (ports_in_order c) R) o.one
    ∙ no_record c.links o.front s o.rest (ports_in_order c) R (λ id. none_of_name c.links s.nqn id (unlinked_name c.ports c.subsystems c.links s.nqn valid.links.sound none))
    ∙ sym (ap (λ xs. records c.links xs (ports_in_order c) R) old))

subsystem_set : (c : Configuration) (nqn : List ℕ) (access : Access) (n : ℕ) → IsValid c → has_subsystem c.subsystems nqn ≡ true → Changes n (catalog_of c) (catalog_of (with_access c nqn access))
subsystem_set c nqn access n valid some =
    let s = split (is_name nqn) c.subsystems some (one_name nqn c.subsystems valid.subsystems) in
    let t : Subsystem = record s.it { access = access } in
    let o = names_with nqn s.before s.it t s.after s.none_before s.none_after s.passes refl in
    let P = ports_in_order c in
    let R = referrals_in_order c in
    unchanged n _ _ (ap (λ xs. records c.links (in_order lower_name xs) P R) (with_it_changed (is_name nqn) (λ (x : Subsystem). record x { access = access }) c.subsystems s)
    ∙ ap (λ xs. records c.links xs P R) o.other ∙ same_name_same_records c.links o.front s.it t o.rest P R refl
    ∙ sym (ap (λ xs. records c.links (in_order lower_name xs) P R) s.all ∙ ap (λ xs. records c.links xs P R) o.one))

subsystem_removed : (c : Configuration) (nqn : List ℕ) → IsValid c → has_subsystem c.subsystems nqn ≡ true → is_subsystem_linked c.links nqn ≡ false
    → Changes 0 (catalog_of c) (catalog_of (without_subsystem c nqn))
subsystem_removed c nqn valid some none =
    let s = split (is_name nqn) c.subsystems some (one_name nqn c.subsystems valid.subsystems) in
    let o = names_with nqn s.before s.it s.it s.after s.none_before s.none_after s.passes refl in
    let P = ports_in_order c in
    let R = referrals_in_order c in
    unchanged 0 _ _ (ap (λ xs. records c.links (in_order lower_name xs) P R) (without_it (is_name nqn) c.subsystems s)
    ∙ ap (λ xs. records c.links xs P R) o.neither
    ∙ sym (no_record c.links o.front s.it o.rest P R (λ id. ap (has_link c.links id) (same_name s.it.nqn nqn s.passes) ∙ none_of_name c.links nqn id none))
    ∙ sym (ap (λ xs. records c.links (in_order lower_name xs) P R) s.all ∙ ap (λ xs. records c.links xs P R) o.one))

-- ---- ports

port_put : (c : Configuration) (p : Port) → IsValid c → has_port c.ports p.id ≡ false → Changes 0 (catalog_of c) (catalog_of (with_port c p))
port_put c p valid none =
    let o = ports_with p.id c.ports p p [] (none_passes (is_number p.id) c.ports none) tt (eq-eqb p.id p.id refl) refl in
    let old : ports_in_order c ≡ o.front ++ o.rest = ap (in_order lower_port) (sym (append-nil c.ports)) ∙ o.neither in
    let S = subsystems_in_order c in
    let R = referrals_in_order c in
    changes_where 0 _ _ _ _ (ap (λ xs. records c.links S xs R) old) (ap (λ xs. records c.links S xs R) o.one)
    (port_added c.links S o.front p o.rest R (nothing_linked c.links p S (λ nqn. unlinked_port c.ports c.subsystems c.links p.id nqn valid.links.sound none)))

port_set : (c : Configuration) (q : Port) → IsValid c → has_port c.ports q.id ≡ true → Changes (links_of_port c q.id) (catalog_of c) (catalog_of (with_port_set c q))
port_set c q valid some =
    let s = split (is_number q.id) c.ports some (one_number q.id c.ports valid.ports) in
    let o = ports_with q.id s.before s.it q s.after s.none_before s.none_after s.passes (sym (eqb-true s.it.id q.id s.passes)) in
    let S = subsystems_in_order c in
    let R = referrals_in_order c in
    changes_where (links_of_port c q.id) _ _ _ _ (ap (λ xs. records c.links S (in_order lower_port xs) R) s.all ∙ ap (λ xs. records c.links S xs R) o.one)
    (ap (λ xs. records c.links S (in_order lower_port xs) R) (with_it_changed (is_number q.id) (λ (x : Port). q) c.ports s) ∙ ap (λ xs. records c.links S xs R) o.other)
    (port_replaced c.links S o.front s.it q o.rest R (links_of_port c q.id) (linked_bound c.links q c.subsystems valid.subsystems))

port_gone : (c : Configuration) (id : ℕ) → IsValid c → has_port c.ports id ≡ true → Changes 0 (catalog_of c) (catalog_of (without_port c id))
port_gone c id valid some =
    let s = split (is_number id) c.ports some (one_number id c.ports valid.ports) in
    let o = ports_with id s.before s.it s.it s.after s.none_before s.none_after s.passes refl in
    let S = subsystems_in_order c in
    let R = referrals_in_order c in
    changes_where 0 _ _ _ _ (ap (λ xs. records c.links S (in_order lower_port xs) R) s.all ∙ ap (λ xs. records c.links S xs R) o.one)
    (ap (λ xs. records c.links S (in_order lower_port xs) R) (without_it (is_number id) c.ports s) ∙ ap (λ xs. records c.links S xs R) o.neither)
    (port_removed c.links S o.front s.it o.rest R)

-- ---- referrals

referral_put : (c : Configuration) (p : Port) → IsValid c → has_port c.referrals p.id ≡ false → Changes 1 (catalog_of c) (catalog_of (with_referral c p))
referral_put c p valid none =
    let o = ports_with p.id c.referrals p p [] (none_passes (is_number p.id) c.referrals none) tt (eq-eqb p.id p.id refl) refl in
    let old : referrals_in_order c ≡ o.front ++ o.rest = ap (in_order lower_port) (sym (append-nil c.referrals)) ∙ o.neither in
    let S = subsystems_in_order c in
    let P = ports_in_order c in
    changes_where 1 _ _ _ _ (ap (λ xs. records c.links S P xs) old) (ap (λ xs. records c.links S P xs) o.one) (referral_added c.links S P o.front p o.rest)

referral_set : (c : Configuration) (q : Port) → IsValid c → has_port c.referrals q.id ≡ true → Changes 1 (catalog_of c) (catalog_of (with_referral_set c q))
referral_set c q valid some =
    let s = split (is_number q.id) c.referrals some (one_number q.id c.referrals valid.referrals) in
    let o = ports_with q.id s.before s.it q s.after s.none_before s.none_after s.passes (sym (eqb-true s.it.id q.id s.passes)) in
    let S = subsystems_in_order c in
    let P = ports_in_order c in
    changes_where 1 _ _ _ _ (ap (λ xs. records c.links S P (in_order lower_port xs)) s.all ∙ ap (λ xs. records c.links S P xs) o.one)
    (ap (λ xs. records c.links S P (in_order lower_port xs)) (with_it_changed (is_number q.id) (λ (x : Port). q) c.referrals s) ∙ ap (λ xs. records c.links S P xs) o.other)
    (referral_replaced c.links S P o.front s.it q o.rest)

referral_gone : (c : Configuration) (id : ℕ) → IsValid c → has_port c.referrals id ≡ true → Changes 0 (catalog_of c) (catalog_of (without_referral c id))
referral_gone c id valid some =
    let s = split (is_number id) c.referrals some (one_number id c.referrals valid.referrals) in
    let o = ports_with id s.before s.it s.it s.after s.none_before s.none_after s.passes refl in
    let S = subsystems_in_order c in
    let P = ports_in_order c in
    changes_where 0 _ _ _ _ (ap (λ xs. records c.links S P (in_order lower_port xs)) s.all ∙ ap (λ xs. records c.links S P xs) o.one)
    (ap (λ xs. records c.links S P (in_order lower_port xs)) (without_it (is_number id) c.referrals s) ∙ ap (λ xs. records c.links S P xs) o.neither)
    (referral_removed c.links S P o.front s.it o.rest)

-- ---- links

at_most : {T : Type 0} (test : T → Bool) (x : T) (b : Bool) → test x ≡ b → length (filter test (x ∷ [])) ≤ 1
at_most test x true is = rw is (omega arith)
at_most test x false is = rw is (omega arith)

gone_too : (links : List Link) (id port : ℕ) (n nqn : List ℕ) → id ≡ port → n ≡ nqn → has_link (without (its port nqn) links) id n ≡ false
gone_too links id port n nqn at named = rw (at, named) (none_stays (its port nqn) links)

none_left : {T : Type 0} (test : T → Bool) (x : T) → test x ≡ false → length (filter test (x ∷ [])) ≤ 0
none_left test x is = rw is (omega arith)

link_put : (c : Configuration) (port : ℕ) (nqn : List ℕ) → IsValid c → has_port c.ports port ≡ true → has_subsystem c.subsystems nqn ≡ true
    → Changes 1 (catalog_of c) (catalog_of (with_link c (record { port = port; subsystem = nqn })))
link_put c port nqn valid ports names =
    let s = split (is_number port) c.ports ports (one_number port c.ports valid.ports) in
    let t = split (is_name nqn) c.subsystems names (one_name nqn c.subsystems valid.subsystems) in
    let o = ports_with port s.before s.it s.it s.after s.none_before s.none_after s.passes refl in
    let u = names_with nqn t.before t.it t.it t.after t.none_before t.none_after t.passes refl in
    let P : ports_in_order c ≡ o.front ++ s.it ∷ o.rest = ap (in_order lower_port) s.all ∙ o.one in
    let S : subsystems_in_order c ≡ u.front ++ t.it ∷ u.rest = ap (in_order lower_name) t.all ∙ u.one in
    let R = referrals_in_order c in
    let links = c.links ++ (record { port = port; subsystem = nqn }) ∷ [] in
    changes_where 1 _ _ _ _ (λ i. records c.links (S i) (P i) R) (λ i. records links (S i) (P i) R)
    (links_changed port nqn c.links links o.front s.it o.rest u.front t.it u.rest R 1 (link_added c.links port nqn) o.none_before o.none_after u.none_before u.none_after
    (at_most (λ (x : Subsystem). has_link links s.it.id x.nqn) t.it _ refl))

link_gone : (c : Configuration) (port : ℕ) (nqn : List ℕ) → IsValid c → has_port c.ports port ≡ true → has_subsystem c.subsystems nqn ≡ true
    → Changes 0 (catalog_of c) (catalog_of (without_link c port nqn))
link_gone c port nqn valid ports names =
    let s = split (is_number port) c.ports ports (one_number port c.ports valid.ports) in
    let t = split (is_name nqn) c.subsystems names (one_name nqn c.subsystems valid.subsystems) in
    let o = ports_with port s.before s.it s.it s.after s.none_before s.none_after s.passes refl in
    let u = names_with nqn t.before t.it t.it t.after t.none_before t.none_after t.passes refl in
    let P : ports_in_order c ≡ o.front ++ s.it ∷ o.rest = ap (in_order lower_port) s.all ∙ o.one in
    let S : subsystems_in_order c ≡ u.front ++ t.it ∷ u.rest = ap (in_order lower_name) t.all ∙ u.one in
    let R = referrals_in_order c in
    let links = without (its port nqn) c.links in
    changes_where 0 _ _ _ _ (λ i. records c.links (S i) (P i) R) (λ i. records links (S i) (P i) R)
    (links_changed port nqn c.links links o.front s.it o.rest u.front t.it u.rest R 0 (link_removed c.links port nqn) o.none_before o.none_after u.none_before u.none_after
    (none_left (λ (x : Subsystem). has_link links s.it.id x.nqn) t.it (gone_too c.links s.it.id port t.it.nqn nqn (eqb-true s.it.id port s.passes) (same_name t.it.nqn nqn t.passes))))

-- ---- each edit

-- it changes so many records in one stretch
abbrev Within : ℕ → Configuration → Configuration → Type 0
Within n c d = Changes n (catalog_of c) (catalog_of d)

changed : (c : Configuration) (edit : Edit) → IsValid c → Unless (refusals c edit) (Within (reach c edit) c (effect c edit))
changed c (SubsystemAdd nqn serial access) valid = λ ordinary text absent room. subsystem_added c (record { nqn = nqn; serial = serial; access = access }) valid absent
changed c (SubsystemSet nqn access) valid = λ there. subsystem_set c nqn access (links_of_subsystem c nqn) valid (not-false (has_subsystem c.subsystems nqn) there)
changed c (SubsystemDel nqn) valid = λ there empty unlinked unallowed. subsystem_removed c nqn valid (not-false (has_subsystem c.subsystems nqn) there) unlinked
changed c (PortAdd e) valid = λ number text listens absent room. port_put c (port_of e) valid absent
changed c (PortSet e) valid = λ number text listens there. port_set c (port_of e) valid (not-false (has_port c.ports e.id) there)
changed c (PortDel id) valid = λ there unlinked. port_gone c id valid (not-false (has_port c.ports id) there)
changed c (LinkAdd port nqn) valid = λ there subsystem absent. link_put c port nqn valid (not-false (has_port c.ports port) there) (not-false (has_subsystem c.subsystems nqn) subsystem)
changed c (LinkDel port nqn) valid = λ there subsystem linked. link_gone c port nqn valid (not-false (has_port c.ports port) there) (not-false (has_subsystem c.subsystems nqn) subsystem)
changed c (HostAdd nqn) valid = λ absent room. subst (Within 0 c) (sym (hosts_alone c nqn)) (unchanged 0 _ _ refl)
changed c (AnaSet port nqn group state) valid = λ sound there subsystem linked. subst (Within 0 c) (sym (states_alone c port nqn group state)) (unchanged 0 _ _ refl)
changed c (ReferralAdd e) valid = λ number text listens absent room. referral_put c (port_of e) valid absent
changed c (ReferralSet e) valid = λ number text listens there. referral_set c (port_of e) valid (not-false (has_port c.referrals e.id) there)
changed c (ReferralDel id) valid = λ there. referral_gone c id valid (not-false (has_port c.referrals id) there)
changed c edit valid = whatever (refusals c edit) (Within (reach c edit) c (effect c edit)) (unchanged (reach c edit) _ _ refl)

pub edits_form_their_reach : EditsFormTheirReach
edits_form_their_reach c d edit plan valid ok least =
    fresh_few (reach c edit) (catalog_of c) (catalog_of d) plan (accepted c d edit (Within (reach c edit) c) ok (changed c edit valid)) least

-- what a plan for the next configuration forms
pub reach_met : (c : Configuration) (edit : Edit) (shown : Shown) (slots : List Parts) (rows : Rows Places) (plan : Planned) (old new : ℕ) → IsValid c → IsOk (accept c edit)
    → AreOf c slots rows → IfOk (accept c edit) (λ d. LeadsTo d shown slots rows plan) → new ≤ old + length plan.fresh → new ≤ old + reach c edit
reach_met c edit shown slots rows plan old new valid ok of leads few = by_made (accept c edit) refl ok leads
  where
    by_made : (made : Result Configuration EditFault) → accept c edit ≡ made → IsOk made → IfOk made (λ d. LeadsTo d shown slots rows plan) → new ≤ old + reach c edit
    by_made (Ok d) is done leads_to =
        let least : IsLeast (catalog_of c) (catalog_of d) plan = rw of.table at leads_to.least in
        omega (arith, few, edits_form_their_reach c d edit plan valid is least)
    by_made (Err fault) is done leads_to = absurd (cc)
