-- The edits of ports, of links, of ANA states and of referrals add them.
use Rattle.std.proofs.Common.{◌≡◌, ◌==◌, ◌++◌, ◌∷◌, [], ℕ, true, false, ◌&&◌, List, Ok, IsTrue, ap, sym, ◌∙◌, subst}
use Rattle.std.proofs.lemmas.Bool.{and_parts, cond-false, eqb-true, not_from_true}
use Rattle.std.specs.Str.{bytes_eq}
use Rattle.config_lists.specs.declared.group_state.GroupState.{GroupState}
use Rattle.config_lists.specs.declared.link.Link.{Link}
use Rattle.config_lists.specs.declared.port.Port.{Port}
use Rattle.config_lists.specs.GroupState.{is_optimized, is_state_for, is_state_on}
use Rattle.config_lists.specs.Namespace.{is_group}
use Rattle.config_lists.specs.Port.{is_address, is_port, is_port_number}
use Rattle.config_lists.proofs.Names.{same_name}
use Rattle.config_lists.specs.declared.edit.Edit.TheVariants.{AnaSet, LinkAdd, PortAdd, ReferralAdd}
use Rattle.nvt_config.specs.Configuration.{Configuration, has_link, has_port, has_state, has_subsystem, with_ana_state, with_new_state, with_state_set, without_state}
use Rattle.nvt_config.specs.Valid.{AreLinks, ArePorts, AreStates, IsGroupState, IsLink, IsValid}
use Rattle.config_saved.specs.Saved.{endpoint_of, edits_of_link, edits_of_port, edits_of_referral, edits_of_state}
use Rattle.config_saved.proofs.Items.{found_sound, item_fits, item_new, item_sound}
use Rattle.config_saved.proofs.Rebuild.{AddEach, accept_where_none, after_one}
use Rattle.config_saved.proofs.Stages.{at_links, at_ports, at_referrals, at_states}

-- ---- ports, and referrals, which are ports elsewhere

module _ (before : List Port) (p : Port) (after : List Port) (are : ArePorts (before ++ p ∷ after)) where
  abbrev PortIsSound : Type 0
  PortIsSound = (is_port_number p.id ≡ true) × (is_address p.address ≡ true) × (is_port_number p.service ≡ true)

  port_sound : PortIsSound
  port_sound =
      let sound = item_sound (λ (q : Port). IsTrue (is_port q)) before p after are.sound in
      let parts = and_parts (is_port_number p.id) (is_address p.address && is_port_number p.service) sound in
      let others = and_parts (is_address p.address) (is_port_number p.service) parts.1 in
      (parts.0, others.0, others.1)

  port_new : has_port before p.id ≡ false
  port_new = item_new (λ (p q : Port). p.id ≡ q.id) (λ q. q.id == p.id) before p after are.distinct (λ q. eqb-true q.id p.id)

pub ports_added : (c : Configuration) → IsValid c → AddEach edits_of_port (at_ports c) c.ports
ports_added c valid before p after whole =
    let are : ArePorts (before ++ p ∷ after) = subst ArePorts (sym whole) valid.ports in
    let sound = port_sound before p after are in
    after_one (at_ports c before) (at_ports c (before ++ p ∷ [])) (PortAdd (endpoint_of p))
    (accept_where_none (at_ports c before) (PortAdd (endpoint_of p)) (
      not_from_true (is_port_number p.id) sound.0,
      (
        not_from_true (is_address p.address) sound.1,
        (
          not_from_true (is_port_number p.service) sound.2,
          (
            port_new before p after are,
            (item_fits 16 before p after are.count, tt),
          ),
        ),
      ),
    ))

pub referrals_added : (c : Configuration) → IsValid c → AddEach edits_of_referral (at_referrals c) c.referrals
referrals_added c valid before p after whole =
    let are : ArePorts (before ++ p ∷ after) = subst ArePorts (sym whole) valid.referrals in
    let sound = port_sound before p after are in
    after_one (at_referrals c before) (at_referrals c (before ++ p ∷ [])) (ReferralAdd (endpoint_of p))
    (accept_where_none (at_referrals c before) (ReferralAdd (endpoint_of p)) (
      not_from_true (is_port_number p.id) sound.0,
      (
        not_from_true (is_address p.address) sound.1,
        (
          not_from_true (is_port_number p.service) sound.2,
          (
            port_new before p after are,
            (item_fits 16 before p after are.count, tt),
          ),
        ),
      ),
    ))

-- ---- links

abbrev IsSameLink : Link → Link → Type 0
IsSameLink k l = (k.port ≡ l.port) × (k.subsystem ≡ l.subsystem)

pub links_added : (c : Configuration) → IsValid c → AddEach edits_of_link (at_links c) c.links
links_added c valid before l after whole =
    let are : AreLinks c.ports c.subsystems (before ++ l ∷ after) = subst (AreLinks c.ports c.subsystems) (sym whole) valid.links in
    let sound : IsLink c.ports c.subsystems l = item_sound (IsLink c.ports c.subsystems) before l after are.sound in
    let new : has_link before l.port l.subsystem ≡ false = item_new IsSameLink (λ k. (k.port == l.port) && bytes_eq k.subsystem l.subsystem) before l after are.distinct (λ k same.
    let parts = and_parts (k.port == l.port) (bytes_eq k.subsystem l.subsystem) same in
    (eqb-true k.port l.port parts.0, same_name k.subsystem l.subsystem parts.1)) in
    after_one (at_links c before) (at_links c (before ++ l ∷ [])) (LinkAdd l.port l.subsystem)
    (accept_where_none (at_links c before) (LinkAdd l.port l.subsystem) (
      not_from_true (has_port c.ports l.port) sound.port,
      (
        not_from_true (has_subsystem c.subsystems l.subsystem) sound.subsystem,
        (new, tt),
      ),
    ))

-- ---- ANA states

-- the port and the subsystem of a link that is there are there
link_ends : (c : Configuration) → IsValid c → (port : ℕ) (nqn : List ℕ) → has_link c.links port nqn ≡ true → (has_port c.ports port ≡ true) × (has_subsystem c.subsystems nqn ≡ true)
link_ends c valid port nqn there =
    let found = found_sound (IsLink c.ports c.subsystems) (λ l. (l.port == port) && bytes_eq l.subsystem nqn) c.links valid.links.sound there in
    let link : Link = found.0 in
    let sound : IsLink c.ports c.subsystems link = found.1 in
    let parts = and_parts (link.port == port) (bytes_eq link.subsystem nqn) found.2 in (
      subst (λ p. has_port c.ports p ≡ true) (eqb-true link.port port parts.0) sound.port,
      subst (λ n. has_subsystem c.subsystems n ≡ true) (same_name link.subsystem nqn parts.1) sound.subsystem,
    )

abbrev IsSameState : GroupState → GroupState → Type 0
IsSameState s t = (s.port ≡ t.port) × (s.subsystem ≡ t.subsystem) × (s.group ≡ t.group)

same_state : (s t : GroupState) → is_state_for t.port t.subsystem t.group s ≡ true → IsSameState s t
same_state s t same =
    let parts = and_parts (is_state_on t.port t.subsystem s) (s.group == t.group) same in
    let on = and_parts (s.port == t.port) (bytes_eq s.subsystem t.subsystem) parts.0 in
    (eqb-true s.port t.port on.0, same_name s.subsystem t.subsystem on.1, eqb-true s.group t.group parts.1)

-- a state that is none yet, and another than that where none is set
state_is_new : (c : Configuration) (s : GroupState) → is_optimized s.state ≡ false → has_state c.states s.port s.subsystem s.group ≡ false → with_ana_state c s.port s.subsystem s.group s.state ≡ with_new_state c s
state_is_new c s other new =
    cond-false (is_optimized s.state) (without_state c s.port s.subsystem s.group) _ other
    ∙ cond-false (has_state c.states s.port s.subsystem s.group) (with_state_set c s.port s.subsystem s.group s.state) (with_new_state c s) new

pub states_added : (c : Configuration) → IsValid c → AddEach edits_of_state (at_states c) c.states
states_added c valid before s after whole =
    let are : AreStates c.links (before ++ s ∷ after) = subst (AreStates c.links) (sym whole) valid.states in
    let sound : IsGroupState c.links s = item_sound (IsGroupState c.links) before s after are.sound in
    let ends = link_ends c valid s.port s.subsystem sound.link in
    let new : has_state before s.port s.subsystem s.group ≡ false = item_new IsSameState (is_state_for s.port s.subsystem s.group) before s after are.distinct (λ t. same_state t s) in
    after_one (at_states c before) (at_states c (before ++ s ∷ [])) (AnaSet s.port s.subsystem s.group s.state)
    (accept_where_none (at_states c before) (AnaSet s.port s.subsystem s.group s.state) (
      not_from_true (is_group s.group) sound.group,
      (
        not_from_true (has_port c.ports s.port) ends.0,
        (
          not_from_true (has_subsystem c.subsystems s.subsystem) ends.1,
          (not_from_true (has_link c.links s.port s.subsystem) sound.link, tt),
        ),
      ),
    )
    ∙ ap Ok (state_is_new (at_states c before) s sound.state new))
