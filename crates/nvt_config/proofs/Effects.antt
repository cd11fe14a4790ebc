-- What an accepted edit leaves, and that a change which makes it keeps a configuration valid.
use Rattle.std.proofs.Common.{◌≡◌, ◌<◌, ◌≤◌, ◌==◌, ◌&&◌, ℕ, true, false, not, List, Ok, Any, IsTrue, IsOk, IfOk, nat_le, length, refl, sym, ◌∙◌, subst, ap, arith}
use Rattle.std.proofs.lemmas.Bool.{and_parts, cond-true, cond-false, eqb-true, leb-true, leb-false, not-false}
use Rattle.std.proofs.lemmas.List.Folds.{Any-from_list_any}
use Rattle.std.specs.Str.{bytes_eq}
use Rattle.config_lists.specs.declared.group_state.AnaState.{AnaState}
use Rattle.config_lists.specs.declared.port.Port.{Port}
use Rattle.config_lists.specs.GroupState.{is_optimized}
use Rattle.config_lists.specs.declared.namespace.Namespace.{Namespace}
use Rattle.config_lists.specs.Namespace.{is_group, is_named, is_nsid, nsid_max}
use Rattle.config_lists.specs.Port.{is_port, is_port_number, is_address}
use Rattle.config_lists.specs.declared.edit.Edit.{Edit}
use Rattle.config_lists.specs.declared.edit.Edit.TheVariants.{NamespaceAdd, NamespaceGroup, NamespaceShow, LinkAdd, AnaSet}
use Rattle.config_lists.specs.declared.edit.NewNamespace.{NewNamespace}
use Rattle.nvt_config.specs.Configuration.{Configuration, has_namespace, has_port, has_host, with_live, with_new_host, with_host, has_state, with_new_state, with_state_set, without_state, with_ana_state}
use Rattle.nvt_config.specs.Accept.{accept, effect}
use Rattle.nvt_config.specs.Valid.{IsValid}
use Rattle.nvt_config.proofs.Refusals.{accept-effect, passed_all}
use Rattle.nvt_config.proofs.Valid.{IsValid-accept}
use Rattle.nvt_config.specs.declared.plan.ListChange.{ListChange}
use Rattle.nvt_config.specs.declared.plan.Plan.{Plan}
use Rattle.nvt_config.specs.Plan.{HasRoom, IsPlanOf, changed_by, made}

-- a change that makes the effect of an accepted edit makes the configuration after it
pub accept-made : (c d v : Configuration) (edit : Edit) → c ≡ v → IsOk (accept v edit) → d ≡ effect c edit → accept v edit ≡ Ok d
accept-made c d v edit same ok made = accept-effect v edit ok ∙ ap Ok (sym (made ∙ ap (λ w. effect w edit) same))

-- and a valid one
pub IsValid-made : (c d v : Configuration) (edit : Edit) → c ≡ v → IsOk (accept v edit) → d ≡ effect c edit → IsValid c → IsValid d
IsValid-made c d v edit same ok made valid =
    let accepted : accept c edit ≡ Ok d = ap (λ w. accept w edit) same ∙ accept-made c d v edit same ok made in
    subst (λ r. IfOk r IsValid) accepted (IsValid-accept c edit valid)

-- a plan of a change that makes the effect of an accepted edit, and has room for it, is one of that edit
pub is_plan : (c v : Configuration) (edit : Edit) (plan : Plan) (change : ListChange) → c ≡ v → IsOk (accept v edit) → plan.change ≡ change → changed_by change c ≡ effect c edit → HasRoom change c → IsValid c → IsPlanOf v edit plan
is_plan c v edit plan change same ok is makes room valid =
    let accepted : IsOk (accept c edit) = subst (λ w. IsOk (accept w edit)) (sym same) ok in
    let effects : made plan c ≡ effect c edit = ap (λ x. changed_by x c) is ∙ makes in
    subst (λ w. IsPlanOf w edit plan) same (record {
      makes = accept-made c (made plan c) c edit refl accepted effects;
      ready = record {
        room = subst (λ x. HasRoom x c) (sym is) room;
        valid = IsValid-made c (made plan c) c edit refl accepted effects valid;
      };
    })

-- a port that is there has a number of 16 bits
port_number : (c : Configuration) (id : ℕ) → IsValid c → has_port c.ports id ≡ true → id ≤ 65535
port_number c id valid found =
    let any : Any (λ p. (p.id == id) ≡ true) c.ports = Any-from_list_any (λ p. p.id == id) c.ports found in
    let port : Port = any.1 in
    let same : port.id ≡ id = eqb-true port.id id any.4 in
    let sound : IsTrue (is_port port) = subst (λ p. IsTrue (is_port p)) any.3 (valid.ports.sound any.0 port any.2) in
    let number : is_port_number port.id ≡ true = (and_parts (is_port_number port.id) (is_address port.address && is_port_number port.service) sound).0 in
    let most : port.id ≤ 65535 = leb-true port.id 65535 (and_parts (nat_le 1 port.id) (nat_le port.id 65535) number).1 in
    omega arith

group_number_of : (group : ℕ) → not (is_group group) ≡ false → group ≤ 32
group_number_of group fails = leb-true group 32 (and_parts (nat_le 1 group) (nat_le group 32) (not-false (is_group group) fails)).1

pub linked_port : (c v : Configuration) (port : ℕ) (nqn : List ℕ) → c ≡ v → IsOk (accept v (LinkAdd port nqn)) → IsValid c → port ≤ 65535
linked_port c v port nqn same ok valid =
    passed_all v (LinkAdd port nqn) (port ≤ 65535) ok (λ there subsystem absent.
    port_number c port valid (ap (λ w. has_port w.ports port) same ∙ not-false (has_port v.ports port) there))

-- a namespace that is shown has an identifier that may be
nsid_of : (c : Configuration) (nqn : List ℕ) (nsid : ℕ) → IsValid c → has_namespace c.namespaces nqn nsid ≡ true → nsid ≤ nsid_max
nsid_of c nqn nsid valid found =
    let any : Any (λ n. is_named nqn nsid n ≡ true) c.namespaces = Any-from_list_any (is_named nqn nsid) c.namespaces found in
    let n : Namespace = any.1 in
    let same : n.nsid ≡ nsid = eqb-true n.nsid nsid (and_parts (bytes_eq n.subsystem nqn) (n.nsid == nsid) any.4).1 in
    let sound : IsTrue (is_nsid n.nsid) = subst (λ (m : Namespace). IsTrue (is_nsid m.nsid)) any.3 (valid.namespaces.sound any.0 n any.2).nsid in
    let most : n.nsid ≤ nsid_max = leb-true n.nsid nsid_max (and_parts (nat_le 1 n.nsid) (nat_le n.nsid nsid_max) sound).1 in
    omega arith

pub shown_nsid : (c v : Configuration) (nqn : List ℕ) (nsid : ℕ) (host : List ℕ) → c ≡ v → IsOk (accept v (NamespaceShow nqn nsid host)) → IsValid c → nsid ≤ nsid_max
shown_nsid c v nqn nsid host same ok valid =
    passed_all v (NamespaceShow nqn nsid host) (nsid ≤ nsid_max) ok (λ subsystem there live absent room.
    nsid_of c nqn nsid valid (ap (λ w. has_namespace w.namespaces nqn nsid) same ∙ not-false (has_namespace v.namespaces nqn nsid) there))

-- an ANA state is set on a port that is there, for a group that may be
pub state_numbers : (c v : Configuration) (port : ℕ) (nqn : List ℕ) (group : ℕ) (state : AnaState) → c ≡ v → IsOk (accept v (AnaSet port nqn group state)) → IsValid c → (port ≤ 65535) × (group ≤ 32)
state_numbers c v port nqn group state same ok valid =
    passed_all v (AnaSet port nqn group state) ((port ≤ 65535) × (group ≤ 32)) ok (λ sound there subsystem linked. (
      port_number c port valid (ap (λ w. has_port w.ports port) same ∙ not-false (has_port v.ports port) there),
      group_number_of group sound,
    ))

-- a group that is set is one that may be
pub group_number : (v : Configuration) (nqn : List ℕ) (nsid group : ℕ) → IsOk (accept v (NamespaceGroup nqn nsid group)) → group ≤ 32
group_number v nqn nsid group ok =
    passed_all v (NamespaceGroup nqn nsid group) (group ≤ 32) ok (λ sound subsystem there. group_number_of group sound)

-- a namespace that is added has numbers that may be
pub record NamespaceNumbers (n : NewNamespace) : Type 0 where
  pub nsid : n.nsid ≤ nsid_max
  pub disk : n.disk ≤ 256
  pub group : n.group ≤ 32

pub namespace_numbers : (c v : Configuration) (n : NewNamespace) → c ≡ v → IsOk (accept v (NamespaceAdd n)) → IsValid c → NamespaceNumbers n
namespace_numbers c v n same ok valid =
    passed_all v (NamespaceAdd n) (NamespaceNumbers n) ok (λ nsid blocks block_size uuid group subsystem disk absent own free.
    let most : length c.units ≤ 256 = leb-true (length c.units) 256 (and_parts (nat_le (length c.units) 256) _ valid.disks).0 in
    let fewer : length v.units ≤ 256 = subst (λ w. length w.units ≤ 256) same most in
    let below : n.disk < length v.units = leb-false (length v.units) n.disk disk in
    record {
      nsid = leb-true n.nsid nsid_max (and_parts (nat_le 1 n.nsid) (nat_le n.nsid nsid_max) (not-false (is_nsid n.nsid) nsid)).1;
      disk = omega arith;
      group = group_number_of n.group group;
    })

pub with_host-known : (c : Configuration) (nqn : List ℕ) → has_host c.hosts nqn ≡ true → with_live c nqn true ≡ with_host c nqn
with_host-known c nqn known = sym (cond-true (has_host c.hosts nqn) (with_live c nqn true) _ known)

pub with_host-new : (c : Configuration) (nqn : List ℕ) → has_host c.hosts nqn ≡ false → with_new_host c (record { nqn = nqn; live = true }) ≡ with_host c nqn
with_host-new c nqn absent = sym (cond-false (has_host c.hosts nqn) (with_live c nqn true) _ absent)

pub with_ana_state-none : (c : Configuration) (port : ℕ) (nqn : List ℕ) (group : ℕ) (state : AnaState) → is_optimized state ≡ true → without_state c port nqn group ≡ with_ana_state c port nqn group state
with_ana_state-none c port nqn group state none = sym (cond-true (is_optimized state) (without_state c port nqn group) _ none)

pub with_ana_state-known : (c : Configuration) (port : ℕ) (nqn : List ℕ) (group : ℕ) (state : AnaState) → is_optimized state ≡ false → has_state c.states port nqn group ≡ true → with_state_set c port nqn group state ≡ with_ana_state c port nqn group state
with_ana_state-known c port nqn group state some known =
    sym (cond-false (is_optimized state) (without_state c port nqn group) _ some ∙ cond-true (has_state c.states port nqn group) (with_state_set c port nqn group state) _ known)

pub with_ana_state-new : (c : Configuration) (port : ℕ) (nqn : List ℕ) (group : ℕ) (state : AnaState) → is_optimized state ≡ false → has_state c.states port nqn group ≡ false → with_new_state c (record { port = port; subsystem = nqn; group = group; state = state }) ≡ with_ana_state c port nqn group state
with_ana_state-new c port nqn group state some absent =
    sym (cond-false (is_optimized state) (without_state c port nqn group) _ some ∙ cond-false (has_state c.states port nqn group) (with_state_set c port nqn group state) _ absent)
