-- What follows where a Connect is admitted: each of its checks passed.
use Rattle.std.proofs.Common.{◌≡◌, ℕ, ◌≤◌, Bool, true, false, not, ◌==◌, List, Option, Some, None, is_none, Result, Ok, Err, ◌⊎◌, refl, ap, subst, inl, inr, arith}
use Rattle.std.specs.Prelude.{if◌then◌else◌, IsSomeAnd}
use Rattle.std.specs.Str.{bytes_eq}
use Rattle.std.proofs.lemmas.Bool.Decides.{nat_tests}
use Rattle.std.proofs.lemmas.Slice.Eq.{bytes_eq-Decides}
use Rattle.nvt_fields.specs.declared.name.NqnFault.{NqnFault}
use Rattle.nvt_fields.specs.Name.{IsName, fault_of}
use Rattle.pdu_codec.specs.ConnectData.{cntlid_at}
use Rattle.nvt_config.specs.Configuration.{Configuration}
use Rattle.fabrics_connect.specs.declared.decision.AdmitAs.{AdmitAs}
use Rattle.fabrics_connect.specs.declared.decision.AdmitAs.TheVariants.{Controller, Queue}
use Rattle.property_regs.specs.declared.kind.ControllerKind.{ControllerKind}
use Rattle.fabrics_connect.specs.declared.decision.NewController.{NewController}
use Rattle.fabrics_connect.specs.declared.decision.Refusal.{Refusal}
use Rattle.fabrics_connect.specs.declared.row.Row.{Row}
use Rattle.fabrics_connect.specs.Command.{Parameters}
use Rattle.fabrics_connect.specs.Connect.{admitted, begun, begun_under, format_verdict, is_named, is_well_formed, join_verdict, joined_by, kind_of, names_verdict, permission_verdict, queue_verdict}
use Rattle.fabrics_connect.specs.Controllers.{free_cntlid}
use Rattle.fabrics_connect.specs.Laws.{MayBeJoined}
use Rattle.fabrics_connect.specs.Refusal.{Verdict, after, in_data, invalid_parameter, passed, refuse}
use Rattle.fabrics_connect.specs.Row.{has_queue}

module _ {T : Type 0} where
  pub first_passed : (v : Verdict) (next : Result T Refusal) (x : T) → after v next ≡ Ok x → v ≡ passed
  first_passed (Ok done) next x h = refl
  first_passed (Err refusal) next x h = cc

  pub next_passed : (v : Verdict) (next : Result T Refusal) (x : T) → after v next ≡ Ok x → next ≡ Ok x
  next_passed (Ok done) next x h = h
  next_passed (Err refusal) next x h = cc

-- the checks passed, and what comes after them admits
pub record HasPassed (config : Configuration) (row : ℕ → Option Row) (port : ℕ) (p : Parameters) (a : AdmitAs) : Type 0 where
  pub queue : queue_verdict p ≡ passed
  pub names : names_verdict config port p ≡ passed
  pub permission : permission_verdict config port p ≡ passed
  pub last : (if p.qid == 0 then begun row p else joined_by port p (row p.cntlid)) ≡ Ok a

pub has_passed : (config : Configuration) (row : ℕ → Option Row) (port : ℕ) (p : Parameters) (a : AdmitAs) → admitted config row port p ≡ Ok a → HasPassed config row port p a
unfolding admitted
has_passed config row port p a it =
    let last : Result AdmitAs Refusal = if p.qid == 0 then begun row p else joined_by port p (row p.cntlid) in
    let permission = permission_verdict config port p in
    let names = names_verdict config port p in
    let queue = queue_verdict p in
    let from_queue = next_passed (format_verdict p) (after queue (after names (after permission last))) a it in
    let from_names = next_passed queue (after names (after permission last)) a from_queue in
    let from_permission = next_passed names (after permission last) a from_names in
    record {
      queue = first_passed queue (after names (after permission last)) a from_queue;
      names = first_passed names (after permission last) a from_names;
      permission = first_passed permission last a from_permission;
      last = next_passed permission last a from_permission;
    }

-- ---- what the checks say where they pass

none_named : (o : Option NqnFault) → is_none o ≡ true → o ≡ None
none_named None h = refl
none_named (Some fault) h = cc

pub well_formed_is_name : (nqn : List ℕ) → is_well_formed nqn ≡ true → IsName nqn
well_formed_is_name nqn h = none_named (fault_of nqn) h

queue_passed : (p : Parameters) → queue_verdict p ≡ passed → p.qid ≤ 8
unfolding queue_verdict
queue_passed p h = grind (arith, nat_tests)

pub names_passed : (config : Configuration) (port : ℕ) (p : Parameters) → names_verdict config port p ≡ passed → (is_well_formed p.subsystem ≡ true) × (is_well_formed p.host ≡ true)
unfolding names_verdict
names_passed config port p h = grind (arith, nat_tests)

either_passed : (test : Bool) (x y : Result AdmitAs Refusal) (a : AdmitAs) → (if test then x else y) ≡ Ok a
    → ((test ≡ true) × (x ≡ Ok a)) ⊎ ((test ≡ false) × (y ≡ Ok a))
either_passed true x y a h = inl (refl, h)
either_passed false x y a h = inr (refl, h)

-- ---- a controller that begins

free_begun : (kind : ControllerKind) (free : Option ℕ) (controller : NewController) → begun_under kind free ≡ Ok (Controller controller) → free ≡ Some controller.cntlid
free_begun kind None controller h = cc
free_begun kind (Some cntlid) controller h = cc

kind_begun : (kind : ControllerKind) (free : Option ℕ) (controller : NewController) → begun_under kind free ≡ Ok (Controller controller) → controller.kind ≡ kind
kind_begun kind None controller h = cc
kind_begun kind (Some cntlid) controller h = cc

no_queue_begun : (kind : ControllerKind) (free : Option ℕ) (cntlid qid : ℕ) → begun_under kind free ≡ Ok (Queue cntlid qid) → ⊥
no_queue_begun kind None cntlid qid h = cc
no_queue_begun kind (Some other) cntlid qid h = cc

no_controller_joined : (port : ℕ) (p : Parameters) (row : Option Row) (controller : NewController) → joined_by port p row ≡ Ok (Controller controller) → ⊥
unfolding joined_by
no_controller_joined port p row controller h =
    let queue : Result AdmitAs Refusal = Ok (Queue p.cntlid p.qid) in
    let same = next_passed (join_verdict port p row) queue (Controller controller) h in
    cc

-- it is begun under an identifier that is free
is_begun : (config : Configuration) (row : ℕ → Option Row) (port : ℕ) (p : Parameters) (controller : NewController) → admitted config row port p ≡ Ok (Controller controller)
    → begun_under (kind_of p.subsystem) (free_cntlid row) ≡ Ok (Controller controller)
unfolding begun
is_begun config row port p controller it =
    let last = (has_passed config row port p (Controller controller) it).last in
    elim (either_passed (p.qid == 0) (begun row p) (joined_by port p (row p.cntlid)) (Controller controller) last) [
      | inl admin ↦
          let any = refuse (not (p.cntlid == 0xFFFF)) (invalid_parameter (in_data cntlid_at)) passed in
          next_passed any (begun_under (kind_of p.subsystem) (free_cntlid row)) (Controller controller) admin.1
      | inr queue ↦ absurd (no_controller_joined port p (row p.cntlid) controller queue.1)
    ]

-- .. the least one
pub begins_free : (config : Configuration) (row : ℕ → Option Row) (port : ℕ) (p : Parameters) (controller : NewController) → admitted config row port p ≡ Ok (Controller controller) → free_cntlid row ≡ Some controller.cntlid
begins_free config row port p controller it =
    free_begun (kind_of p.subsystem) (free_cntlid row) controller (is_begun config row port p controller it)

-- .. for what its subsystem is
pub begins_kind : (config : Configuration) (row : ℕ → Option Row) (port : ℕ) (p : Parameters) (controller : NewController) → admitted config row port p ≡ Ok (Controller controller) → controller.kind ≡ kind_of p.subsystem
begins_kind config row port p controller it =
    kind_begun (kind_of p.subsystem) (free_cntlid row) controller (is_begun config row port p controller it)

-- ---- a queue that joins one

bytes_are : (a b : List ℕ) → bytes_eq a b ≡ true → a ≡ b
bytes_are a b h = (bytes_eq-Decides a b).0 h

named_is : (nqn : List ℕ) (name : Option (List ℕ)) → is_named nqn name ≡ true → name ≡ Some nqn
named_is nqn None h = cc
named_is nqn (Some name) h = ap Some (bytes_are name nqn h)

-- what the checks of the row say
pub record RowPassed (through : ℕ) (p : Parameters) (row : Row) : Type 0 where
  pub subsystem : is_named p.subsystem row.subsystem ≡ true
  pub port : row.port ≡ through
  pub host : bytes_eq row.host p.host ≡ true
  pub hostid : bytes_eq row.hostid p.hostid ≡ true
  pub ready : row.ready ≡ true
  pub vacant : has_queue p.qid row ≡ false

row_passed : (port : ℕ) (p : Parameters) (row : Row) → join_verdict port p (Some row) ≡ passed → RowPassed port p row
row_passed port p row h = record {
  subsystem = grind (arith, nat_tests);
  port = grind (arith, nat_tests);
  host = grind (arith, nat_tests);
  hostid = grind (arith, nat_tests);
  ready = grind (arith, nat_tests);
  vacant = grind (arith, nat_tests);
}

pub join_passed : (port : ℕ) (p : Parameters) (o : Option Row) → join_verdict port p o ≡ passed → IsSomeAnd o (MayBeJoined port p)
join_passed port p None h = cc
join_passed port p (Some row) h =
    let checked = row_passed port p row h in
    record {
      subsystem = named_is p.subsystem row.subsystem checked.subsystem;
      port = checked.port;
      host = bytes_are row.host p.host checked.host;
      hostid = bytes_are row.hostid p.hostid checked.hostid;
      ready = checked.ready;
      vacant = checked.vacant;
    }

queue_joined : (port : ℕ) (p : Parameters) (row : Option Row) (cntlid qid : ℕ) → joined_by port p row ≡ Ok (Queue cntlid qid) → (join_verdict port p row ≡ passed) × (p.cntlid ≡ cntlid) × (p.qid ≡ qid)
unfolding joined_by
queue_joined port p row cntlid qid h =
    let queue : Result AdmitAs Refusal = Ok (Queue p.cntlid p.qid) in
    let same : queue ≡ Ok (Queue cntlid qid) = next_passed (join_verdict port p row) queue (Queue cntlid qid) h in
    (first_passed (join_verdict port p row) queue (Queue cntlid qid) h, cc, cc)

pub record HasJoined (row : ℕ → Option Row) (port : ℕ) (p : Parameters) (c q : ℕ) : Type 0 where
  pub cntlid : p.cntlid ≡ c
  pub qid : p.qid ≡ q
  pub least : 1 ≤ q
  pub most : q ≤ 8
  pub found : IsSomeAnd (row c) (MayBeJoined port p)

pub joins_passed : (config : Configuration) (row : ℕ → Option Row) (port : ℕ) (p : Parameters) (cntlid qid : ℕ) → admitted config row port p ≡ Ok (Queue cntlid qid) → HasJoined row port p cntlid qid
unfolding begun
joins_passed config row port p cntlid qid it =
    let checked = has_passed config row port p (Queue cntlid qid) it in
    elim (either_passed (p.qid == 0) (begun row p) (joined_by port p (row p.cntlid)) (Queue cntlid qid) checked.last) [
      | inl admin ↦
          let any = refuse (not (p.cntlid == 0xFFFF)) (invalid_parameter (in_data cntlid_at)) passed in
          absurd (no_queue_begun (kind_of p.subsystem) (free_cntlid row) cntlid qid (next_passed any (begun_under (kind_of p.subsystem) (free_cntlid row)) (Queue cntlid qid) admin.1))
      | inr queue ↦
          let joined = queue_joined port p (row p.cntlid) cntlid qid queue.1 in
          let within = queue_passed p checked.queue in
          record {
            cntlid = joined.1;
            qid = joined.2;
            least = grind (arith, nat_tests);
            most = omega arith;
            found = subst (λ (c : ℕ). IsSomeAnd (row c) (MayBeJoined port p)) joined.1 (join_passed port p (row p.cntlid) joined.0);
          }
    ]
