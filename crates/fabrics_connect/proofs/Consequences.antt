-- What callers go by where a Connect is admitted, and the laws.
use Rattle.std.proofs.Common.{◌≡◌, ℕ, true, false, List, Option, Some, None, Result, Ok, Err, Bool, refl, sym, ap, subst, arith, ◌∙◌}
use Rattle.std.specs.Prelude.{IsSomeAnd, if◌then◌else◌}
use Rattle.std.proofs.lemmas.Bool.Decides.{nat_tests}
use Rattle.tables.specs.NumberTable.{place}
use Rattle.pdu_codec.specs.Sqe.{sgl1_of}
use Rattle.config_lists.specs.Subsystem.{is_discovery}
use Rattle.nvt_config.specs.Configuration.{Configuration}
use Rattle.nvt_config.specs.Permission.{may_use}
use Rattle.fabrics_connect.specs.declared.decision.AdmitAs.{AdmitAs}
use Rattle.fabrics_connect.specs.declared.decision.AdmitAs.TheVariants.{Controller, Queue}
use Rattle.fabrics_connect.specs.declared.decision.Decision.TheVariants.{Admit}
use Rattle.fabrics_connect.specs.declared.decision.Refusal.{Refusal}
use Rattle.fabrics_connect.specs.declared.row.Row.{Row}
use Rattle.fabrics_connect.specs.Command.{HasNames, Parameters, data_verdict, parameters_of}
use Rattle.fabrics_connect.specs.Connect.{CanJoin, IfController, IfQueue, admitted, answer_to, connect, decision_of, kind_of, permission_verdict}
use Rattle.fabrics_connect.specs.Controllers.{CanBegin}
use Rattle.fabrics_connect.specs.Laws.{BeginningsArePermitted, HostsNeedPermission, IdentifiersAreLeast, IsDenied, MayBeJoined, QueuesJoinTheirMaker}
use Rattle.fabrics_connect.specs.Permitted.{may_use_named}
use Rattle.fabrics_connect.specs.Refusal.{passed}
use Rattle.fabrics_connect.specs.Row.{has_queue, subsystem_named}
use Rattle.property_regs.specs.declared.kind.ControllerKind.{ControllerKind}
use Rattle.property_regs.specs.declared.kind.ControllerKind.TheVariants.{Discovery, Io}
use Rattle.fabrics_connect.proofs.Admitted.{begins_free, begins_kind, first_passed, has_passed, joins_passed, names_passed, next_passed, well_formed_is_name}
use Rattle.fabrics_connect.proofs.Free.{is_first_free}

is_whole : (config : Configuration) (row : ℕ → Option Row) (port : ℕ) (entry payload : List ℕ) (a : AdmitAs) → answer_to config row port entry payload ≡ Ok a → data_verdict (sgl1_of entry) payload ≡ passed
is_whole config row port entry payload a it =
    first_passed (data_verdict (sgl1_of entry) payload) (admitted config row port (parameters_of entry payload)) a it

is_admitted : (config : Configuration) (row : ℕ → Option Row) (port : ℕ) (entry payload : List ℕ) (a : AdmitAs) → answer_to config row port entry payload ≡ Ok a → admitted config row port (parameters_of entry payload) ≡ Ok a
is_admitted config row port entry payload a it =
    next_passed (data_verdict (sgl1_of entry) payload) (admitted config row port (parameters_of entry payload)) a it

-- ---- what callers go by

pub controller_begins : (config : Configuration) (rows : List (Option Row)) (port : ℕ) (entry payload : List ℕ) (a : AdmitAs) → answer_to config (λ c. place rows c) port entry payload ≡ Ok a
    → IfController (Admit a) (λ controller. CanBegin rows controller.cntlid)
controller_begins config rows port entry payload (Queue cntlid qid) it = tt
controller_begins config rows port entry payload (Controller controller) it =
    let row = λ (c : ℕ). place rows c in
    let first = is_first_free row controller.cntlid (begins_free config row port (parameters_of entry payload) controller (is_admitted config row port entry payload (Controller controller) it)) in
    record { least = first.least; most = omega arith; free = first.free }

pub controller_named : (config : Configuration) (row : ℕ → Option Row) (port : ℕ) (entry payload : List ℕ) (a : AdmitAs) → answer_to config row port entry payload ≡ Ok a
    → IfController (Admit a) (λ controller. HasNames entry payload)
controller_named config row port entry payload (Queue cntlid qid) it = tt
controller_named config row port entry payload (Controller controller) it =
    let p = parameters_of entry payload in
    let checked = has_passed config row port p (Controller controller) (is_admitted config row port entry payload (Controller controller) it) in
    let names = names_passed config port p checked.names in
    record {
      whole = is_whole config row port entry payload (Controller controller) it;
      subsystem = well_formed_is_name p.subsystem names.0;
      host = well_formed_is_name p.host names.1;
    }

vacant : (port : ℕ) (p : Parameters) (o : Option Row) → IsSomeAnd o (MayBeJoined port p) → IsSomeAnd o (λ row. has_queue p.qid row ≡ false)
vacant port p None h = h
vacant port p (Some row) h = h.vacant

pub queue_joins : (config : Configuration) (rows : List (Option Row)) (port : ℕ) (entry payload : List ℕ) (a : AdmitAs) → answer_to config (λ c. place rows c) port entry payload ≡ Ok a
    → IfQueue (Admit a) (CanJoin rows)
queue_joins config rows port entry payload (Controller controller) it = tt
queue_joins config rows port entry payload (Queue cntlid qid) it =
    let row = λ (c : ℕ). place rows c in
    let p = parameters_of entry payload in
    let joined = joins_passed config row port p cntlid qid (is_admitted config row port entry payload (Queue cntlid qid) it) in
    record {
      least = joined.least;
      most = joined.most;
      vacant = subst (λ (q : ℕ). IsSomeAnd (place rows cntlid) (λ r. has_queue q r ≡ false)) joined.qid (vacant port p (place rows cntlid) joined.found);
    }

-- ---- the laws

permission_passed : (config : Configuration) (port : ℕ) (p : Parameters) → permission_verdict config port p ≡ passed → is_discovery p.subsystem ≡ false → may_use config p.host p.subsystem port ≡ true
unfolding permission_verdict
permission_passed config port p h other = grind (arith, nat_tests)

denied_unless : (answer : Result AdmitAs Refusal) → ((a : AdmitAs) → answer ≡ Ok a → ⊥) → IsDenied (decision_of answer)
denied_unless (Ok a) never = never a refl
denied_unless (Err refusal) never = tt

answer_is : (answer : Result AdmitAs Refusal) (a : AdmitAs) → decision_of answer ≡ Admit a → answer ≡ Ok a
answer_is (Ok b) a h = cc
answer_is (Err refusal) a h = cc

pub hosts_need_permission : HostsNeedPermission
unfolding connect
hosts_need_permission = record {
  denied = λ config row port entry payload other refused.
      let p = parameters_of entry payload in
      denied_unless (answer_to config row port entry payload) (λ a it.
      let checked = has_passed config row port p a (is_admitted config row port entry payload a it) in
      let used : may_use config p.host p.subsystem port ≡ true = permission_passed config port p checked.permission other in
      cc);
}

-- a discovery controller is of no subsystem, and another of the one that its Connect named
named_permitted : (config : Configuration) (p : Parameters) (port : ℕ) (kind : ControllerKind) (test : Bool) → is_discovery p.subsystem ≡ test
    → kind ≡ kind_of p.subsystem → (is_discovery p.subsystem ≡ false → may_use config p.host p.subsystem port ≡ true)
    → may_use_named config p.host (subsystem_named kind p.subsystem) port ≡ true
named_permitted config p port kind true is kinds used =
    let for_discovery : kind ≡ Discovery = kinds ∙ ap (λ (b : Bool). if b then Discovery else Io) is in
    subst (λ (k : ControllerKind). may_use_named config p.host (subsystem_named k p.subsystem) port ≡ true) (sym for_discovery) refl
named_permitted config p port kind false is kinds used =
    let for_io : kind ≡ Io = kinds ∙ ap (λ (b : Bool). if b then Discovery else Io) is in
    subst (λ (k : ControllerKind). may_use_named config p.host (subsystem_named k p.subsystem) port ≡ true) (sym for_io) (used is)

pub beginnings_are_permitted : BeginningsArePermitted
unfolding connect
beginnings_are_permitted = record {
  permitted = λ config row port entry payload controller it.
      let p = parameters_of entry payload in
      let answered = answer_is (answer_to config row port entry payload) (Controller controller) it in
      let admits = is_admitted config row port entry payload (Controller controller) answered in
      let checked = has_passed config row port p (Controller controller) admits in
      named_permitted config p port controller.kind (is_discovery p.subsystem) refl (begins_kind config row port p controller admits)
      (permission_passed config port p checked.permission);
}

pub identifiers_are_least : IdentifiersAreLeast
unfolding connect
identifiers_are_least = record {
  is_least = λ config row port entry payload cntlid kind it.
      let controller = Controller (record { cntlid = cntlid; kind = kind }) in
      let answered = answer_is (answer_to config row port entry payload) controller it in
      let first = is_first_free row cntlid (begins_free config row port (parameters_of entry payload) _ (is_admitted config row port entry payload controller answered)) in
      record { least = first.least; most = omega arith; free = first.free; below = first.below };
}

pub queues_join_their_maker : QueuesJoinTheirMaker
unfolding connect
queues_join_their_maker = record {
  joins = λ config row port entry payload cntlid qid it.
      let answered = answer_is (answer_to config row port entry payload) (Queue cntlid qid) it in
      let joined = joins_passed config row port (parameters_of entry payload) cntlid qid (is_admitted config row port entry payload (Queue cntlid qid) answered) in
      record { cntlid = joined.cntlid; qid = joined.qid; controller = joined.found };
}
