-- A Connect that asks for an admin queue rightly passes each check.
use Rattle.std.proofs.Common.{◌≡◌, ◌⊎◌, ℕ, ◌≤◌, ◌==◌, true, List, Option, Some, None, is_none, IsSome, Result, Ok, Err, refl, ap, inl, inr, arith}
use Rattle.std.specs.Prelude.{is_ok}
use Rattle.std.proofs.lemmas.Bool.Decides.{nat_tests}
use Rattle.nvt_fields.specs.Name.{IsName}
use Rattle.config_lists.specs.Subsystem.{is_discovery}
use Rattle.nvt_config.specs.Configuration.{Configuration}
use Rattle.nvt_config.specs.Permission.{may_use}
use Rattle.fabrics_connect.specs.declared.decision.AdmitAs.{AdmitAs}
use Rattle.property_regs.specs.declared.kind.ControllerKind.{ControllerKind}
use Rattle.fabrics_connect.specs.declared.decision.Refusal.{Refusal}
use Rattle.fabrics_connect.specs.declared.row.Row.{Row}
use Rattle.fabrics_connect.specs.Command.{Parameters, parameters_of}
use Rattle.fabrics_connect.specs.Connect.{admitted, begun, begun_under, connect, decision_of, format_verdict, is_served, is_well_formed, kind_of, names_verdict, permission_verdict, queue_verdict}
use Rattle.fabrics_connect.specs.Controllers.{free_cntlid}
use Rattle.fabrics_connect.specs.Laws.{AsksForAdmin, HostsAreAdmitted, IsAdmitted}
use Rattle.fabrics_connect.specs.Refusal.{passed}
use Rattle.fabrics_connect.proofs.Free.{has_free}

format_passes : (p : Parameters) → p.recfmt ≡ 0 → format_verdict p ≡ passed
unfolding format_verdict
format_passes p none = grind (arith, nat_tests)

queue_passes : (p : Parameters) → p.qid ≡ 0 → 1 ≤ p.sqsize → p.sqsize ≤ 63 → queue_verdict p ≡ passed
unfolding queue_verdict
queue_passes p admin least most = grind (arith, nat_tests)

name_is_well_formed : (nqn : List ℕ) → IsName nqn → is_well_formed nqn ≡ true
name_is_well_formed nqn name = ap is_none name

names_pass : (config : Configuration) (port : ℕ) (p : Parameters) → is_well_formed p.subsystem ≡ true → is_well_formed p.host ≡ true → is_served config port p.subsystem ≡ true → names_verdict config port p ≡ passed
unfolding names_verdict
names_pass config port p subsystem host served = grind (arith, nat_tests)

serves : (config : Configuration) (port : ℕ) (p : Parameters) → (is_discovery p.subsystem ≡ true) ⊎ (may_use config p.host p.subsystem port ≡ true) → is_served config port p.subsystem ≡ true
serves config port p (inl discovery) = grind (arith, nat_tests)
serves config port p (inr may) = grind (arith, nat_tests)

permission_passes : (config : Configuration) (port : ℕ) (p : Parameters) → p.qid ≡ 0 → (is_discovery p.subsystem ≡ true) ⊎ (may_use config p.host p.subsystem port ≡ true) → permission_verdict config port p ≡ passed
unfolding permission_verdict
permission_passes config port p admin (inl discovery) = grind (arith, nat_tests)
permission_passes config port p admin (inr may) = grind (arith, nat_tests)

begun_where_free : (kind : ControllerKind) (free : Option ℕ) → IsSome free → is_ok (begun_under kind free) ≡ true
begun_where_free kind None some = cc
begun_where_free kind (Some cntlid) some = refl

begins : (row : ℕ → Option Row) (p : Parameters) → p.cntlid ≡ 0xFFFF → IsSome (free_cntlid row) → is_ok (begun row p) ≡ true
unfolding begun
begins row p any some =
    let same : (p.cntlid == 0xFFFF) ≡ true = grind (arith, nat_tests) in
    rw same (begun_where_free (kind_of p.subsystem) (free_cntlid row) some)

admits : (config : Configuration) (row : ℕ → Option Row) (port : ℕ) (p : Parameters) → AsksForAdmin config port p → IsSome (free_cntlid row) → is_ok (admitted config row port p) ≡ true
unfolding admitted
admits config row port p asks some =
    let admin : (p.qid == 0) ≡ true = let zero = asks.qid in grind (arith, nat_tests) in
    let names = names_pass config port p (name_is_well_formed p.subsystem asks.subsystem) (name_is_well_formed p.host asks.host) (serves config port p asks.permission) in
    rw (format_passes p asks.recfmt, queue_passes p asks.qid asks.least asks.most, names, permission_passes config port p asks.qid asks.permission, admin)
    (begins row p asks.cntlid some)

is_admitted : (answer : Result AdmitAs Refusal) → is_ok answer ≡ true → IsAdmitted (decision_of answer)
is_admitted (Ok admit) ok = tt
is_admitted (Err refusal) ok = cc

pub hosts_are_admitted : HostsAreAdmitted
unfolding connect
hosts_are_admitted = record {
  admitted = λ config row port entry payload cntlid whole asks least most free.
      rw whole (is_admitted (admitted config row port (parameters_of entry payload)) (admits config row port (parameters_of entry payload) asks (has_free row cntlid least most free)));
}
