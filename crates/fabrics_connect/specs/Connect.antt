-- What a target answers to a Connect (Base 2.0, section 6.3): the checks in their order, and what they
-- admit.
use Rattle.std.specs.Prelude.{◌≡◌, ℕ, ◌≤◌, Bool, false, not, ◌==◌, ◌||◌, ◌&&◌, nat_lt, List, Option, Some, None, is_none, IsSomeAnd, Result, Ok, Err, if◌then◌else◌}
use Rattle.std.specs.Str.{bytes_eq}
use Rattle.nvt_fields.specs.Name.{fault_of}
use Rattle.nvt_fields.specs.Status.{command_sequence_error, connect_controller_busy, connect_invalid_host, incompatible_format}
use Rattle.tables.specs.NumberTable.{place}
use Rattle.pdu_codec.specs.ConnectData.{cntlid_at, hostid_at, hostnqn_at, subnqn_at}
use Rattle.pdu_codec.specs.Sqe.{qid_at, sgl1_of, sqsize_at}
use Rattle.config_lists.specs.Subsystem.{is_discovery}
use Rattle.nvt_config.specs.Configuration.{Configuration, has_link}
use Rattle.nvt_config.specs.Permission.{may_use}
use Rattle.fabrics_connect.specs.declared.decision.AdmitAs.{AdmitAs}
use Rattle.fabrics_connect.specs.declared.decision.AdmitAs.TheVariants.{Controller, Queue}
use Rattle.fabrics_connect.specs.declared.decision.Decision.{Decision}
use Rattle.fabrics_connect.specs.declared.decision.Decision.TheVariants.{Admit, Deny}
use Rattle.property_regs.specs.declared.kind.ControllerKind.{ControllerKind}
use Rattle.property_regs.specs.declared.kind.ControllerKind.TheVariants.{Discovery, Io}
use Rattle.fabrics_connect.specs.declared.decision.NewController.{NewController}
use Rattle.fabrics_connect.specs.declared.decision.Refusal.{Refusal}
use Rattle.fabrics_connect.specs.declared.row.Row.{Row}
use Rattle.fabrics_connect.specs.Command.{Parameters, data_verdict, parameters_of}
use Rattle.fabrics_connect.specs.Controllers.{free_cntlid}
use Rattle.fabrics_connect.specs.Refusal.{Verdict, after, in_data, invalid_parameter, passed, refusal_of, refuse}
use Rattle.fabrics_connect.specs.Row.{has_queue}

-- the record format
unfoldable pub format_verdict : Parameters → Verdict
format_verdict p = refuse (not (p.recfmt == 0)) (refusal_of incompatible_format) passed

-- the queue: an identifier up to 8, and 2 to 64 entries, 0's based
unfoldable pub queue_verdict : Parameters → Verdict
queue_verdict p =
    refuse (nat_lt 8 p.qid) (invalid_parameter qid_at) (
    refuse (nat_lt p.sqsize 1 || nat_lt 63 p.sqsize) (invalid_parameter sqsize_at) (
    passed))

-- whether a name is well formed
abbrev pub is_well_formed : List ℕ → Bool
is_well_formed nqn = is_none (fault_of nqn)

-- whether the port serves the subsystem of that name: the discovery subsystem, or one linked to it
abbrev pub is_served : Configuration → ℕ → List ℕ → Bool
is_served config port nqn = is_discovery nqn || has_link config.links port nqn

-- the names
unfoldable pub names_verdict : Configuration → ℕ → Parameters → Verdict
names_verdict config port p =
    refuse (not (is_well_formed p.subsystem && is_served config port p.subsystem)) (invalid_parameter (in_data subnqn_at)) (
    refuse (not (is_well_formed p.host)) (invalid_parameter (in_data hostnqn_at)) (
    passed))

-- who may use what: each host the discovery subsystem, which has no I/O queues, and another subsystem those
-- that the configuration says
unfoldable pub permission_verdict : Configuration → ℕ → Parameters → Verdict
permission_verdict config port p =
    if is_discovery p.subsystem
    then refuse (not (p.qid == 0)) (invalid_parameter qid_at) passed
    else refuse (not (may_use config p.host p.subsystem port)) (refusal_of connect_invalid_host) passed

-- what a controller of that subsystem is for
abbrev pub kind_of : List ℕ → ControllerKind
kind_of nqn = if is_discovery nqn then Discovery else Io

abbrev pub begun_under : ControllerKind → Option ℕ → Result AdmitAs Refusal
begun_under kind None = Err (refusal_of connect_controller_busy)
begun_under kind (Some cntlid) = Ok (Controller (record { cntlid = cntlid; kind = kind }))

-- an admin queue begins a controller, of the least identifier that is free
unfoldable pub begun : (ℕ → Option Row) → Parameters → Result AdmitAs Refusal
begun row p =
    after (refuse (not (p.cntlid == 0xFFFF)) (invalid_parameter (in_data cntlid_at)) passed) (
    begun_under (kind_of p.subsystem) (free_cntlid row))

abbrev pub is_named : List ℕ → Option (List ℕ) → Bool
is_named nqn None = false
is_named nqn (Some name) = bytes_eq name nqn

-- whether a controller is one of that subsystem and that port
abbrev pub is_controller_of : List ℕ → ℕ → Row → Bool
is_controller_of nqn port row = is_named nqn row.subsystem && (row.port == port)

-- an I/O queue joins the controller that it names, of this subsystem and this port and made by this host,
-- which is ready and has no such queue
abbrev pub join_verdict : ℕ → Parameters → Option Row → Verdict
join_verdict port p None = Err (invalid_parameter (in_data cntlid_at))
join_verdict port p (Some row) =
    refuse (not (is_controller_of p.subsystem port row)) (invalid_parameter (in_data cntlid_at)) (
    refuse (not (bytes_eq row.host p.host)) (invalid_parameter (in_data hostnqn_at)) (
    refuse (not (bytes_eq row.hostid p.hostid)) (invalid_parameter (in_data hostid_at)) (
    refuse (not row.ready || has_queue p.qid row) (refusal_of command_sequence_error) (
    passed))))

unfoldable pub joined_by : ℕ → Parameters → Option Row → Result AdmitAs Refusal
joined_by port p row = after (join_verdict port p row) (Ok (Queue p.cntlid p.qid))

-- the checks in their order, where the data is there
unfoldable pub admitted : Configuration → (ℕ → Option Row) → ℕ → Parameters → Result AdmitAs Refusal
admitted config row port p =
    after (format_verdict p) (
    after (queue_verdict p) (
    after (names_verdict config port p) (
    after (permission_verdict config port p) (
    if p.qid == 0 then begun row p else joined_by port p (row p.cntlid)))))

-- what a Connect is admitted as, or the first reason against it: by its entry and the data in its capsule
abbrev pub answer_to : Configuration → (ℕ → Option Row) → ℕ → List ℕ → List ℕ → Result AdmitAs Refusal
answer_to config row port entry payload =
    after (data_verdict (sgl1_of entry) payload) (admitted config row port (parameters_of entry payload))

abbrev pub decision_of : Result AdmitAs Refusal → Decision
decision_of (Ok admit) = Admit admit
decision_of (Err refusal) = Deny refusal.status refusal.result

-- The answer to a Connect: by the configuration and the row under each identifier, to one that came through
-- this port, with this entry and this data in its capsule.
unfoldable pub connect : Configuration → (ℕ → Option Row) → ℕ → List ℕ → List ℕ → Decision
connect config row port entry payload = decision_of (answer_to config row port entry payload)

-- ---- what callers go by

-- a fact of the controller that begins, if one does
abbrev pub IfController : Decision → (NewController → Type 0) → Type 0
IfController (Admit (Controller controller)) P = P controller
IfController (Admit (Queue cntlid qid)) P = Unit {0}
IfController (Deny status result) P = Unit {0}

-- .. and of the queue that joins one, by the identifiers of both
abbrev pub IfQueue : Decision → (ℕ → ℕ → Type 0) → Type 0
IfQueue (Admit (Controller controller)) P = Unit {0}
IfQueue (Admit (Queue cntlid qid)) P = P cntlid qid
IfQueue (Deny status result) P = Unit {0}

-- a controller may get this queue: it is there, and has none of this identifier
pub record CanJoin (rows : List (Option Row)) (cntlid qid : ℕ) : Type 0 where
  pub least : 1 ≤ qid
  pub most : qid ≤ 8
  pub vacant : IsSomeAnd (place rows cntlid) (λ row. has_queue qid row ≡ false)
