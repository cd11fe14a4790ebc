-- Laws of the answer to a Connect, and of the controllers that live.
use Rattle.std.specs.Prelude.{◌≡◌, ◌⊎◌, ◌↔◌, ℕ, ◌≤◌, ◌<◌, false, true, List, All, AllPairs, Contains, Option, Some, None, IsSome, IsSomeAnd}
use Rattle.nvt_fields.specs.Name.{IsName}
use Rattle.tables.specs.NumberTable.{place}
use Rattle.pdu_codec.specs.Sqe.{sgl1_of}
use Rattle.config_lists.specs.Subsystem.{is_discovery}
use Rattle.nvt_config.specs.Configuration.{Configuration}
use Rattle.nvt_config.specs.Permission.{may_use}
use Rattle.fabrics_connect.specs.declared.decision.AdmitAs.TheVariants.{Controller, Queue}
use Rattle.fabrics_connect.specs.declared.decision.Decision.{Decision}
use Rattle.fabrics_connect.specs.declared.decision.Decision.TheVariants.{Admit, Deny}
use Rattle.fabrics_connect.specs.declared.decision.NewController.{NewController}
use Rattle.property_regs.specs.declared.kind.ControllerKind.{ControllerKind}
use Rattle.fabrics_connect.specs.declared.row.Row.{Row}
use Rattle.fabrics_connect.specs.Command.{Parameters, data_verdict, parameters_of}
use Rattle.fabrics_connect.specs.Connect.{connect}
use Rattle.fabrics_connect.specs.Controllers.{AreControllers, live_rows}
use Rattle.fabrics_connect.specs.Permitted.{is_permitted}
use Rattle.fabrics_connect.specs.Refusal.{passed}
use Rattle.fabrics_connect.specs.Row.{has_queue, row_begun}

abbrev pub IsDenied : Decision → Type 0
IsDenied (Admit admit) = ⊥
IsDenied (Deny status result) = Unit {0}

-- a host that may not use a subsystem on a port is refused there
pub record HostsNeedPermission : Type 0 where
  pub denied : (config : Configuration) (row : ℕ → Option Row) (port : ℕ) (entry payload : List ℕ)
      → is_discovery (parameters_of entry payload).subsystem ≡ false
      → may_use config (parameters_of entry payload).host (parameters_of entry payload).subsystem port ≡ false
      → IsDenied (connect config row port entry payload)

-- the host of a controller that begins may use its subsystem on its port
pub record BeginningsArePermitted : Type 0 where
  pub permitted : (config : Configuration) (row : ℕ → Option Row) (port : ℕ) (entry payload : List ℕ) (controller : NewController)
      → connect config row port entry payload ≡ Admit (Controller controller)
      → is_permitted config (row_begun controller port entry payload) ≡ true

-- the least identifier from 1 on that no controller has
pub record IsLeastFree (row : ℕ → Option Row) (cntlid : ℕ) : Type 0 where
  pub least : 1 ≤ cntlid
  pub most : cntlid ≤ 32
  pub free : row cntlid ≡ None
  pub below : (other : ℕ) → 1 ≤ other → other < cntlid → IsSome (row other)

pub record IdentifiersAreLeast : Type 0 where
  pub is_least : (config : Configuration) (row : ℕ → Option Row) (port : ℕ) (entry payload : List ℕ)
      (cntlid : ℕ) (kind : ControllerKind)
      → connect config row port entry payload ≡ Admit (Controller (record { cntlid = cntlid; kind = kind }))
      → IsLeastFree row cntlid

-- a controller is of the subsystem that a Connect names, made by its host through that port; it is ready, and has
-- no queue of the identifier that the Connect names
pub record MayBeJoined (through : ℕ) (p : Parameters) (row : Row) : Type 0 where
  pub subsystem : row.subsystem ≡ Some p.subsystem
  pub port : row.port ≡ through
  pub host : row.host ≡ p.host
  pub hostid : row.hostid ≡ p.hostid
  pub ready : row.ready ≡ true
  pub vacant : has_queue p.qid row ≡ false

-- a queue joins the controller that the Connect names, under the identifier that it names
pub record Joins (row : ℕ → Option Row) (port : ℕ) (p : Parameters) (c q : ℕ) : Type 0 where
  pub cntlid : p.cntlid ≡ c
  pub qid : p.qid ≡ q
  pub controller : IsSomeAnd (row c) (MayBeJoined port p)

pub record QueuesJoinTheirMaker : Type 0 where
  pub joins : (config : Configuration) (row : ℕ → Option Row) (port : ℕ) (entry payload : List ℕ) (cntlid qid : ℕ)
      → connect config row port entry payload ≡ Admit (Queue cntlid qid)
      → Joins row port (parameters_of entry payload) cntlid qid

-- a Connect asks for an admin queue, rightly: its host may use the subsystem on the port, as each may use the
-- discovery subsystem
pub record AsksForAdmin (config : Configuration) (through : ℕ) (p : Parameters) : Type 0 where
  pub recfmt : p.recfmt ≡ 0
  pub qid : p.qid ≡ 0
  pub least : 1 ≤ p.sqsize
  pub most : p.sqsize ≤ 63
  pub cntlid : p.cntlid ≡ 0xFFFF
  pub subsystem : IsName p.subsystem
  pub host : IsName p.host
  pub permission : (is_discovery p.subsystem ≡ true) ⊎ (may_use config p.host p.subsystem through ≡ true)

abbrev pub IsAdmitted : Decision → Type 0
IsAdmitted (Admit admit) = Unit {0}
IsAdmitted (Deny status result) = ⊥

-- it is admitted as long as an identifier is free
pub record HostsAreAdmitted : Type 0 where
  pub admitted : (config : Configuration) (row : ℕ → Option Row) (port : ℕ) (entry payload : List ℕ) (cntlid : ℕ)
      → data_verdict (sgl1_of entry) payload ≡ passed
      → AsksForAdmin config port (parameters_of entry payload)
      → 1 ≤ cntlid → cntlid ≤ 32 → row cntlid ≡ None
      → IsAdmitted (connect config row port entry payload)

-- these rows are those that stand in the table, each under its identifier, and each before the ones of greater
-- identifiers, so none twice
pub record IsWalk (rows : List (Option Row)) (walked : List Row) : Type 0 where
  pub rising : AllPairs (λ r s. r.cntlid < s.cntlid) walked
  pub live : (row : Row) → Contains walked row ↔ (place rows row.cntlid ≡ Some row)
  pub identifiers : All (λ row. (1 ≤ row.cntlid) × (row.cntlid ≤ 32)) walked

pub record LiveAreWalked : Type 0 where
  pub walks : (rows : List (Option Row)) → AreControllers rows → IsWalk rows (live_rows rows)
