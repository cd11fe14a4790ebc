-- Where a queue stands, and where an event leads it.
use Rattle.std.specs.Prelude.{ℕ, List, [], ◌∷◌}
use Rattle.tables.specs.NumberTable.{with_value, without}
use Rattle.pdu_cut.specs.Front.{Front, incomplete, whole, faulty}
use Rattle.pdu_cut.specs.Pdu.{Pdu}
use Rattle.host_driver.specs.declared.decision.HostDecision.{HostDecision}
use Rattle.host_driver.specs.declared.decision.HostDecision.TheVariants as decision
use Rattle.host_driver.specs.declared.phase.Phase.{Phase}
use Rattle.host_driver.specs.declared.phase.Phase.TheVariants.{Opened, Initialized, Connected, Failed}
use Rattle.host_driver.specs.Decision.{cid_named, decide, terminate}
use Rattle.host_driver.specs.declared.params.HostParams.{HostParams}
use Rattle.host_driver.specs.Event.{Event, History, data_at, submitted, taken}
use Rattle.host_driver.specs.Pending.{Commands, begun, changed, first_commands, outstanding_at, with_data, with_request}

-- how far the queue has come, and its commands
pub record HostState : Type 0 where
  pub phase : Phase
  pub commands : Commands

abbrev pub in_phase : Phase → HostState → HostState
in_phase phase s = record { phase = phase; commands = s.commands }

abbrev pub with_commands : Commands → HostState → HostState
with_commands commands s = record { phase = s.phase; commands = commands }

-- at first only the Connect is outstanding, though the ICResp has to come before it is sent
abbrev pub opened : HostParams → HostState
opened params = record { phase = Opened; commands = first_commands params.sqsize }

-- the phase once the Connect succeeded: the limits stay
abbrev pub connected_from : Phase → Phase
connected_from (Initialized limits) = Connected limits
connected_from phase = phase

-- what is owed to a PDU
abbrev pub owed_pdu : HostState → Pdu → HostDecision
owed_pdu s pdu = decide s.phase (outstanding_at s.commands (cid_named pdu)) pdu

-- .. and to what stands at the front of what came; less than a PDU is not taken
abbrev pub owed : HostState → Front → HostDecision
owed s incomplete = decision.Close (record { fes = 0; fei = 0 })
owed s (whole pdu) = owed_pdu s pdu
owed s (faulty fault head) = terminate fault.fes fault.fei

-- where a decision about a front with these data leads
abbrev pub after_decision : HostState → List ℕ → HostDecision → HostState
after_decision s bytes (decision.Initialize limits) = in_phase (Initialized limits) s
after_decision s bytes (decision.Connect cntlid) = record { phase = connected_from s.phase; commands = without s.commands 0 }
after_decision s bytes (decision.Refuse status) = in_phase Failed s
after_decision s bytes (decision.Receive cid) = with_commands (changed s.commands cid (with_data bytes)) s
after_decision s bytes (decision.ReceiveLast cid) = with_commands (without s.commands cid) s
after_decision s bytes (decision.Complete response) = with_commands (without s.commands response.cid) s
after_decision s bytes (decision.Send request) = with_commands (changed s.commands request.cccid (with_request request.r2tl)) s
after_decision s bytes (decision.Close request) = in_phase Failed s
after_decision s bytes (decision.Terminate termination) = in_phase Failed s

abbrev pub after_event : HostParams → HostState → Event → HostState
after_event params s (submitted cid c) = with_commands (with_value s.commands cid (begun params.in_capsule c)) s
after_event params s (taken front) = after_decision s (data_at front) (owed s front)

-- where a history leads
unfoldable pub state_after : HostParams → History → HostState
state_after params [] = opened params
state_after params (e ∷ h) = after_event params (state_after params h) e
