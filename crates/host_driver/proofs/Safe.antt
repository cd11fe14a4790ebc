-- What a decision about a PDU rests on holds of the command that the PDU names.
use Rattle.std.proofs.Common.{length, arith}
use Rattle.pdu_cut.specs.Pdu.{Pdu, data_part}
use Rattle.pdu_cut.specs.Front.{whole}
use Rattle.std.specs.Prelude.{Option, Some, None}
use Rattle.host_driver.specs.declared.outstanding.Outstanding.{Outstanding}
use Rattle.host_driver.specs.declared.decision.HostDecision.{HostDecision}
use Rattle.host_driver.specs.declared.decision.HostDecision.TheVariants as decision
use Rattle.host_driver.specs.Decision.{cid_named}
use Rattle.host_driver.specs.Within.{Fills, Fits, IsWithin, Names}
use Rattle.host_driver.specs.Pending.{outstanding_at}
use Rattle.host_driver.specs.State.{HostState}
use Rattle.host_driver.specs.Session.{IsSafe}

pub is_safe : (s : HostState) (pdu : Pdu) (d : HostDecision) → IsWithin (outstanding_at s.commands (cid_named pdu)) (length (data_part pdu)) d
    → Names (cid_named pdu) d → IsSafe s (whole pdu) d
is_safe s pdu (decision.Initialize limits) within names = within
is_safe s pdu (decision.Connect cntlid) within names = tt
is_safe s pdu (decision.Refuse status) within names = tt
is_safe s pdu (decision.Receive cid) within names = rw names at within
is_safe s pdu (decision.ReceiveLast cid) within names = fills (outstanding_at s.commands (Some cid)) (rw names at within)
  where
    fills : (command : Option Outstanding) → Fills command (length (data_part pdu)) → Fits command (length (data_part pdu))
    fills None h = h
    fills (Some command) h = omega (arith, h)
is_safe s pdu (decision.Complete response) within names = tt
is_safe s pdu (decision.Send request) within names = rw names at within
is_safe s pdu (decision.Close request) within names = tt
is_safe s pdu (decision.Terminate t) within names = tt
