-- No more data come of a command than it wants.
use Rattle.std.proofs.Common.{◌≡◌, ℕ, ◌≤◌, ◌++◌, List, [], ◌∷◌, length, replicate, sym, arith, length-append}
use Rattle.std.specs.Prelude.{Option, Some, None}
use Rattle.std.specs.Option.{option_map}
use Rattle.tables.specs.NumberTable.{place}
use Rattle.pdu_cut.specs.Front.{incomplete, whole, faulty}
use Rattle.pdu_cut.specs.Pdu.{Pdu, data_part}
use Rattle.host_driver.specs.declared.decision.HostDecision.{HostDecision}
use Rattle.host_driver.specs.declared.decision.HostDecision.TheVariants as decision
use Rattle.host_driver.specs.Decision.{cid_named}
use Rattle.host_driver.specs.Within.{Fits, IsWithin, Names}
use Rattle.host_driver.proofs.Deciding.{decide_rests}
use Rattle.host_driver.specs.declared.params.HostParams.{HostParams}
use Rattle.host_driver.specs.Event.{History, submitted, taken}
use Rattle.host_driver.specs.Pending.{Commands, Pending, begun, connect_begun, outstanding_at, outstanding_of, with_data, with_request}
use Rattle.host_driver.specs.State.{HostState, after_decision, owed_pdu, state_after}
use Rattle.host_driver.proofs.Placing.{Each, each_changed, each_replicated, each_with, each_without}

abbrev pub IsFit : ℕ → Pending → Type 0
IsFit cid p = length p.came ≤ p.into

-- of each command that is outstanding
abbrev pub Fit : Commands → Type 0
Fit commands = Each IsFit commands

more : (command : Option Pending) (p : Pending) (bytes : List ℕ) → command ≡ Some p → Fits (option_map outstanding_of command) (length bytes)
    → length (p.came ++ bytes) ≤ p.into
more None p bytes is fits = absurd fits
more (Some q) p bytes is fits =
    let same : q ≡ p = some_is q p is in
    rw (sym same) (omega (arith, fits, length-append q.came bytes))
  where
    some_is : (a b : Pending) → Some a ≡ Some b → a ≡ b
    some_is a b h = cc

fit_by : (s : HostState) (pdu : Pdu) (d : HostDecision)
    → IsWithin (outstanding_at s.commands (cid_named pdu)) (length (data_part pdu)) d → Names (cid_named pdu) d → Fit s.commands
    → Fit (after_decision s (data_part pdu) d).commands
fit_by s pdu (decision.Initialize limits) within names fit = fit
fit_by s pdu (decision.Connect cntlid) within names fit = each_without IsFit s.commands 0 fit
fit_by s pdu (decision.Refuse status) within names fit = fit
fit_by s pdu (decision.Receive cid) within names fit =
    let fits : Fits (option_map outstanding_of (place s.commands cid)) (length (data_part pdu)) = rw names at within in
    each_changed IsFit s.commands cid (with_data (data_part pdu)) (place s.commands cid)
    (λ p is. more (place s.commands cid) p (data_part pdu) is fits) fit
fit_by s pdu (decision.ReceiveLast cid) within names fit = each_without IsFit s.commands cid fit
fit_by s pdu (decision.Complete response) within names fit = each_without IsFit s.commands response.cid fit
fit_by s pdu (decision.Send request) within names fit =
    each_changed IsFit s.commands request.cccid (with_request request.r2tl) (place s.commands request.cccid) (λ p is. fit request.cccid p is) fit
fit_by s pdu (decision.Close request) within names fit = fit
fit_by s pdu (decision.Terminate t) within names fit = fit

pub fits : (params : HostParams) (h : History) → Fit (state_after params h).commands
unfolding state_after
fits params [] =
    each_with IsFit (replicate params.sqsize None) 0 connect_begun (omega arith) (each_replicated IsFit params.sqsize)
fits params (submitted cid c ∷ h) =
    each_with IsFit (state_after params h).commands cid (begun params.in_capsule c) (omega arith) (fits params h)
fits params (taken incomplete ∷ h) = fits params h
fits params (taken (whole pdu) ∷ h) =
    let s = state_after params h in
    let rests = decide_rests s.phase (outstanding_at s.commands (cid_named pdu)) pdu in
    fit_by s pdu (owed_pdu s pdu) rests.0 rests.1 (fits params h)
fits params (taken (faulty fault head) ∷ h) = fits params h
