-- What a decision about a PDU rests on: the tests that it passed.
use Rattle.std.proofs.Common.{◌≡◌, ℕ, ◌≤◌, ◌+◌, ◌%◌, ◌==◌, Bool, true, false, nat_lt, length, refl, arith, ◌^◌}
use Rattle.std.specs.Prelude.{not, ◌||◌, ◌&&◌, Option, Some, None, if◌then◌else◌}
use Rattle.std.proofs.lemmas.Bool.Decides.{nat_tests}
use Rattle.nvt_fields.specs.declared.pdu_type.PduType.{PduType}
use Rattle.nvt_fields.specs.declared.pdu_type.PduType.TheVariants.{IcReq, IcResp, H2cTermReq, C2hTermReq, CapsuleCmd, CapsuleResp, H2cData, C2hData, R2t}
use Rattle.nvt_fields.specs.declared.termination.FatalErrorStatus.TheVariants.{InvalidHeaderField, SequenceError, DataOutOfRange, UnsupportedParameter}
use Rattle.pdu_cut.specs.Pdu.{Pdu, data_part, header_part}
use Rattle.pdu_codec.specs.declared.data_head.DataHead.{DataHead}
use Rattle.pdu_codec.specs.declared.initialize.IcResp as ic_resp
use Rattle.pdu_codec.specs.declared.r2t.R2t as r2t
use Rattle.pdu_codec.specs.DataHead.{data_head_of}
use Rattle.pdu_codec.specs.Initialize.{ic_resp_of}
use Rattle.pdu_codec.specs.R2t.{r2t_of}
use Rattle.host_driver.specs.declared.decision.CommandCompletion.{CommandCompletion}
use Rattle.host_driver.specs.declared.decision.HostDecision.{HostDecision}
use Rattle.host_driver.specs.declared.decision.HostDecision.TheVariants as decision
use Rattle.host_driver.specs.declared.outstanding.Outstanding.{Outstanding}
use Rattle.host_driver.specs.declared.phase.Phase.{Phase}
use Rattle.host_driver.specs.declared.phase.Phase.TheVariants.{Opened, Initialized, Connected, Failed}
use Rattle.host_driver.specs.Decision.{accepted, answered_in, cid_by, cid_named, completed, connected, decide, first_by, initialize, is_early, is_success, next_by, received, requested, response_in, terminate}
use Rattle.host_driver.specs.Within.{IsInTime, IsWithin, Names}

-- ---- the tests, as facts

same_where : (a b : ℕ) → not (a == b) ≡ false → a ≡ b
same_where a b h = grind (arith, nat_tests, h)

placed_where : (a b c d : ℕ) → (not (a == b) || nat_lt c d) ≡ false → d ≤ c
placed_where a b c d h = grind (arith, nat_tests, h)

not_less : (a b : ℕ) → nat_lt a b ≡ false → b ≤ a
not_less a b h = grind (arith, nat_tests, h)

same_first : (a b c d : ℕ) → (not (a == b) || nat_lt c d) ≡ false → a ≡ b
same_first a b c d h = grind (arith, nat_tests, h)

bounded_where : (a : ℕ) → (nat_lt a 4096 || not (a % 4 == 0)) ≡ false → (4096 ≤ a) × (a % 4 ≡ 0)
bounded_where a h = (grind (arith, nat_tests, h), grind (arith, nat_tests, h))

all_where : (s early : Bool) → (s && early) ≡ false → s ≡ true → early ≡ false
all_where true true h e = h
all_where true false h e = refl
all_where false early h e = cc

-- ---- each PDU

-- a decision on a PDU that names this command, as far as it is known, and carries so many bytes
abbrev pub Rests : Option ℕ → Option Outstanding → ℕ → HostDecision → Type 0
Rests named command n d = IsWithin command n d × Names named d × IsInTime command d

initialize-rests : (named : Option ℕ) (command : Option Outstanding) (n : ℕ) (r : ic_resp.IcResp) → Rests named command n (initialize r)
initialize-rests named command n r = by (not (r.pfv == 0)) (nat_lt 31 r.cpda) (not (r.dgst == 0)) (nat_lt r.maxh2cdata 4096 || not (r.maxh2cdata % 4 == 0)) refl refl
  where
    by : (a b c d : Bool) → nat_lt 31 r.cpda ≡ b → (nat_lt r.maxh2cdata 4096 || not (r.maxh2cdata % 4 == 0)) ≡ d
        → Rests named command n (if a then terminate UnsupportedParameter 8 else if b then terminate InvalidHeaderField 10 else if c then terminate UnsupportedParameter 11
        else if d then terminate InvalidHeaderField 12 else decision.Initialize (record { cpda = r.cpda; maxh2cdata = r.maxh2cdata }))
    by true b c d e f = (tt, tt, tt)
    by false true c d e f = (tt, tt, tt)
    by false false true d e f = (tt, tt, tt)
    by false false false true e f = (tt, tt, tt)
    by false false false false e f = let bounds = bounded_where r.maxh2cdata f in ((not_less 31 r.cpda e, bounds.0, bounds.1), tt, tt)

accepted-rests : (command : Outstanding) (head : DataHead) (end n : ℕ) → end ≡ command.came + n → end ≤ command.into
    → Rests (Some head.cccid) (Some command) n (accepted command head end)
accepted-rests command head end n is room = by (not head.success) (not head.last_pdu) (nat_lt end command.into) refl
  where
    by : (a b c : Bool) → nat_lt end command.into ≡ c → Rests (Some head.cccid) (Some command) n
        (if a then decision.Receive head.cccid else if b then terminate InvalidHeaderField 1 else if c then terminate SequenceError 0 else decision.ReceiveLast head.cccid)
    by true b c e = (omega (arith, is, room), refl, tt)
    by false true c e = (tt, tt, tt)
    by false false true e = (tt, tt, tt)
    by false false false e = (omega (arith, is, room, not_less end command.into e), refl, tt)

received-rests : (command : Option Outstanding) (head : DataHead) (n : ℕ) → Rests (Some head.cccid) command n (received command head n)
received-rests None head n = (tt, tt, tt)
received-rests (Some command) head n =
    by (command.into == 0) (not (head.datal == n)) (not (head.datao == command.came) || nat_lt command.into (command.came + head.datal)) refl refl
  where
    by : (a b c : Bool) → not (head.datal == n) ≡ b → (not (head.datao == command.came) || nat_lt command.into (command.came + head.datal)) ≡ c
        → Rests (Some head.cccid) (Some command) n (if a then terminate InvalidHeaderField 8 else if b then terminate InvalidHeaderField 16
        else if c then terminate DataOutOfRange 0 else accepted command head (command.came + head.datal))
    by true b c d e = (tt, tt, tt)
    by false true c d e = (tt, tt, tt)
    by false false true d e = (tt, tt, tt)
    by false false false d e =
        accepted-rests command head (command.came + head.datal) n (omega (arith, same_where head.datal n d)) (placed_where head.datao command.came command.into (command.came + head.datal) e)

requested-rests : (command : Option Outstanding) (request : r2t.R2t) (n : ℕ) → Rests (Some request.cccid) command n (requested command request)
requested-rests None request n = (tt, tt, tt)
requested-rests (Some command) request n = by (command.out == 0) (not (request.r2to == command.asked) || nat_lt command.out (command.asked + request.r2tl)) refl
  where
    by : (a b : Bool) → (not (request.r2to == command.asked) || nat_lt command.out (command.asked + request.r2tl)) ≡ b
        → Rests (Some request.cccid) (Some command) n (if a then terminate InvalidHeaderField 8 else if b then terminate DataOutOfRange 0 else decision.Send request)
    by true b e = (tt, tt, tt)
    by false true e = (tt, tt, tt)
    by false false e =
        let at = same_first request.r2to command.asked command.out (command.asked + request.r2tl) e in
        ((at, placed_where request.r2to command.asked command.out (command.asked + request.r2tl) e), refl, tt)

connected-rests : (named : Option ℕ) (command : Option Outstanding) (n : ℕ) (response : CommandCompletion) → Rests named command n (connected response)
connected-rests named command n response = by (is_success response.status)
  where
    by : (a : Bool) → Rests named command n (if a then decision.Connect (response.result % 2 ^ 16) else decision.Refuse response.status)
    by true = (tt, tt, tt)
    by false = (tt, tt, tt)

answered-rests : (phase : Phase) (command : Outstanding) (n : ℕ) (response : CommandCompletion) → is_early command response.status ≡ false
    → Rests (Some response.cid) (Some command) n (answered_in phase response)
answered-rests Opened command n response late = connected-rests (Some response.cid) (Some command) n response
answered-rests (Initialized limits) command n response late = connected-rests (Some response.cid) (Some command) n response
answered-rests (Connected limits) command n response late =
    (tt, refl, λ success. not_less command.came command.into (all_where (is_success response.status) (nat_lt command.came command.into) late success))
answered-rests Failed command n response late = connected-rests (Some response.cid) (Some command) n response

completed-rests : (phase : Phase) (command : Option Outstanding) (n : ℕ) (response : CommandCompletion) → Rests (Some response.cid) command n (completed phase command response)
completed-rests phase None n response = (tt, tt, tt)
completed-rests phase (Some command) n response = by (is_early command response.status) refl
  where
    by : (a : Bool) → is_early command response.status ≡ a → Rests (Some response.cid) (Some command) n (if a then terminate SequenceError 0 else answered_in phase response)
    by true e = (tt, tt, tt)
    by false e = answered-rests phase command n response e

next-rests : (kind : PduType) (phase : Phase) (command : Option Outstanding) (pdu : Pdu)
    → Rests (cid_by kind pdu) command (length (data_part pdu)) (next_by kind phase command pdu)
next-rests IcReq phase command pdu = (tt, tt, tt)
next-rests IcResp phase command pdu = (tt, tt, tt)
next-rests H2cTermReq phase command pdu = (tt, tt, tt)
next-rests C2hTermReq phase command pdu = (tt, tt, tt)
next-rests CapsuleCmd phase command pdu = (tt, tt, tt)
next-rests CapsuleResp phase command pdu = completed-rests phase command (length (data_part pdu)) (response_in pdu)
next-rests H2cData phase command pdu = (tt, tt, tt)
next-rests C2hData phase command pdu = received-rests command (data_head_of (header_part pdu)) (length (data_part pdu))
next-rests R2t phase command pdu = requested-rests command (r2t_of (header_part pdu)) (length (data_part pdu))

first-rests : (kind : PduType) (command : Option Outstanding) (pdu : Pdu) → Rests (cid_by kind pdu) command (length (data_part pdu)) (first_by kind pdu)
first-rests IcReq command pdu = (tt, tt, tt)
first-rests IcResp command pdu = initialize-rests None command (length (data_part pdu)) (ic_resp_of (header_part pdu))
first-rests H2cTermReq command pdu = (tt, tt, tt)
first-rests C2hTermReq command pdu = (tt, tt, tt)
first-rests CapsuleCmd command pdu = (tt, tt, tt)
first-rests CapsuleResp command pdu = (tt, tt, tt)
first-rests H2cData command pdu = (tt, tt, tt)
first-rests C2hData command pdu = (tt, tt, tt)
first-rests R2t command pdu = (tt, tt, tt)

pub decide_rests : (phase : Phase) (command : Option Outstanding) (pdu : Pdu) → Rests (cid_named pdu) command (length (data_part pdu)) (decide phase command pdu)
decide_rests Opened command pdu = first-rests pdu.kind command pdu
decide_rests (Initialized limits) command pdu = next-rests pdu.kind (Initialized limits) command pdu
decide_rests (Connected limits) command pdu = next-rests pdu.kind (Connected limits) command pdu
decide_rests Failed command pdu = next-rests pdu.kind Failed command pdu

-- ---- for the decision that a function answers

pub within : (phase : Phase) (command : Option Outstanding) (pdu : Pdu) (d : HostDecision) → d ≡ decide phase command pdu → IsWithin command (length (data_part pdu)) d
within phase command pdu d is = rw is (decide_rests phase command pdu).0

pub names : (phase : Phase) (command : Option Outstanding) (pdu : Pdu) (d : HostDecision) → d ≡ decide phase command pdu → Names (cid_named pdu) d
names phase command pdu d is = rw is (decide_rests phase command pdu).1

pub in_time : (phase : Phase) (command : Option Outstanding) (pdu : Pdu) (d : HostDecision) → d ≡ decide phase command pdu → IsInTime command d
in_time phase command pdu d is = rw is (decide_rests phase command pdu).2
