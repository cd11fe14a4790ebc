-- A controller that keeps the rules is understood.
use Rattle.std.proofs.Common.{◌≡◌, ℕ, ◌≤◌, ◌+◌, ◌%◌, ◌++◌, ◌==◌, nat_lt, Bool, true, false, List, length, refl, ap, ◌∙◌, arith}
use Rattle.std.specs.Prelude.{not, ◌||◌, ◌&&◌, Some}
use Rattle.std.proofs.lemmas.Bool.Decides.{nat_tests}
use Rattle.nvt_fields.specs.declared.pdu_type.PduType.{PduType}
use Rattle.nvt_fields.specs.declared.pdu_type.PduType.TheVariants as types
use Rattle.tables.specs.NumberTable.{place}
use Rattle.pdu_cut.specs.Pdu.{Pdu, data_part, header_part}
use Rattle.pdu_codec.specs.declared.data_head.DataHead.{DataHead}
use Rattle.pdu_codec.specs.declared.initialize.IcResp.{IcResp}
use Rattle.pdu_codec.specs.declared.r2t.R2t.{R2t}
use Rattle.pdu_codec.specs.DataHead.{data_head_of}
use Rattle.pdu_codec.specs.Initialize.{ic_resp_of}
use Rattle.pdu_codec.specs.R2t.{r2t_of}
use Rattle.host_driver.specs.declared.decision.CommandCompletion.{CommandCompletion}
use Rattle.host_driver.specs.declared.decision.HostDecision.{HostDecision}
use Rattle.host_driver.specs.declared.decision.HostDecision.TheVariants as decision
use Rattle.host_driver.specs.declared.phase.Phase.TheVariants.{Opened, Initialized, Connected}
use Rattle.host_driver.specs.declared.phase.TransportLimits.{TransportLimits}
use Rattle.host_driver.specs.Decision.{accepted, cid_by, cid_named, connected, decide, first_by, initialize, is_early, is_success, next_by, received, requested, response_in}
use Rattle.host_driver.specs.Behaved.{AsksNext, BringsNext, Completes, IsAgreeable, Understands, connect_told, data_told, reply_told}
use Rattle.host_driver.specs.Keeping.{AsksNow, BringsNow, ConnectsNow, InitializesNow, RepliesNow}
use Rattle.host_driver.specs.Pending.{Pending, outstanding_at, outstanding_of}
use Rattle.host_driver.specs.State.{HostState, owed_pdu}
use Rattle.host_driver.specs.Told.{told_by}

-- ---- the tests

no_zero : (a : ℕ) → 1 ≤ a → (a == 0) ≡ false
no_zero a h = grind (arith, nat_tests, h)

equal_where : (a b : ℕ) → a ≡ b → not (a == b) ≡ false
equal_where a b h = grind (arith, nat_tests, h)

placed_where : (a b c d : ℕ) → a ≡ b → d ≤ c → (not (a == b) || nat_lt c d) ≡ false
placed_where a b c d same within = grind (arith, nat_tests, same, within)

bounded_where : (a : ℕ) → 4096 ≤ a → a % 4 ≡ 0 → (nat_lt a 4096 || not (a % 4 == 0)) ≡ false
bounded_where a long multiple = grind (arith, nat_tests, long, multiple)

no_less : (a b : ℕ) → b ≤ a → nat_lt a b ≡ false
no_less a b h = grind (arith, nat_tests, h)

no_more : (a b : ℕ) → a ≤ b → nat_lt b a ≡ false
no_more a b h = grind (arith, nat_tests, h)

in_time : (s : Bool) (a b : ℕ) → (s ≡ true → b ≤ a) → (s && nat_lt a b) ≡ false
in_time true a b h = no_less a b (h refl)
in_time false a b h = refl

-- ---- what is decided

pub agreed : (r : IcResp) → IsAgreeable r → initialize r ≡ decision.Initialize (record { cpda = r.cpda; maxh2cdata = r.maxh2cdata })
agreed r h =
    rw (equal_where r.pfv 0 h.version, no_more r.cpda 31 h.alignment, equal_where r.dgst 0 h.digests, bounded_where r.maxh2cdata h.longest h.multiple) refl

pub asked : (p : Pending) (request : R2t) → AsksNext p request → requested (Some (outstanding_of p)) request ≡ decision.Send request
asked p request h =
    let end : p.asked + request.r2tl ≤ length p.out = h.within in
    rw (no_zero (length p.out) h.some, placed_where request.r2to p.asked (length p.out) (p.asked + request.r2tl) h.next end) refl

pub brought : (p : Pending) (head : DataHead) (bytes : List ℕ) → BringsNext p head bytes
    → received (Some (outstanding_of p)) head (length bytes) ≡ accepted (outstanding_of p) head (length p.came + head.datal)
brought p head bytes h =
    let end : length p.came + head.datal ≤ p.into = omega (arith, h.len, h.within) in
    rw (no_zero p.into h.wanted, equal_where head.datal (length bytes) h.len, placed_where head.datao (length p.came) p.into (length p.came + head.datal) h.next end) refl

pub completed_now : (p : Pending) (response : CommandCompletion) → Completes p response → is_early (outstanding_of p) response.status ≡ false
completed_now p response h = in_time (is_success response.status) (length p.came) p.into h

-- ---- what is told

data_by : (s : HostState) (p : Pending) (head : DataHead) (bytes : List ℕ) (success : Bool) → head.success ≡ success → BringsNext p head bytes
    → place s.commands head.cccid ≡ Some p → told_by s bytes (accepted (outstanding_of p) head (length p.came + head.datal)) ≡ data_told head (p.came ++ bytes)
data_by s p head bytes false is h placed = rw is refl
data_by s p head bytes true is h placed =
    let all : p.into ≤ length p.came + head.datal = omega (arith, h.len, h.all is) in
    rw (is, h.marked is, no_less (length p.came + head.datal) p.into all, placed) refl

connect_by : (s : HostState) (bytes : List ℕ) (response : CommandCompletion) (a : Bool) → is_success response.status ≡ a
    → told_by s bytes (connected response) ≡ connect_told response
connect_by s bytes response true is = rw is refl
connect_by s bytes response false is = rw is refl

reply_by : (s : HostState) (p : Pending) (bytes : List ℕ) (response : CommandCompletion) → place s.commands response.cid ≡ Some p
    → told_by s bytes (decision.Complete response) ≡ reply_told response p.came
reply_by s p bytes response placed = rw placed refl

-- ---- by the phase and the type of the PDU

pub owed_first : (s : HostState) (pdu : Pdu) (kind : PduType) → s.phase ≡ Opened → pdu.kind ≡ kind → owed_pdu s pdu ≡ first_by kind pdu
owed_first s pdu kind phase is =
    ap (λ f. decide f (outstanding_at s.commands (cid_named pdu)) pdu) phase ∙ ap (λ k. first_by k pdu) is

pub owed_initialized : (s : HostState) (pdu : Pdu) (kind : PduType) (limits : TransportLimits) → s.phase ≡ Initialized limits → pdu.kind ≡ kind
    → owed_pdu s pdu ≡ next_by kind (Initialized limits) (outstanding_at s.commands (cid_by kind pdu)) pdu
owed_initialized s pdu kind limits phase is =
    ap (λ f. decide f (outstanding_at s.commands (cid_named pdu)) pdu) phase
    ∙ ap (λ k. next_by k (Initialized limits) (outstanding_at s.commands (cid_by k pdu)) pdu) is

pub owed_connected : (s : HostState) (pdu : Pdu) (kind : PduType) (limits : TransportLimits) → s.phase ≡ Connected limits → pdu.kind ≡ kind
    → owed_pdu s pdu ≡ next_by kind (Connected limits) (outstanding_at s.commands (cid_by kind pdu)) pdu
owed_connected s pdu kind limits phase is =
    ap (λ f. decide f (outstanding_at s.commands (cid_named pdu)) pdu) phase
    ∙ ap (λ k. next_by k (Connected limits) (outstanding_at s.commands (cid_by k pdu)) pdu) is

-- ---- what is decided about each PDU of such a controller

pub initialize_owed : (s : HostState) (pdu : Pdu) → InitializesNow s pdu
    → owed_pdu s pdu ≡ decision.Initialize (record { cpda = (ic_resp_of (header_part pdu)).cpda; maxh2cdata = (ic_resp_of (header_part pdu)).maxh2cdata })
initialize_owed s pdu h = owed_first s pdu types.IcResp h.phase h.kind ∙ agreed (ic_resp_of (header_part pdu)) h.agreeable

pub connect_owed : (s : HostState) (pdu : Pdu) → ConnectsNow s pdu → owed_pdu s pdu ≡ connected (response_in pdu)
connect_owed s pdu h =
    owed_initialized s pdu types.CapsuleResp h.limits h.phase h.kind ∙ rw (h.placed, completed_now h.pending (response_in pdu) h.in_time) refl

pub reply_owed : (s : HostState) (pdu : Pdu) → RepliesNow s pdu → owed_pdu s pdu ≡ decision.Complete (response_in pdu)
reply_owed s pdu h =
    owed_connected s pdu types.CapsuleResp h.limits h.phase h.kind ∙ rw (h.placed, completed_now h.pending (response_in pdu) h.in_time) refl

-- the data are the last where they stand for the completion
abbrev pub with_success : Bool → ℕ → HostDecision
with_success true cid = decision.ReceiveLast cid
with_success false cid = decision.Receive cid

accepted_by : (p : Pending) (head : DataHead) (bytes : List ℕ) (success : Bool) → head.success ≡ success → BringsNext p head bytes
    → accepted (outstanding_of p) head (length p.came + head.datal) ≡ with_success success head.cccid
accepted_by p head bytes false is h = rw is refl
accepted_by p head bytes true is h =
    let all : p.into ≤ length p.came + head.datal = omega (arith, h.len, h.all is) in
    rw (is, h.marked is, no_less (length p.came + head.datal) p.into all) refl

pub bytes_owed : (s : HostState) (pdu : Pdu) → BringsNow s pdu
    → owed_pdu s pdu ≡ with_success (data_head_of (header_part pdu)).success (data_head_of (header_part pdu)).cccid
bytes_owed s pdu h =
    owed_connected s pdu types.C2hData h.limits h.phase h.kind
    ∙ rw (h.placed, brought h.pending (data_head_of (header_part pdu)) (data_part pdu) h.next)
    (accepted_by h.pending (data_head_of (header_part pdu)) (data_part pdu) _ refl h.next)

pub request_owed : (s : HostState) (pdu : Pdu) → AsksNow s pdu → owed_pdu s pdu ≡ decision.Send (r2t_of (header_part pdu))
request_owed s pdu h =
    owed_connected s pdu types.R2t h.limits h.phase h.kind ∙ rw (h.placed, asked h.pending (r2t_of (header_part pdu)) h.next) refl

pub understands : Understands
understands = record {
  first = λ s pdu phase kind h.
      ap (told_by s (data_part pdu)) (owed_first s pdu types.IcResp phase kind ∙ agreed (ic_resp_of (header_part pdu)) h);
  connect = λ s pdu limits p phase kind placed h.
      ap (told_by s (data_part pdu)) (owed_initialized s pdu types.CapsuleResp limits phase kind)
      ∙ rw (placed, completed_now p (response_in pdu) h) (connect_by s (data_part pdu) (response_in pdu) _ refl);
  reply = λ s pdu limits p phase kind placed h.
      ap (told_by s (data_part pdu)) (owed_connected s pdu types.CapsuleResp limits phase kind)
      ∙ rw (placed, completed_now p (response_in pdu) h) (reply_by s p (data_part pdu) (response_in pdu) placed);
  bytes = λ s pdu limits p phase kind placed h.
      ap (told_by s (data_part pdu)) (owed_connected s pdu types.C2hData limits phase kind)
      ∙ rw (placed, brought p (data_head_of (header_part pdu)) (data_part pdu) h)
      (data_by s p (data_head_of (header_part pdu)) (data_part pdu) _ refl h placed);
  request = λ s pdu limits p phase kind placed h.
      ap (told_by s (data_part pdu)) (owed_connected s pdu types.R2t limits phase kind)
      ∙ rw (placed, asked p (r2t_of (header_part pdu)) h) refl;
}
