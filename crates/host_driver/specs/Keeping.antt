-- Histories in which the controller keeps the rules of the transport, and what its host is told over one of them.
use Rattle.std.specs.Prelude.{◌≡◌, ◌⊎◌, ◌==◌, ◌||◌, ℕ, Bool, true, false, List, [], ◌∷◌, ◌++◌, Some, if◌then◌else◌}
use Rattle.nvt_fields.specs.declared.pdu_type.PduType.{PduType}
use Rattle.nvt_fields.specs.declared.pdu_type.PduType.TheVariants as types
use Rattle.tables.specs.NumberTable.{place}
use Rattle.pdu_cut.specs.Front.{Front, incomplete, whole, faulty}
use Rattle.pdu_cut.specs.Pdu.{Pdu, data_part, header_part}
use Rattle.pdu_codec.specs.DataHead.{data_head_of}
use Rattle.pdu_codec.specs.Initialize.{ic_resp_of}
use Rattle.pdu_codec.specs.R2t.{r2t_of}
use Rattle.host_driver.specs.declared.phase.Phase.TheVariants.{Opened, Initialized, Connected}
use Rattle.host_driver.specs.declared.phase.TransportLimits.{TransportLimits}
use Rattle.host_driver.specs.Decision.{response_in}
use Rattle.host_driver.specs.declared.params.HostParams.{HostParams}
use Rattle.host_driver.specs.Behaved.{AsksNext, BringsNext, Completes, IsAgreeable, connect_told, data_told, reply_told}
use Rattle.host_driver.specs.Event.{Event, History, submitted, taken}
use Rattle.host_driver.specs.Pending.{Pending}
use Rattle.host_driver.specs.State.{HostState, state_after}
use Rattle.host_driver.specs.Told.{Told, quiet, tells}

-- ---- what may come, and when

-- the ICResp comes first
pub record InitializesNow (s : HostState) (pdu : Pdu) : Type 0 where
  pub phase : s.phase ≡ Opened
  pub kind : pdu.kind ≡ types.IcResp
  pub agreeable : IsAgreeable (ic_resp_of (header_part pdu))

-- then the reply to the Connect
pub record ConnectsNow (s : HostState) (pdu : Pdu) : Type 0 where
  pub limits : TransportLimits
  pub phase : s.phase ≡ Initialized limits
  pub kind : pdu.kind ≡ types.CapsuleResp
  pub pending : Pending
  pub placed : place s.commands (response_in pdu).cid ≡ Some pending
  pub in_time : Completes pending (response_in pdu)

-- and then the reply to a command that is outstanding
pub record RepliesNow (s : HostState) (pdu : Pdu) : Type 0 where
  pub limits : TransportLimits
  pub phase : s.phase ≡ Connected limits
  pub kind : pdu.kind ≡ types.CapsuleResp
  pub pending : Pending
  pub placed : place s.commands (response_in pdu).cid ≡ Some pending
  pub in_time : Completes pending (response_in pdu)

-- .. or the next of the data that it wants
pub record BringsNow (s : HostState) (pdu : Pdu) : Type 0 where
  pub limits : TransportLimits
  pub phase : s.phase ≡ Connected limits
  pub kind : pdu.kind ≡ types.C2hData
  pub pending : Pending
  pub placed : place s.commands (data_head_of (header_part pdu)).cccid ≡ Some pending
  pub next : BringsNext pending (data_head_of (header_part pdu)) (data_part pdu)

-- .. or an R2T for the next of its own
pub record AsksNow (s : HostState) (pdu : Pdu) : Type 0 where
  pub limits : TransportLimits
  pub phase : s.phase ≡ Connected limits
  pub kind : pdu.kind ≡ types.R2t
  pub pending : Pending
  pub placed : place s.commands (r2t_of (header_part pdu)).cccid ≡ Some pending
  pub next : AsksNext pending (r2t_of (header_part pdu))

abbrev pub MayCome : HostState → Pdu → Type 0
MayCome s pdu = InitializesNow s pdu ⊎ ConnectsNow s pdu ⊎ RepliesNow s pdu ⊎ BringsNow s pdu ⊎ AsksNow s pdu

-- what comes is a whole PDU, and one that may come; the host may submit at any time
abbrev pub MayHappen : HostState → Event → Type 0
MayHappen s (submitted cid c) = Unit {0}
MayHappen s (taken incomplete) = ⊥
MayHappen s (taken (whole pdu)) = MayCome s pdu
MayHappen s (taken (faulty fault head)) = ⊥

-- the controller kept the rules at each event
unfoldable pub KeepsRules : HostParams → History → Type 0
KeepsRules params [] = Unit {0}
KeepsRules params (e ∷ h) = MayHappen (state_after params h) e × KeepsRules params h

-- ---- what is told

abbrev pub loud : Told → List Told
loud quiet = []
loud told = told ∷ []

-- all that the host was told, in its order
unfoldable pub told_after : HostParams → History → List Told
told_after params [] = []
told_after params (e ∷ h) = told_after params h ++ loud (tells (state_after params h) e)

-- ---- the same, looking back over what came

abbrev pub brings_by : PduType → Pdu → ℕ → List ℕ
brings_by types.C2hData pdu cid = if cid == (data_head_of (header_part pdu)).cccid then data_part pdu else []
brings_by _ pdu cid = []

-- the data for a command of this identifier
abbrev pub brings : Front → ℕ → List ℕ
brings incomplete cid = []
brings (whole pdu) cid = brings_by pdu.kind pdu cid
brings (faulty fault head) cid = []

-- the data that came for it since a command was submitted under it last
unfoldable pub brought : History → ℕ → List ℕ
brought [] cid = []
brought (submitted other c ∷ h) cid = if cid == other then [] else brought h cid
brought (taken f ∷ h) cid = brought h cid ++ brings f cid

abbrev pub is_response_by : PduType → Bool
is_response_by types.CapsuleResp = true
is_response_by _ = false

abbrev pub is_response : Event → Bool
is_response (submitted cid c) = false
is_response (taken incomplete) = false
is_response (taken (whole pdu)) = is_response_by pdu.kind
is_response (taken (faulty fault head)) = false

-- whether a response came: the first is the reply to the Connect
unfoldable pub has_response : History → Bool
has_response [] = false
has_response (e ∷ h) = is_response e || has_response h

-- what a PDU of this type tells: the first response connects or is a refusal; each other is the answer to its command,
-- with the data that came for it; and so are data that stand for a completion. Nothing else tells anything
abbrev pub reply_by : PduType → History → Pdu → Told
reply_by types.CapsuleResp h pdu =
    if has_response h then reply_told (response_in pdu) (brought h (response_in pdu).cid) else connect_told (response_in pdu)
reply_by types.C2hData h pdu =
    data_told (data_head_of (header_part pdu)) (brought h (data_head_of (header_part pdu)).cccid ++ data_part pdu)
reply_by _ h pdu = quiet

abbrev pub reply_at : History → Event → Told
reply_at h (submitted cid c) = quiet
reply_at h (taken incomplete) = quiet
reply_at h (taken (whole pdu)) = reply_by pdu.kind h pdu
reply_at h (taken (faulty fault head)) = quiet

-- the replies that came, in their order
unfoldable pub replies_of : History → List Told
replies_of [] = []
replies_of (e ∷ h) = replies_of h ++ loud (reply_at h e)

-- Where the controller keeps the rules the host is told its replies, in their order, each with the data that came for
-- its command, and nothing else: no fault
abbrev pub RepliesAreTold : Type 0
RepliesAreTold = (params : HostParams) (h : History) → KeepsRules params h → told_after params h ≡ replies_of h
