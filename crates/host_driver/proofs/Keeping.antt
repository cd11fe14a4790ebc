-- A host is told the replies of a controller that keeps the rules, and nothing else.
use Rattle.std.proofs.Common.{◌≡◌, ℕ, ◌==◌, ◌++◌, ◌||◌, Bool, true, false, List, [], ◌∷◌, replicate, refl, sym, ap, ◌∙◌, inl, inr, arith, append-nil}
use Rattle.std.specs.Prelude.{Option, Some, None, if◌then◌else◌}
use Rattle.std.proofs.lemmas.Bool.Decides.{nat_tests}
use Rattle.nvt_fields.specs.declared.pdu_type.PduType.{PduType}
use Rattle.nvt_fields.specs.declared.pdu_type.PduType.TheVariants as types
use Rattle.tables.specs.NumberTable.{place, with_value, without}
use Rattle.tables.proofs.NumberTables.{place-replicate}
use Rattle.pdu_cut.specs.Front.{incomplete, whole, faulty}
use Rattle.pdu_cut.specs.Pdu.{Pdu, data_part, header_part}
use Rattle.pdu_codec.specs.DataHead.{data_head_of}
use Rattle.pdu_codec.specs.R2t.{r2t_of}
use Rattle.host_driver.specs.declared.decision.CommandCompletion.{CommandCompletion}
use Rattle.host_driver.specs.declared.decision.HostDecision.{HostDecision}
use Rattle.host_driver.specs.declared.phase.Phase.{Phase}
use Rattle.host_driver.specs.declared.phase.Phase.TheVariants.{Opened, Initialized, Connected, Failed}
use Rattle.host_driver.specs.declared.phase.TransportLimits.{TransportLimits}
use Rattle.host_driver.specs.Decision.{connected, is_success, response_in}
use Rattle.host_driver.specs.declared.params.HostParams.{HostParams}
use Rattle.host_driver.specs.Behaved.{connect_told, data_told, reply_told}
use Rattle.host_driver.specs.Event.{History, submitted, taken}
use Rattle.host_driver.specs.Keeping.{KeepsRules, MayCome, RepliesAreTold, brings_by, brought, has_response, is_response_by, loud, replies_of, reply_by, told_after}
use Rattle.host_driver.specs.Pending.{Commands, Pending, begun, changed_by, connect_begun, with_data, with_request}
use Rattle.host_driver.specs.State.{HostState, after_decision, owed_pdu, state_after}
use Rattle.host_driver.specs.Told.{tells}
use Rattle.host_driver.proofs.Behaving.{bytes_owed, connect_owed, initialize_owed, reply_owed, request_owed, understands, with_success}
use Rattle.host_driver.proofs.Placing.{not_both, placed_with, placed_without}

-- ---- how far a host has come, by whether a response came

abbrev Responded : Phase → Bool → Type 0
Responded Opened b = b ≡ false
Responded (Initialized limits) b = b ≡ false
Responded (Connected limits) b = b ≡ true
Responded Failed b = Unit {0}

-- the same of a decision and a type that are equal to others
far_by : (s : HostState) (bytes : List ℕ) (owed d : HostDecision) (kind is : PduType) (before : Bool) → owed ≡ d → kind ≡ is
    → Responded (after_decision s bytes d).phase (is_response_by is || before) → Responded (after_decision s bytes owed).phase (is_response_by kind || before)
far_by s bytes owed d kind is before owes same h = rw (owes, same) h

stays_far : (old new : Phase) (before : Bool) → new ≡ old → Responded old before → Responded new before
stays_far old new before same far = rw same far

connected_leads : (s : HostState) (bytes : List ℕ) (response : CommandCompletion) (limits : TransportLimits) (succeeds : Bool) → s.phase ≡ Initialized limits
    → is_success response.status ≡ succeeds → Responded (after_decision s bytes (connected response)).phase true
connected_leads s bytes response limits true phase is = rw (is, phase) refl
connected_leads s bytes response limits false phase is = rw is tt

success_leads : (s : HostState) (bytes : List ℕ) (cid : ℕ) (success : Bool) → (after_decision s bytes (with_success success cid)).phase ≡ s.phase
success_leads s bytes cid true = refl
success_leads s bytes cid false = refl

none_before : (phase : Phase) (before : Bool) → phase ≡ Opened → Responded phase before → before ≡ false
none_before phase before is far = rw is at far

none_connecting : (phase : Phase) (limits : TransportLimits) (before : Bool) → phase ≡ Initialized limits → Responded phase before → before ≡ false
none_connecting phase limits before is far = rw is at far

some_before : (phase : Phase) (limits : TransportLimits) (before : Bool) → phase ≡ Connected limits → Responded phase before → before ≡ true
some_before phase limits before is far = rw is at far

replied : (phase : Phase) (limits : TransportLimits) → phase ≡ Connected limits → Responded phase true
replied phase limits is = rw is refl

responded_pdu : (s : HostState) (pdu : Pdu) (before : Bool) → Responded s.phase before → MayCome s pdu
    → Responded (after_decision s (data_part pdu) (owed_pdu s pdu)).phase (is_response_by pdu.kind || before)
responded_pdu s pdu before far (inl h) =
    far_by s (data_part pdu) (owed_pdu s pdu) _ pdu.kind types.IcResp before (initialize_owed s pdu h) h.kind (none_before s.phase before h.phase far)
responded_pdu s pdu before far (inr (inl h)) =
    far_by s (data_part pdu) (owed_pdu s pdu) _ pdu.kind types.CapsuleResp before (connect_owed s pdu h) h.kind
    (connected_leads s (data_part pdu) (response_in pdu) h.limits _ h.phase refl)
responded_pdu s pdu before far (inr (inr (inl h))) =
    far_by s (data_part pdu) (owed_pdu s pdu) _ pdu.kind types.CapsuleResp before (reply_owed s pdu h) h.kind (replied s.phase h.limits h.phase)
responded_pdu s pdu before far (inr (inr (inr (inl h)))) =
    far_by s (data_part pdu) (owed_pdu s pdu) _ pdu.kind types.C2hData before (bytes_owed s pdu h) h.kind
    (stays_far s.phase _ before (success_leads s (data_part pdu) _ _) far)
responded_pdu s pdu before far (inr (inr (inr (inr h)))) =
    far_by s (data_part pdu) (owed_pdu s pdu) _ pdu.kind types.R2t before (request_owed s pdu h) h.kind far

responded : (params : HostParams) (h : History) → KeepsRules params h → Responded (state_after params h).phase (has_response h)
unfolding state_after KeepsRules has_response
responded params [] keeps = refl
responded params (submitted cid c ∷ h) keeps = responded params h keeps.1
responded params (taken incomplete ∷ h) keeps = absurd keeps.0
responded params (taken (whole pdu) ∷ h) keeps = responded_pdu (state_after params h) pdu (has_response h) (responded params h keeps.1) keeps.0
responded params (taken (faulty fault head) ∷ h) keeps = absurd keeps.0

-- ---- the data that came for a command

-- they are these, of each command that is outstanding
abbrev Came : Commands → (ℕ → List ℕ) → Type 0
Came commands f = (cid : ℕ) (p : Pending) → place commands cid ≡ Some p → p.came ≡ f cid

equal : (a b : ℕ) → (a == b) ≡ true → a ≡ b
equal a b h = grind (arith, nat_tests, h)

same_test : (a : ℕ) → (a == a) ≡ true
same_test a = grind (arith, nat_tests)

came_is : (p q : Pending) (bytes : List ℕ) → p ≡ q → q.came ≡ bytes → p.came ≡ bytes
came_is p q bytes is came = ap (λ (x : Pending). x.came) is ∙ came

-- one of the commands was changed, and these data came for it
came_changed : (commands : Commands) (cid : ℕ) (change : Pending → Pending) (held : Option Pending) (before after : ℕ → List ℕ) → place commands cid ≡ held
    → ((p : Pending) → held ≡ Some p → (change p).came ≡ after cid)
    → ((other : ℕ) → (other == cid) ≡ false → after other ≡ before other)
    → Came commands before → Came (changed_by commands cid change held) after
came_changed commands cid change None before after is here others came = λ other p placed. nowhere other p placed (other == cid) refl
  where
    nowhere : (other : ℕ) (p : Pending) → place commands other ≡ Some p → (b : Bool) → (other == cid) ≡ b → p.came ≡ after other
    nowhere other p placed true same =
        let at : other ≡ cid = equal other cid same in
        absurd (not_both (place commands cid) p is (ap (place commands) (sym at) ∙ placed))
    nowhere other p placed false differs = came other p placed ∙ sym (others other differs)
came_changed commands cid change (Some q) before after is here others came = λ other p placed.
    elim (placed_with commands cid (change q) other p placed) [
      | inl put ↦ came_is p (change q) (after other) put.1 (here q refl ∙ ap after (sym (equal other cid put.0)))
      | inr stays ↦ came other p stays.1 ∙ sym (others other stays.0)
    ]

-- one of the commands was completed, and no data came for another
came_completed : (commands : Commands) (cid : ℕ) (before after : ℕ → List ℕ) → ((other : ℕ) → (other == cid) ≡ false → after other ≡ before other)
    → Came commands before → Came (without commands cid) after
came_completed commands cid before after others came = λ other p placed.
    let left = placed_without commands cid other p placed in
    came other p left.1 ∙ sym (others other left.0)

came_same : (commands : Commands) (before after : ℕ → List ℕ) → ((other : ℕ) → after other ≡ before other) → Came commands before → Came commands after
came_same commands before after same came = λ other p placed. came other p placed ∙ sym (same other)

nothing_more : (before : ℕ → List ℕ) (other : ℕ) → before other ++ [] ≡ before other
nothing_more before other = append-nil (before other)

-- data for one command are none for another
for_other : (before : ℕ → List ℕ) (pdu : Pdu) (other : ℕ) (b : Bool) → (other == (data_head_of (header_part pdu)).cccid) ≡ b → b ≡ false
    → before other ++ brings_by types.C2hData pdu other ≡ before other
for_other before pdu other b is false_is = rw (is ∙ false_is) (append-nil (before other))

for_own : (before : ℕ → List ℕ) (pdu : Pdu) (p : Pending) → p.came ≡ before (data_head_of (header_part pdu)).cccid
    → p.came ++ data_part pdu ≡ before (data_head_of (header_part pdu)).cccid ++ brings_by types.C2hData pdu (data_head_of (header_part pdu)).cccid
for_own before pdu p came = rw (same_test (data_head_of (header_part pdu)).cccid) (ap (λ b. b ++ data_part pdu) came)

-- the same of a decision and a type that are equal to others
came_by : (s : HostState) (pdu : Pdu) (owed d : HostDecision) (kind is : PduType) (before : ℕ → List ℕ) → owed ≡ d → kind ≡ is
    → Came (after_decision s (data_part pdu) d).commands (λ cid. before cid ++ brings_by is pdu cid)
    → Came (after_decision s (data_part pdu) owed).commands (λ cid. before cid ++ brings_by kind pdu cid)
came_by s pdu owed d kind is before owes same h = rw (owes, same) h

came_connecting : (s : HostState) (pdu : Pdu) (succeeds : Bool) (before : ℕ → List ℕ) → is_success (response_in pdu).status ≡ succeeds → Came s.commands before
    → Came (after_decision s (data_part pdu) (connected (response_in pdu))).commands (λ cid. before cid ++ [])
came_connecting s pdu true before is came = rw is (came_completed s.commands 0 before (λ cid. before cid ++ []) (λ other differs. nothing_more before other) came)
came_connecting s pdu false before is came = rw is (came_same s.commands before (λ cid. before cid ++ []) (nothing_more before) came)

came_data : (s : HostState) (pdu : Pdu) (success : Bool) (before : ℕ → List ℕ) → Came s.commands before
    → Came (after_decision s (data_part pdu) (with_success success (data_head_of (header_part pdu)).cccid)).commands (λ cid. before cid ++ brings_by types.C2hData pdu cid)
came_data s pdu true before came =
    came_completed s.commands (data_head_of (header_part pdu)).cccid before (λ cid. before cid ++ brings_by types.C2hData pdu cid)
    (λ other differs. for_other before pdu other false differs refl) came
came_data s pdu false before came =
    let cid = (data_head_of (header_part pdu)).cccid in
    came_changed s.commands cid (with_data (data_part pdu)) (place s.commands cid) before (λ other. before other ++ brings_by types.C2hData pdu other) refl
    (λ p is. for_own before pdu p (came cid p is)) (λ other differs. for_other before pdu other false differs refl) came

came_pdu : (s : HostState) (pdu : Pdu) (before : ℕ → List ℕ) → Came s.commands before → MayCome s pdu
    → Came (after_decision s (data_part pdu) (owed_pdu s pdu)).commands (λ cid. before cid ++ brings_by pdu.kind pdu cid)
came_pdu s pdu before came (inl h) =
    came_by s pdu (owed_pdu s pdu) _ pdu.kind types.IcResp before (initialize_owed s pdu h) h.kind
    (came_same s.commands before (λ cid. before cid ++ []) (nothing_more before) came)
came_pdu s pdu before came (inr (inl h)) =
    came_by s pdu (owed_pdu s pdu) _ pdu.kind types.CapsuleResp before (connect_owed s pdu h) h.kind (came_connecting s pdu _ before refl came)
came_pdu s pdu before came (inr (inr (inl h))) =
    came_by s pdu (owed_pdu s pdu) _ pdu.kind types.CapsuleResp before (reply_owed s pdu h) h.kind
    (came_completed s.commands (response_in pdu).cid before (λ cid. before cid ++ []) (λ other differs. nothing_more before other) came)
came_pdu s pdu before came (inr (inr (inr (inl h)))) =
    came_by s pdu (owed_pdu s pdu) _ pdu.kind types.C2hData before (bytes_owed s pdu h) h.kind (came_data s pdu _ before came)
came_pdu s pdu before came (inr (inr (inr (inr h)))) =
    let request = r2t_of (header_part pdu) in
    came_by s pdu (owed_pdu s pdu) _ pdu.kind types.R2t before (request_owed s pdu h) h.kind
    (came_changed s.commands request.cccid (with_request request.r2tl) (place s.commands request.cccid) before (λ cid. before cid ++ []) refl
    (λ p is. came request.cccid p is ∙ sym (nothing_more before request.cccid)) (λ other differs. nothing_more before other) came)

opened_came : (places : ℕ) → Came (with_value (replicate places None) 0 connect_begun) (λ cid. [])
opened_came places cid p placed =
    elim (placed_with (replicate places None) 0 connect_begun cid p placed) [
      | inl put ↦ came_is p connect_begun [] put.1 refl
      | inr stays ↦ absurd (not_both (place (replicate places None) cid) p (place-replicate {T = Pending} places cid) stays.1)
    ]

if_same : (b : Bool) (old : List ℕ) → b ≡ true → [] ≡ (if b then [] else old)
if_same b old is = rw is refl

if_other : (b : Bool) (old : List ℕ) → b ≡ false → old ≡ (if b then [] else old)
if_other b old is = rw is refl

came_submitted : (commands : Commands) (cid : ℕ) (p : Pending) (before : ℕ → List ℕ) → p.came ≡ [] → Came commands before
    → Came (with_value commands cid p) (λ other. if other == cid then [] else before other)
came_submitted commands cid p before none came = λ other x placed.
    elim (placed_with commands cid p other x placed) [
      | inl put ↦ came_is x p [] put.1 none ∙ if_same (other == cid) (before other) put.0
      | inr stays ↦ came other x stays.1 ∙ if_other (other == cid) (before other) stays.0
    ]

came_after : (params : HostParams) (h : History) → KeepsRules params h → Came (state_after params h).commands (brought h)
unfolding state_after KeepsRules brought
came_after params [] keeps = opened_came params.sqsize
came_after params (submitted cid c ∷ h) keeps = came_submitted (state_after params h).commands cid (begun params.in_capsule c) (brought h) refl (came_after params h keeps.1)
came_after params (taken incomplete ∷ h) keeps = absurd keeps.0
came_after params (taken (whole pdu) ∷ h) keeps = came_pdu (state_after params h) pdu (brought h) (came_after params h keeps.1) keeps.0
came_after params (taken (faulty fault head) ∷ h) keeps = absurd keeps.0

-- ---- what is told

first_told : (h : History) (pdu : Pdu) (kind : PduType) (before : Bool) → kind ≡ types.CapsuleResp → has_response h ≡ before → before ≡ false
    → connect_told (response_in pdu) ≡ reply_by kind h pdu
first_told h pdu kind before is has none = rw (is, has ∙ none) refl

later_told : (h : History) (pdu : Pdu) (kind : PduType) (before : Bool) → kind ≡ types.CapsuleResp → has_response h ≡ before → before ≡ true
    → reply_told (response_in pdu) (brought h (response_in pdu).cid) ≡ reply_by kind h pdu
later_told h pdu kind before is has some = rw (is, has ∙ some) refl

pdu_told : (s : HostState) (h : History) (pdu : Pdu) → Responded s.phase (has_response h) → Came s.commands (brought h) → MayCome s pdu
    → tells s (taken (whole pdu)) ≡ reply_by pdu.kind h pdu
pdu_told s h pdu far came (inl c) =
    understands.first s pdu c.phase c.kind c.agreeable ∙ sym (ap (λ kind. reply_by kind h pdu) c.kind)
pdu_told s h pdu far came (inr (inl c)) =
    understands.connect s pdu c.limits c.pending c.phase c.kind c.placed c.in_time
    ∙ first_told h pdu pdu.kind (has_response h) c.kind refl (none_connecting s.phase c.limits (has_response h) c.phase far)
pdu_told s h pdu far came (inr (inr (inl c))) =
    understands.reply s pdu c.limits c.pending c.phase c.kind c.placed c.in_time
    ∙ ap (reply_told (response_in pdu)) (came (response_in pdu).cid c.pending c.placed)
    ∙ later_told h pdu pdu.kind (has_response h) c.kind refl (some_before s.phase c.limits (has_response h) c.phase far)
pdu_told s h pdu far came (inr (inr (inr (inl c)))) =
    let head = data_head_of (header_part pdu) in
    understands.bytes s pdu c.limits c.pending c.phase c.kind c.placed c.next
    ∙ ap (λ bytes. data_told head (bytes ++ data_part pdu)) (came head.cccid c.pending c.placed)
    ∙ sym (ap (λ kind. reply_by kind h pdu) c.kind)
pdu_told s h pdu far came (inr (inr (inr (inr c)))) =
    understands.request s pdu c.limits c.pending c.phase c.kind c.placed c.next ∙ sym (ap (λ kind. reply_by kind h pdu) c.kind)

pub replies_are_told : RepliesAreTold
unfolding state_after KeepsRules told_after replies_of
replies_are_told params [] keeps = refl
replies_are_told params (submitted cid c ∷ h) keeps = ap (λ before. before ++ []) (replies_are_told params h keeps.1)
replies_are_told params (taken incomplete ∷ h) keeps = absurd keeps.0
replies_are_told params (taken (whole pdu) ∷ h) keeps =
    let s = state_after params h in
    ap (λ before. before ++ loud (tells s (taken (whole pdu)))) (replies_are_told params h keeps.1)
    ∙ ap (λ told. replies_of h ++ loud told)
    (pdu_told s h pdu (responded params h keeps.1) (came_after params h keeps.1) keeps.0)
replies_are_told params (taken (faulty fault head) ∷ h) keeps = absurd keeps.0
