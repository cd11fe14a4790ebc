-- A command that succeeds is answered with all of its data, and no more.
use Rattle.std.proofs.Common.{◌≡◌, ℕ, ◌≤◌, ◌++◌, true, List, length, sym, ap, ◌∙◌, arith, length-append}
use Rattle.std.specs.Prelude.{Option, Some, None}
use Rattle.std.specs.Option.{option_map}
use Rattle.tables.specs.NumberTable.{place}
use Rattle.pdu_cut.specs.Front.{Front, incomplete, whole, faulty}
use Rattle.pdu_cut.specs.Pdu.{Pdu, data_part}
use Rattle.host_driver.specs.declared.decision.HostDecision.{HostDecision}
use Rattle.host_driver.specs.declared.decision.HostDecision.TheVariants as decision
use Rattle.host_driver.specs.Decision.{cid_named, is_success}
use Rattle.host_driver.specs.Within.{Fills, HasAll, IsInTime, IsWithin, Names}
use Rattle.host_driver.proofs.Deciding.{decide_rests}
use Rattle.host_driver.specs.Event.{data_at, submitted, taken}
use Rattle.host_driver.proofs.Fitting.{Fit, fits}
use Rattle.host_driver.specs.HistoryLaws.{AnswersAreWhole}
use Rattle.host_driver.specs.Pending.{Pending, outstanding_at, outstanding_of}
use Rattle.host_driver.specs.State.{HostState, owed, owed_pdu, state_after}
use Rattle.host_driver.specs.Told.{Answered, Told, answers, came_by, told_by}

abbrev answer_of : Told → Answered → Answered
answer_of (answers a) other = a
answer_of t other = other

abbrev pending_of : Pending → Option Pending → Pending
pending_of other None = other
pending_of other (Some p) = p

same_answer : (a b : Answered) → answers a ≡ answers b → a ≡ b
same_answer a b h = ap (λ t. answer_of t a) h

-- the last data of a command
filled : (command : Option Pending) (p : Pending) (bytes : List ℕ) → command ≡ Some p → Fills (option_map outstanding_of command) (length bytes)
    → length (came_by command ++ bytes) ≡ p.into
filled None p bytes is fills = absurd fills
filled (Some q) p bytes is fills =
    let same : q ≡ p = ap (pending_of q) is in
    let into : q.into ≡ p.into = ap (λ (x : Pending). x.into) same in
    omega (arith, fills, into, length-append q.came bytes)

-- a command all of whose data came before
all_came : (command : Option Pending) (p : Pending) → command ≡ Some p → HasAll (option_map outstanding_of command) → length p.came ≤ p.into
    → length (came_by command) ≡ p.into
all_came None p is all fits = absurd all
all_came (Some q) p is all fits =
    let same : q ≡ p = ap (pending_of q) is in
    let into : q.into ≡ p.into = ap (λ (x : Pending). x.into) same in
    let came : length q.came ≡ length p.came = ap (λ (x : Pending). length x.came) same in
    omega (arith, all, into, came, fits)

whole_by : (s : HostState) (pdu : Pdu) (d : HostDecision) (a : Answered) (p : Pending)
    → IsWithin (outstanding_at s.commands (cid_named pdu)) (length (data_part pdu)) d → Names (cid_named pdu) d → IsInTime (outstanding_at s.commands (cid_named pdu)) d
    → Fit s.commands → told_by s (data_part pdu) d ≡ answers a → is_success a.status ≡ true → place s.commands a.cid ≡ Some p → length a.payload ≡ p.into
whole_by s pdu (decision.Initialize limits) a p within names in_time fit told success is = cc
whole_by s pdu (decision.Connect cntlid) a p within names in_time fit told success is = cc
whole_by s pdu (decision.Refuse status) a p within names in_time fit told success is = cc
whole_by s pdu (decision.Receive cid) a p within names in_time fit told success is = cc
whole_by s pdu (decision.ReceiveLast cid) a p within names in_time fit told success is =
    let same = same_answer _ a told in
    let here : place s.commands cid ≡ Some p = ap (λ (x : Answered). place s.commands x.cid) same ∙ is in
    let fills : Fills (option_map outstanding_of (place s.commands cid)) (length (data_part pdu)) = rw names at within in
    let long : length (came_by (place s.commands cid) ++ data_part pdu) ≡ length a.payload = ap (λ (x : Answered). length x.payload) same in
    sym long ∙ filled (place s.commands cid) p (data_part pdu) here fills
whole_by s pdu (decision.Complete response) a p within names in_time fit told success is =
    let same = same_answer _ a told in
    let here : place s.commands response.cid ≡ Some p = ap (λ (x : Answered). place s.commands x.cid) same ∙ is in
    let succeeds : is_success response.status ≡ true = ap (λ (x : Answered). is_success x.status) same ∙ success in
    let all : HasAll (option_map outstanding_of (place s.commands response.cid)) = rw names at (in_time succeeds) in
    let long : length (came_by (place s.commands response.cid)) ≡ length a.payload = ap (λ (x : Answered). length x.payload) same in
    sym long ∙ all_came (place s.commands response.cid) p here all (fit response.cid p here)
whole_by s pdu (decision.Send request) a p within names in_time fit told success is = cc
whole_by s pdu (decision.Close request) a p within names in_time fit told success is = cc
whole_by s pdu (decision.Terminate t) a p within names in_time fit told success is = cc

whole_at : (s : HostState) (f : Front) (a : Answered) (p : Pending) → Fit s.commands → told_by s (data_at f) (owed s f) ≡ answers a
    → is_success a.status ≡ true → place s.commands a.cid ≡ Some p → length a.payload ≡ p.into
whole_at s incomplete a p fit told success is = cc
whole_at s (whole pdu) a p fit told success is =
    let rests = decide_rests s.phase (outstanding_at s.commands (cid_named pdu)) pdu in
    whole_by s pdu (owed_pdu s pdu) a p rests.0 rests.1 rests.2 fit told success is
whole_at s (faulty fault head) a p fit told success is = cc

pub answers_are_whole : AnswersAreWhole
answers_are_whole params h (submitted cid c) a p told success is = cc
answers_are_whole params h (taken f) a p told success is = whole_at (state_after params h) f a p (fits params h) told success is
