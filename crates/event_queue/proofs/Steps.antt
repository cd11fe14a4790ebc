-- A call goes from what a look-back says to what it says with one occurrence more.
use Rattle.std.proofs.Common.{◌≡◌, ℕ, ◌+◌, ◌≤◌, Bool, true, false, not, ◌&&◌, ◌||◌, IsTrue, List, [], ◌∷◌, ◌++◌, drop, length, Option, Some, None, IfSome, refl, ap, sym, ◌∙◌, subst, inl, inr, arith, length-append}
use Rattle.std.specs.Prelude.{if◌then◌else◌}
use Rattle.std.specs.Option.{option_map}
use Rattle.std.proofs.lemmas.Bool.{cases_Bool}
use Rattle.std.proofs.lemmas.List.{drop-append-le}
use Rattle.event_queue.specs.declared.completion.Completion.{Completion}
use Rattle.event_queue.specs.declared.kind.EventKind.{EventKind}
use Rattle.event_queue.specs.declared.kind.EventKind.TheVariants.{Namespace, Ana, Discovery}
use Rattle.event_queue.specs.declared.notice.KindState.{KindState}
use Rattle.event_queue.specs.declared.notice.Notice.TheVariants.{Reported}
use Rattle.event_queue.specs.Completion.{completion_of, tells}
use Rattle.event_queue.specs.Events.{EventState, change_answer, changed, first_of, first_pending, is_full, taken_by}
use Rattle.event_queue.specs.Kind.{is_same_kind}
use Rattle.event_queue.specs.Notice.{is_pending, is_quiet}
use Rattle.event_queue.specs.Occurrence.{Occurrence, accepted, arose, read_page, set_mask, was_reset}
use Rattle.event_queue.specs.Told.{Happened, IsAnswered, answer_to, completions_since, count_of, events_of, first_to_tell, is_accepted, is_enabled, is_owed, is_to_tell, is_told, notice_of, requests_since, waits_of}
use Rattle.event_queue.specs.Laws.{ToldAsItHappened, ToldOnceToTheOldest, call_answer, called, events_after, happened_by, happens}
use Rattle.event_queue.proofs.Looking.{Stands, first_kind, first_to_tell_is, left_after, next, none_left, not_right, stands, told_by_first, told_of}

abbrev kind_with : Bool → Bool → Bool → KindState
kind_with enabled owed told = record { enabled = enabled; notice = notice_of owed told }

abbrev state_with : List ℕ → KindState → KindState → KindState → EventState
state_with waiting namespace ana discovery = record { waiting = waiting; namespace = namespace; ana = ana; discovery = discovery }

-- ---- a request

pending_is : (owed told : Bool) → is_pending (notice_of owed told) ≡ (owed && not told)
pending_is true true = refl
pending_is true false = refl
pending_is false told = refl

first_pending_is : (before : List Happened) → first_pending (events_of before) ≡ first_to_tell before
first_pending_is before =
    ap (λ (b : Bool). if b then Some Namespace else if is_pending (events_of before).ana.notice then Some Ana else if is_pending (events_of before).discovery.notice then Some Discovery else None) (pending_is (is_owed before Namespace) (is_told before Namespace))
    ∙ ap (λ (b : Bool). if is_to_tell before Namespace then Some Namespace else if b then Some Ana else if is_pending (events_of before).discovery.notice then Some Discovery else None) (pending_is (is_owed before Ana) (is_told before Ana))
    ∙ ap (λ (b : Bool). if is_to_tell before Namespace then Some Namespace else if is_to_tell before Ana then Some Ana else if b then Some Discovery else None) (pending_is (is_owed before Discovery) (is_told before Discovery))

to_tell_parts : (owed told : Bool) → (owed && not told) ≡ true → (owed ≡ true) × (told ≡ false)
to_tell_parts true false h = (refl, refl)
to_tell_parts true true h = cc
to_tell_parts false told h = cc

reported : (owed : Bool) → owed ≡ true → notice_of owed true ≡ Reported
reported true h = refl
reported false h = cc

waits_more : (n : ℕ) (xs : List ℕ) (cid : ℕ) → n ≤ length xs → drop (0 + n) (xs ++ cid ∷ []) ≡ drop n xs ++ cid ∷ []
waits_more n xs cid within =
    let same : 0 + n ≡ n = omega arith in
    rw same (drop-append-le n xs (cid ∷ []) within)

waits_still : (n : ℕ) (xs : List ℕ) (cid : ℕ) → n ≡ length xs → drop (1 + n) (xs ++ cid ∷ []) ≡ drop n xs
waits_still n xs cid all =
    let more : 1 + n ≡ length (xs ++ cid ∷ []) = omega (arith, length-append xs (cid ∷ [])) in
    none_left (1 + n) (xs ++ cid ∷ []) more ∙ sym (none_left n xs all)

abbrev after_request : List Happened → ℕ → Option EventKind → EventState
after_request before cid p = events_of (record { occurrence = accepted cid; answer = option_map (λ k. completion_of k cid) p } ∷ before)

taken : (before : List Happened) (cid : ℕ) (p : Option EventKind) → IfSome p (λ k. is_to_tell before k ≡ true) → Stands before
    → after_request before cid p ≡ taken_by p cid (events_of before)
taken before cid None first s =
    let waits = waits_more (completions_since before) (requests_since before) cid s.counted in
    ap (λ (w : List ℕ). record (events_of before) { waiting = w }) waits
taken before cid (Some Namespace) first s =
    let waits = waits_still (completions_since before) (requests_since before) cid (s.none_waits Namespace first) in
    let told = reported (is_owed before Namespace) (to_tell_parts (is_owed before Namespace) (is_told before Namespace) first).0 in
    rw (waits, told) refl
taken before cid (Some Ana) first s =
    let waits = waits_still (completions_since before) (requests_since before) cid (s.none_waits Ana first) in
    let told = reported (is_owed before Ana) (to_tell_parts (is_owed before Ana) (is_told before Ana) first).0 in
    rw (waits, told) refl
taken before cid (Some Discovery) first s =
    let waits = waits_still (completions_since before) (requests_since before) cid (s.none_waits Discovery first) in
    let told = reported (is_owed before Discovery) (to_tell_parts (is_owed before Discovery) (is_told before Discovery) first).0 in
    rw (waits, told) refl

not_full : (b : Bool) → IsTrue (not b) → b ≡ false
not_full false h = refl
not_full true h = cc

-- ---- an edit

abbrev answer_with : EventKind → Bool → Bool → List ℕ → Option Completion
answer_with q enabled owed waiting = if enabled && not owed then option_map (completion_of q) (first_of waiting) else None

-- a kind after an edit that is an event for q
abbrev kind_then : Option Completion → EventKind → EventKind → Bool → Bool → Bool → KindState
kind_then a q kind enabled owed told = kind_with enabled ((is_same_kind q kind && enabled) || owed) (tells a kind || told)

-- e, o and t: whether q is enabled, owed, told; k and m: the same of the other kinds
namespace_arose : (w : List ℕ) (e o t ke ko kt me mo mt : Bool) → (t ≡ true → o ≡ true)
    → let a = answer_with Namespace e o w in
    state_with (drop (count_of a) w) (kind_then a Namespace Namespace e o t) (kind_then a Namespace Ana ke ko kt) (kind_then a Namespace Discovery me mo mt)
    ≡ changed (state_with w (kind_with e o t) (kind_with ke ko kt) (kind_with me mo mt)) Namespace
namespace_arose [] true false false ke ko kt me mo mt h = refl
namespace_arose (cid ∷ w) true false false ke ko kt me mo mt h = refl
namespace_arose w true false true ke ko kt me mo mt h = absurd (let no : false ≡ true = h refl in cc)
namespace_arose w true true true ke ko kt me mo mt h = refl
namespace_arose w true true false ke ko kt me mo mt h = refl
namespace_arose w false o t ke ko kt me mo mt h = refl

ana_arose : (w : List ℕ) (e o t ke ko kt me mo mt : Bool) → (t ≡ true → o ≡ true)
    → let a = answer_with Ana e o w in
    state_with (drop (count_of a) w) (kind_then a Ana Namespace ke ko kt) (kind_then a Ana Ana e o t) (kind_then a Ana Discovery me mo mt)
    ≡ changed (state_with w (kind_with ke ko kt) (kind_with e o t) (kind_with me mo mt)) Ana
ana_arose [] true false false ke ko kt me mo mt h = refl
ana_arose (cid ∷ w) true false false ke ko kt me mo mt h = refl
ana_arose w true false true ke ko kt me mo mt h = absurd (let no : false ≡ true = h refl in cc)
ana_arose w true true true ke ko kt me mo mt h = refl
ana_arose w true true false ke ko kt me mo mt h = refl
ana_arose w false o t ke ko kt me mo mt h = refl

discovery_arose : (w : List ℕ) (e o t ke ko kt me mo mt : Bool) → (t ≡ true → o ≡ true)
    → let a = answer_with Discovery e o w in
    state_with (drop (count_of a) w) (kind_then a Discovery Namespace ke ko kt) (kind_then a Discovery Ana me mo mt) (kind_then a Discovery Discovery e o t)
    ≡ changed (state_with w (kind_with ke ko kt) (kind_with me mo mt) (kind_with e o t)) Discovery
discovery_arose [] true false false ke ko kt me mo mt h = refl
discovery_arose (cid ∷ w) true false false ke ko kt me mo mt h = refl
discovery_arose w true false true ke ko kt me mo mt h = absurd (let no : false ≡ true = h refl in cc)
discovery_arose w true true true ke ko kt me mo mt h = refl
discovery_arose w true true false ke ko kt me mo mt h = refl
discovery_arose w false o t ke ko kt me mo mt h = refl

-- the requests alone are others
with_waiting : (s : EventState) (w : List ℕ) (r : EventState) → s.waiting ≡ w → state_with w s.namespace s.ana s.discovery ≡ r → s ≡ r
with_waiting s w r waits same = ap (λ (l : List ℕ). state_with l s.namespace s.ana s.discovery) waits ∙ same

arose_step : (before : List Happened) (q : EventKind) → Stands before → events_of (next before (arose q)) ≡ changed (events_of before) q
arose_step before q s =
    with_waiting (events_of (next before (arose q))) (drop (count_of (answer_to before (arose q))) (waits_of before)) (changed (events_of before) q)
    (left_after (answer_to before (arose q)) (completions_since before) (requests_since before))
    (by_kind q) where
      by_kind : (q : EventKind) → state_with (drop (count_of (answer_to before (arose q))) (waits_of before)) (events_of (next before (arose q))).namespace (events_of (next before (arose q))).ana (events_of (next before (arose q))).discovery ≡ changed (events_of before) q
      by_kind Namespace = namespace_arose (waits_of before) (is_enabled before Namespace) (is_owed before Namespace) (is_told before Namespace) (is_enabled before Ana) (is_owed before Ana) (is_told before Ana) (is_enabled before Discovery) (is_owed before Discovery) (is_told before Discovery) (s.told_owed Namespace)
      by_kind Ana = ana_arose (waits_of before) (is_enabled before Ana) (is_owed before Ana) (is_told before Ana) (is_enabled before Namespace) (is_owed before Namespace) (is_told before Namespace) (is_enabled before Discovery) (is_owed before Discovery) (is_told before Discovery) (s.told_owed Ana)
      by_kind Discovery = discovery_arose (waits_of before) (is_enabled before Discovery) (is_owed before Discovery) (is_told before Discovery) (is_enabled before Namespace) (is_owed before Namespace) (is_told before Namespace) (is_enabled before Ana) (is_owed before Ana) (is_told before Ana) (s.told_owed Discovery)

quiet_is : (owed told : Bool) → is_quiet (notice_of owed told) ≡ not owed
quiet_is true true = refl
quiet_is true false = refl
quiet_is false told = refl

arose_answer : (before : List Happened) (q : EventKind) → answer_to before (arose q) ≡ change_answer (events_of before) q
arose_answer before Namespace = rw quiet_is refl
arose_answer before Ana = rw quiet_is refl
arose_answer before Discovery = rw quiet_is refl

-- ---- each occurrence

step : (o : Occurrence) (before : List Happened) → IsTrue (is_accepted before o) → Stands before → events_of (next before o) ≡ called o (events_of before)
step (accepted cid) before room s =
    rw (not_full (is_full (events_of before)) room)
    (taken before cid (first_to_tell before) (first_to_tell_is before) s ∙ ap (λ (p : Option EventKind). taken_by p cid (events_of before)) (sym (first_pending_is before)))
step (arose q) before room s = arose_step before q s
step (read_page Namespace true) before room s = with_waiting _ (waits_of before) (events_of before) (left_after None (completions_since before) (requests_since before)) refl
step (read_page Ana true) before room s = with_waiting _ (waits_of before) (events_of before) (left_after None (completions_since before) (requests_since before)) refl
step (read_page Discovery true) before room s = with_waiting _ (waits_of before) (events_of before) (left_after None (completions_since before) (requests_since before)) refl
step (read_page Namespace false) before room s = with_waiting _ (waits_of before) _ (left_after None (completions_since before) (requests_since before)) refl
step (read_page Ana false) before room s = with_waiting _ (waits_of before) _ (left_after None (completions_since before) (requests_since before)) refl
step (read_page Discovery false) before room s = with_waiting _ (waits_of before) _ (left_after None (completions_since before) (requests_since before)) refl
step (set_mask mask) before room s = with_waiting _ (waits_of before) _ (left_after None (completions_since before) (requests_since before)) refl
step was_reset before room s = refl

call_answered : (o : Occurrence) (before : List Happened) → IsTrue (is_accepted before o) → answer_to before o ≡ call_answer o (events_of before)
call_answered (accepted cid) before room =
    rw (not_full (is_full (events_of before)) room) (ap (λ (p : Option EventKind). option_map (λ k. completion_of k cid) p) (sym (first_pending_is before)))
call_answered (arose q) before room = arose_answer before q
call_answered (read_page q rae) before room = refl
call_answered (set_mask mask) before room = refl
call_answered was_reset before room = refl

-- a refused call changes nothing
refused : (o : Occurrence) (before : List Happened) → is_accepted before o ≡ false → called o (events_of before) ≡ events_of before
refused (accepted cid) before full = full_stays (is_full (events_of before)) full where
  full_stays : (b : Bool) → not b ≡ false → (if b then events_of before else taken_by (first_pending (events_of before)) cid (events_of before)) ≡ events_of before
  full_stays true h = refl
  full_stays false h = cc
refused (arose q) before full = cc
refused (read_page q rae) before full = cc
refused (set_mask mask) before full = cc
refused was_reset before full = cc

pub answered_next : (before : List Happened) (o : Occurrence) → IsAnswered before → IsAnswered (happens before o)
answered_next before o all =
    elim (cases_Bool (is_accepted before o)) [
      | inl room ↦ rw room (refl, room, all)
      | inr full ↦ rw full all
    ]

answered_by : (calls : List Occurrence) → IsAnswered (happened_by calls)
answered_by [] = tt
answered_by (call ∷ before) = answered_next (happened_by before) call (answered_by before)

pub called_next : (before : List Happened) (o : Occurrence) → IsAnswered before → events_of (happens before o) ≡ called o (events_of before)
called_next before o all =
    elim (cases_Bool (is_accepted before o)) [
      | inl room ↦ ap events_of (ap (λ (b : Bool). if b then next before o else before) room) ∙ step o before room (stands before all)
      | inr full ↦ ap events_of (ap (λ (b : Bool). if b then next before o else before) full) ∙ sym (refused o before full)
    ]

calls_are : (calls : List Occurrence) → events_of (happened_by calls) ≡ events_after calls
calls_are [] = refl
calls_are (call ∷ before) = called_next (happened_by before) call (answered_by before) ∙ ap (called call) (calls_are before)

pub told_as_it_happened : ToldAsItHappened
told_as_it_happened = record {
  after = λ x before all.
      ap (λ (a : Option Completion). events_of (record { occurrence = x.occurrence; answer = a } ∷ before)) all.0
      ∙ step x.occurrence before all.1 (stands before all.2);
  answer = λ x before all. all.0 ∙ call_answered x.occurrence before all.1;
  answered = answered_by;
  calls = calls_are;
}

-- ---- once, and to the oldest

not_owed_not_told : (owed told : Bool) → (told ≡ true → owed ≡ true) → owed ≡ false → told ≡ false
not_owed_not_told owed false f h = refl
not_owed_not_told true true f h = cc
not_owed_not_told false true f h = let no : false ≡ true = f refl in cc

once : (o : Occurrence) (before : List Happened) (kind : EventKind) → Stands before → tells (answer_to before o) kind ≡ true → is_told before kind ≡ false
once (accepted cid) before kind s told =
    not_right (is_owed before kind) (is_told before kind) (first_kind before kind (told_by_first (first_to_tell before) cid kind told))
once (arose q) before kind s told =
    let its = told_of q kind (is_enabled before q && not (is_owed before q)) (first_of (waits_of before)) told in
    subst (λ (k : EventKind). is_told before k ≡ false) its.0
    (not_owed_not_told (is_owed before q) (is_told before q) (s.told_owed q) (not_right (is_enabled before q) (is_owed before q) its.1))
once (read_page q rae) before kind s told = cc
once (set_mask mask) before kind s told = cc
once was_reset before kind s told = cc

oldest : (b : Bool) (w : List ℕ) (kind : EventKind) (c : Completion) → Some c ≡ (if b then option_map (completion_of kind) (first_of w) else None) → w ≡ c.cid ∷ drop 1 w
oldest true (cid ∷ w) kind c is =
    let same : c ≡ completion_of kind cid = cc in
    ap (λ (d : Completion). d.cid ∷ w) (sym same)
oldest true [] kind c is = cc
oldest false w kind c is = cc

pub told_once_to_the_oldest : ToldOnceToTheOldest
told_once_to_the_oldest = record {
  once = λ x before kind all told.
      once x.occurrence before kind (stands before all.2) (subst (λ (a : Option Completion). tells a kind ≡ true) all.0 told);
  oldest = λ before kind c all.
      oldest (is_enabled before kind && not (is_owed before kind)) (waits_of before) kind c all.0
      ∙ ap (λ (w : List ℕ). c.cid ∷ w) (sym (left_after (Some c) (completions_since before) (requests_since before)));
  none_waits = λ happened kind all to_tell.
      none_left (completions_since happened) (requests_since happened) ((stands happened all).none_waits kind to_tell);
}
