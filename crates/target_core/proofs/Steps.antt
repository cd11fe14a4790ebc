-- How a connection steps until it is idle.
use Rattle.std.proofs.Common.{◌≡◌, ℕ, suc, ◌<◌, Bool, true, false, List, length, drop, Option, Some, None, is_some, Ok, refl, sym, ap, ◌∙◌, arith, length-drop, true≢false, subst}
use Rattle.std.specs.Prelude.{◌==◌, ◌||◌, if◌then◌else◌}
use Rattle.std.specs.Option.{option_map}
use Rattle.std.proofs.lemmas.Bool.Decides.{nat_tests}
use Rattle.io_queue.specs.Act.{DiskOutcome}
use Rattle.tables.specs.NumberTable.{place}
use Rattle.pdu_cut.specs.declared.side.Side.TheVariants.{Target}
use Rattle.pdu_cut.specs.Front.{Front, incomplete, whole, faulty, front}
use Rattle.pdu_cut.proofs.Fronts.{front_whole}
use Rattle.pdu_cut.proofs.Headers.{eight_within}
use Rattle.target_core.specs.declared.fault.Stepped.TheVariants.{One, Ended}
use Rattle.target_core.specs.Connection.{KnownConnection}
use Rattle.target_core.specs.Transition.{StepsAt, StepsOn, known_moved, stream_moved}
use Rattle.target_core.specs.Target.{TargetState, is_idle, is_incomplete, meets}
use Rattle.target_decision.specs.declared.decision.Decision.{Decision}
use Rattle.target_decision.specs.declared.session.Session.{Session}
use Rattle.target_decision.specs.declared.session.Session.TheVariants as session
use Rattle.target_decision.specs.Decision.{consumed_of, terminate}
use Rattle.target_decision.specs.Session.{is_ended, session_after}
use Rattle.target_history.specs.EndCause.{ends_by}
use Rattle.target_history.specs.Event.{stepped}
use Rattle.target_history.specs.Occurrence.{decided, cause_of, ends_live, session_decided}
use Rattle.target_core.specs.Steps.{Steps, StepsUntilIdle, is_idle_at}

-- what a connection may still consume: nothing once it is ended
abbrev pub left_in : Option (List ℕ) → Option KnownConnection → ℕ
left_in None o = 0
left_in (Some held) None = 0
left_in (Some held) (Some c) = if is_ended c.state.session then 0 else suc (length held)

abbrev pub left_at : TargetState → ℕ → ℕ
left_at t k = left_in (place t.streams k) (place t.connections k)

-- ---- a step that is none

no_step : (k : ℕ) (old new : TargetState) → (is_idle_at (place old.streams k) (place old.connections k) ≡ true) × (new ≡ old) → StepsUntilIdle k old new
no_step k old new h = record { number = 0; steps = h.1; idle = rw h.1 h.0 }

-- a connection that is not known is idle
none_steps : (k : ℕ) (t : TargetState) → place t.connections k ≡ None → StepsUntilIdle k t t
none_steps k t none = no_step k t t (rw none (by (place t.streams k)), refl) where
  by : (s : Option (List ℕ)) → is_idle_at s None ≡ true
  by None = refl
  by (Some held) = refl

none_is : {T : Type 0} (o : Option T) → is_some o ≡ false → o ≡ None
none_is None h = refl
none_is (Some x) h = cc

pub unknown_steps : (k : ℕ) (t : TargetState) → is_some (place t.connections k) ≡ false → StepsUntilIdle k t t
unknown_steps k t not = none_steps k t (none_is (place t.connections k) not)

-- ---- a step

pub steps_more : (k : ℕ) (old mid last : TargetState) → Steps k old mid → StepsUntilIdle k mid last → StepsUntilIdle k old last
steps_more k old mid last first more = record { number = suc more.number; steps = (mid, first, more.steps); idle = more.idle }

abbrev is_whole : Front → Bool
is_whole incomplete = false
is_whole (whole pdu) = true
is_whole (faulty fault head) = false

neither : (a b : Bool) → (a || b) ≡ false → (a ≡ false) × (b ≡ false)
neither true b h = cc
neither false b h = (refl, h)

-- a step that finds a fault ends the connection
decided_end : (t : TargetState) (k : ℕ) (c : KnownConnection) (found : Front) (m : DiskOutcome) → (k == k) ≡ true → place t.connections k ≡ Some c
    → is_ended c.state.session ≡ false → is_whole found ≡ false → is_incomplete found ≡ false
    → (d : Decision) × (decided (meets t (stepped k found m)) k ≡ Some d) × ((s : Session) → is_ended (session_after s d) ≡ true)
decided_end t k c incomplete m same known lasts not here = absurd (true≢false here)
decided_end t k c (whole pdu) m same known lasts not here = absurd (true≢false not)
decided_end t k c (faulty fault head) m same known lasts not here = (terminate fault.fes fault.fei, rw (same, known, lasts) refl, λ s. refl)

ends_there : (by_others : Bool) (s : Session) (o : Option Decision) (d : Decision) → o ≡ Some d
    → ((before : Session) → is_ended (session_after before d) ≡ true)
    → is_ended (if by_others then session.Ended else session_decided s o) ≡ true
ends_there true s o d decides ends = refl
ends_there false s o d decides ends = rw decides (ends s)

faulty_ends : (t : TargetState) (k : ℕ) (c : KnownConnection) (found : Front) (m : DiskOutcome) → (k == k) ≡ true → place t.connections k ≡ Some c
    → is_ended c.state.session ≡ false → is_whole found ≡ false → is_incomplete found ≡ false
    → is_ended (known_moved (meets t (stepped k found m)) k c).state.session ≡ true
faulty_ends t k c found m same known lasts not here =
    let x = meets t (stepped k found m) in
    let d = decided_end t k c found m same known lasts not here in
    ends_there (ends_by (cause_of x) (ends_live x) c.state) c.state.session (decided x k) d.0 d.1 d.2

shorter : (ended : Bool) (len held : ℕ) → len < held → (if ended then 0 else suc len) < suc held
shorter true len held h = omega arith
shorter false len held h = omega arith

none_left : (ended : Bool) (len held : ℕ) → ended ≡ true → (if ended then 0 else suc len) < suc held
none_left true len held h = omega arith
none_left false len held h = cc

-- a step consumes a PDU, or ends the connection
consumes_or_ends : (t : TargetState) (k : ℕ) (held : List ℕ) (c : KnownConnection) (found : Front) (m : DiskOutcome) → (k == k) ≡ true
    → place t.connections k ≡ Some c → is_ended c.state.session ≡ false → is_incomplete found ≡ false → front Target held ≡ found
    → (if is_ended (known_moved (meets t (stepped k found m)) k c).state.session then 0 else suc (length (drop (consumed_of found) held)))
    < suc (length held)
consumes_or_ends t k held c incomplete m same known lasts here stands = absurd (true≢false here)
consumes_or_ends t k held c (whole pdu) m same known lasts here stands =
    let begins = front_whole Target held pdu stands in
    let eight = eight_within Target pdu begins.is_pdu in
    shorter (is_ended (known_moved (meets t (stepped k (whole pdu) m)) k c).state.session) (length (drop (length pdu.bytes) held)) (length held)
    (omega (arith, length-drop (length pdu.bytes) held, eight, begins.within))
consumes_or_ends t k held c (faulty fault head) m same known lasts here stands =
    none_left (is_ended (known_moved (meets t (stepped k (faulty fault head) m)) k c).state.session) (length held) (length held)
    (faulty_ends t k c (faulty fault head) m same known lasts refl refl)

-- a step that is not idle: what it moves, and that less is left
pub record StepsOnce (k : ℕ) (old new : TargetState) : Type 0 where
  pub step : Steps k old new
  pub less : left_at new k < left_at old k

left_is : (t : TargetState) (k : ℕ) (held : List ℕ) (c : KnownConnection) → place t.streams k ≡ Some held → place t.connections k ≡ Some c
    → left_at t k ≡ (if is_ended c.state.session then 0 else suc (length held))
left_is t k held c stream known = rw (stream, known) refl

step_by : (k : ℕ) (held : List ℕ) (c : KnownConnection) (ended : Bool) (old new : TargetState) → place old.streams k ≡ Some held
    → place old.connections k ≡ Some c → is_idle held c ≡ false → StepsOn k held ended old new → StepsOnce k old new
step_by k held c ended old new stream known busy steps =
    let found = front Target held in
    let m = steps.disk_outcome in
    let transition = steps.transition in
    let same : (k == k) ≡ true = grind (arith, nat_tests) in
    let lasts = neither (is_ended c.state.session) (is_incomplete found) busy in
    let after = known_moved (meets old (stepped k found m)) k c in
    let connection : place new.connections k ≡ Some after = transition.connection k ∙ ap (option_map (known_moved (meets old (stepped k found m)) k)) known in
    let held_after : place new.streams k ≡ Some (drop (consumed_of found) held) =
    transition.stream k ∙ ap (option_map (stream_moved (stepped k found m) k)) stream ∙ ap (λ b. Some (if b then drop (consumed_of found) held else held)) same in
    let before : left_at old k ≡ suc (length held) = left_is old k held c stream known ∙ ap (λ b. if b then 0 else suc (length held)) lasts.0 in
    record {
      step = record { busy = rw (stream, known) busy; disk_outcome = m; did = rw stream steps.did; transition = rw stream transition };
      less = subst (λ n. n < left_at old k) (sym (left_is new k (drop (consumed_of found) held) after held_after connection))
          (subst (λ n. (if is_ended after.state.session then 0 else suc (length (drop (consumed_of found) held))) < n) (sym before)
          (consumes_or_ends old k held c found m same known lasts.0 lasts.1 refl));
    }

steps_by : (k : ℕ) (s : Option (List ℕ)) (o : Option KnownConnection) (old new : TargetState) → place old.streams k ≡ s → place old.connections k ≡ o
    → (StepsAt k s o old (Ok One) new → StepsOnce k old new) × (StepsAt k s o old (Ok Ended) new → StepsOnce k old new)
steps_by k None o old new stream known = (λ h. cc, λ h. cc)
steps_by k (Some held) None old new stream known = (λ h. cc, λ h. cc)
steps_by k (Some held) (Some c) old new stream known =
    (λ h. step_by k held c false old new stream known h.0 h.1, λ h. step_by k held c true old new stream known h.0 h.1)

pub one_steps : (k : ℕ) (old new : TargetState) → StepsAt k (place old.streams k) (place old.connections k) old (Ok One) new → StepsOnce k old new
one_steps k old new h = (steps_by k (place old.streams k) (place old.connections k) old new refl refl).0 h

pub ended_steps : (k : ℕ) (old new : TargetState) → StepsAt k (place old.streams k) (place old.connections k) old (Ok Ended) new → StepsOnce k old new
ended_steps k old new h = (steps_by k (place old.streams k) (place old.connections k) old new refl refl).1 h
