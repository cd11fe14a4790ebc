-- Connections that have output, or nothing of whose stream can be consumed, through the steps of others.
use Rattle.std.proofs.Common.{◌≡◌, ◌≢◌, ℕ, ◌+◌, ◌-◌, ◌<◌, ◌≤◌, min, Bool, true, false, ◌||◌, List, [], ◌∷◌, ◌++◌, Option, Some, None, Ok, Err, is_some, refl, sym, ◌∙◌, subst, inl, inr, arith}
use Rattle.std.specs.Prelude.{◌==◌, ◌^◌, if◌then◌else◌}
use Rattle.std.specs.Option.{option_map}
use Rattle.std.proofs.lemmas.Bool.{cases_eq, cases_lt}
use Rattle.std.specs.Int.{from_bool}
use Rattle.std.proofs.lemmas.Bool.Decides.{nat_tests}
use Rattle.event_queue.specs.declared.completion.Completion.{Completion}
use Rattle.tables.specs.NumberTable.{place}
use Rattle.pdu_cut.specs.declared.side.Side.TheVariants.{Target}
use Rattle.pdu_cut.specs.Front.{front}
use Rattle.target_core.specs.declared.fault.StepFault.TheVariants as step_fault
use Rattle.target_core.specs.declared.fault.Stepped.TheVariants.{Idle}
use Rattle.target_core.specs.Connection.{KnownConnection}
use Rattle.target_core.specs.Transition.{StepsAt, known_moved, stream_moved}
use Rattle.target_core.specs.Target.{TargetState, is_incomplete, meets, output_at}
use Rattle.target_decision.specs.declared.session.Session.{Session}
use Rattle.target_decision.specs.declared.session.Session.TheVariants as session
use Rattle.target_decision.specs.Session.{is_ended}
use Rattle.target_decision.specs.Tell.{completed_in}
use Rattle.target_history.specs.EndCause.{ends_by}
use Rattle.target_history.specs.Event.{Event, stepped, steps}
use Rattle.target_history.specs.Occurrence.{Occurrence, cause_of, completed_by, ends_live, sends, telling}
use Rattle.nvt_serve.specs.Looks.{AreReady, LastsAt, Rests, RestsAt}
use Rattle.nvt_serve.specs.Served.{IsQuiet, IsQuietAt, has_bytes, is_quiet}
use Rattle.nvt_serve.specs.Sets.{IsFirst, is_in}
use Rattle.nvt_serve.specs.Stepping.{GoesBySteps, StepsOut}
use Rattle.target_core.specs.Agreement.{front_of}
use Rattle.target_core.specs.Marks.{SameKnown}
use Rattle.target_core.specs.Steps.{Steps}

-- ---- a connection that steps

no_output : (bytes : List ℕ) → (bytes ≡ [] → ⊥) → has_bytes bytes ≡ true
no_output [] not = absurd (not refl)
no_output (b ∷ bytes) not = refl

pub quiet_with_output : (t : TargetState) (k : ℕ) → output_at (place t.connections k) ≢ [] → IsQuietAt t k
quiet_with_output t k some = by (place t.streams k) (place t.connections k) some where
  by : (s : Option (List ℕ)) (o : Option KnownConnection) → output_at o ≢ [] → is_quiet s o ≡ true
  by None o some = refl
  by (Some held) None some = refl
  by (Some held) (Some c) some = rw (no_output c.output some) refl

pub or_true : (b : Bool) → (b || true) ≡ true
or_true true = refl
or_true false = refl

pub quiet_idle : (old new : TargetState) (k : ℕ) → StepsAt k (place old.streams k) (place old.connections k) old (Ok Idle) new → IsQuietAt old k
quiet_idle old new k h = by (place old.streams k) (place old.connections k) h where
  by : (s : Option (List ℕ)) (o : Option KnownConnection) → StepsAt k s o old (Ok Idle) new → is_quiet s o ≡ true
  by None o h = refl
  by (Some held) None h = refl
  by (Some held) (Some c) h = rw h.0 (or_true (has_bytes c.output))

pub quiet_none : (old new : TargetState) (k : ℕ) → StepsAt k (place old.streams k) (place old.connections k) old (Err step_fault.NoConn) new → IsQuietAt old k
quiet_none old new k h = by (place old.streams k) (place old.connections k) h where
  by : (s : Option (List ℕ)) (o : Option KnownConnection) → StepsAt k s o old (Err step_fault.NoConn) new → is_quiet s o ≡ true
  by None o h = refl
  by (Some held) None h = refl
  by (Some held) (Some c) h = let fault = h.0 in cc

pub quiet_unknown : (t : TargetState) (k : ℕ) → is_some (place t.connections k) ≡ false → IsQuietAt t k
quiet_unknown t k none = by (place t.streams k) (place t.connections k) none where
  by : (s : Option (List ℕ)) (o : Option KnownConnection) → is_some o ≡ false → is_quiet s o ≡ true
  by None o none = refl
  by (Some held) None none = refl
  by (Some held) (Some c) none = cc

-- ---- one beside it

ended_stays : (s : Session) (cs : List Completion) → is_ended s ≡ true → is_ended (completed_in s cs) ≡ true
ended_stays s [] ended = ended
ended_stays session.Opened (c ∷ cs) ended = cc
ended_stays session.Initialized (c ∷ cs) ended = cc
ended_stays (session.Connected role queue) (c ∷ cs) ended = cc
ended_stays session.Ended (c ∷ cs) ended = ended_stays session.Ended cs refl

ended_if : (over : Bool) (s : Session) → is_ended s ≡ true → is_ended (if over then session.Ended else s) ≡ true
ended_if true s ended = refl
ended_if false s ended = ended

-- one that has ended stays so, where nothing is decided of it
pub ended_moved : (x : Occurrence) (k : ℕ) (c : KnownConnection) → steps x.event k ≡ false → is_ended c.state.session ≡ true
    → is_ended (known_moved x k c).state.session ≡ true
ended_moved x k c other ended = rw other
    (ended_if (ends_by (cause_of x) (ends_live x) c.state) _ (ended_stays c.state.session (completed_by (telling x c.state) c.state.notices) ended))

bytes_more : (a b : List ℕ) → has_bytes a ≡ true → has_bytes (a ++ b) ≡ true
bytes_more [] b h = cc
bytes_more (x ∷ a) b h = refl

either : (bytes ended here more over : Bool) → (bytes ≡ true → more ≡ true) → (ended ≡ true → over ≡ true)
    → (bytes || (ended || here)) ≡ true → (more || (over || here)) ≡ true
either true ended here more over f g h = rw (f refl) refl
either false true here more over f g h = rw (g refl) (or_true more)
either false false here more over f g h = rw h (rw (or_true over) (or_true more))

quiet_moved : (x : Occurrence) (k : ℕ) (s : Option (List ℕ)) (o : Option KnownConnection) → steps x.event k ≡ false
    → is_quiet s o ≡ true → is_quiet s (option_map (known_moved x k) o) ≡ true
quiet_moved x k None o other quiet = refl
quiet_moved x k (Some held) None other quiet = refl
quiet_moved x k (Some held) (Some c) other quiet =
    either (has_bytes c.output) (is_ended c.state.session) (is_incomplete (front Target held)) (has_bytes (c.output ++ sends x k))
    (is_ended (known_moved x k c).state.session) (bytes_more c.output (sends x k)) (ended_moved x k c other) quiet

pub stream_stays : (event : Event) (k : ℕ) (s : Option (List ℕ)) → steps event k ≡ false → option_map (stream_moved event k) s ≡ s
stream_stays event k None other = refl
stream_stays event k (Some held) other = rw other refl

pub quiet_beside : (old new : TargetState) (k j : ℕ) → Steps k old new → j ≢ k → IsQuietAt old j → IsQuietAt new j
quiet_beside old new k j step differs quiet =
    let event = stepped k (front_of (place old.streams k)) step.disk_outcome in
    let other : (j == k) ≡ false = grind (arith, nat_tests) in
    let stream = step.transition.stream j ∙ stream_stays event j (place old.streams j) other in
    rw (stream, step.transition.connection j) (quiet_moved (meets old event) j (place old.streams j) (place old.connections j) other quiet)

-- ---- what is left once one has stepped out

idle_same : (k : ℕ) (s : Option (List ℕ)) (o : Option KnownConnection) (old new : TargetState) → StepsAt k s o old (Ok Idle) new → new ≡ old
idle_same k None o old new h = h.1
idle_same k (Some held) None old new h = h.1
idle_same k (Some held) (Some c) old new h = h.1

pub out_idle : (k : ℕ) (first old new : TargetState) → StepsAt k (place old.streams k) (place old.connections k) old (Ok Idle) new
    → GoesBySteps first old → SameKnown first old → ((j : ℕ) → j ≢ k → IsQuietAt first j → IsQuietAt old j)
    → ((j : ℕ) → j ≢ k → LastsAt j first old) → StepsOut k false first new
out_idle k first old new h goes known others lasts =
    subst (λ (t : TargetState). StepsOut k false first t) (sym (idle_same k (place old.streams k) (place old.connections k) old new h))
    (record { goes = goes; known = known; quiet = λ same. quiet_idle old new k h; others = others; lasts = lasts })

-- ---- connections that step one after the other

none_wants : (m n sum : ℕ) (wants : Bool) → n ≡ from_bool wants → sum ≡ min (m + n) (2 ^ 64 - 1) → sum ≡ 0 → (m ≡ 0) × (wants ≡ false)
none_wants m n sum true is adds none = absurd (omega (arith, is, adds, none))
none_wants m n sum false is adds none = (omega (arith, is, adds, none), refl)

quiet_at_rest : (s : Option (List ℕ)) (o : Option KnownConnection) → RestsAt s o → is_quiet s o ≡ true
quiet_at_rest None o rests = refl
quiet_at_rest (Some held) None rests = refl
quiet_at_rest (Some held) (Some c) rests = rw rests.idle (or_true (has_bytes c.output))

pub quiet_resting : (t : TargetState) (k : ℕ) → Rests t k → IsQuietAt t k
quiet_resting t k rests = quiet_at_rest (place t.streams k) (place t.connections k) rests

-- one more has stepped out, the next of those that may have something to step, and so many wanted memory
pub quiet_more : (least k : ℕ) (old new : TargetState) (wants : Bool) (m n sum ready : ℕ) → StepsOut k wants old new → n ≡ from_bool wants
    → sum ≡ min (m + n) (2 ^ 64 - 1) → IsFirst least k ready → AreReady ready old → (m ≡ 0 → (j : ℕ) → j < least → IsQuietAt old j)
    → sum ≡ 0 → (j : ℕ) → j < k + 1 → IsQuietAt new j
quiet_more least k old new wants m n sum ready steps is adds first are before none j below =
    let neither = none_wants m n sum wants is adds none in
    elim (cases_eq j k) [
      | inl same ↦ subst (λ (i : ℕ). IsQuietAt new i) (sym same) (steps.quiet neither.1)
      | inr differs ↦ steps.others j differs (elim (cases_lt j least) [
        | inl passed ↦ before neither.0 j passed
        | inr past ↦ quiet_resting old j (are j (first.none j past (omega (arith, below, differs))))
      ])
    ]

-- none is left
pub quiet_all : (least ready : ℕ) (t : TargetState) → ((k : ℕ) → least ≤ k → is_in ready k ≡ false) → AreReady ready t
    → ((j : ℕ) → j < least → IsQuietAt t j) → IsQuiet t
quiet_all least ready t none are before = λ j.
    elim (cases_lt j least) [
      | inl passed ↦ before j passed
      | inr past ↦ quiet_resting t j (are j (none j past))
    ]
