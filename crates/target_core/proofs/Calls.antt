-- Each call keeps the agreement: from the exact clauses of a call to what its answer says.
use Rattle.std.proofs.Common.{◌≡◌, ℕ, Bool, true, false, ◌&&◌, List, ◌++◌, take, drop, Option, Some, None, MatchOption, refl, sym, ap, subst, ◌∙◌, append_assoc, take-append-drop}
use Rattle.std.specs.Prelude.{if◌then◌else◌, ◌==◌}
use Rattle.std.specs.Option.{option_map}
use Rattle.std.proofs.lemmas.Bool.{eqb-true}
use Rattle.tables.specs.NumberTable.{place}
use Rattle.tables.proofs.NumberTables.{place_within, place-with_value}
use Rattle.pdu_cut.specs.declared.side.Side.TheVariants.{Target}
use Rattle.pdu_cut.specs.Front.{Front, incomplete, whole, faulty, front}
use Rattle.pdu_cut.specs.Pdu.{Pdu}
use Rattle.pdu_cut.proofs.Fronts.{front_faulty-append}
use Rattle.pdu_cut.proofs.Streams.{begins_with-append}
use Rattle.target_core.specs.declared.fault.Stepped.{Stepped}
use Rattle.target_core.specs.declared.fault.Stepped.TheVariants.{Idle, One, Ended}
use Rattle.target_core.specs.Agreement.{AgreesAfterStep, AgreesByStep, AgreesStill, AgreesWithReceived, AgreesWithTaken, EndedAgrees, OutputAgrees, StandsAt, StreamAgrees, TakenAgrees}
use Rattle.target_core.specs.Connection.{KnownConnection}
use Rattle.target_core.specs.Transition.{StepsBy, StepsOn}
use Rattle.target_core.specs.Target.{TakenAt, TargetState, is_ended_at, with_connection, with_stream}
use Rattle.target_decision.specs.declared.session.ConnectionState.{ConnectionState}
use Rattle.target_decision.specs.declared.session.Session.TheVariants as session
use Rattle.target_decision.specs.Session.{is_ended}
use Rattle.target_history.specs.Event.{stepped}
use Rattle.target_history.specs.Occurrence.{DisksAct, Occurrence}
use Rattle.target_history.specs.History.{alignment_of, Admission, admission_of, connection_of, happened, has_ended, is_initialized, is_known, last_front, notices_of, pdus_of, port_of, responses_since, sent, session_of, session_with}
use Rattle.target_core.proofs.Agreements.{meets_agree, transition_agrees, same_agrees}

-- ---- events

stepped_agrees : (old new : TargetState) (k : ℕ) (held : List ℕ) (ended : Bool) → StepsOn k held ended old new
    → AgreesAfterStep k (front Target held) old new
stepped_agrees old new k held ended h = record {
  disk_outcome = h.disk_outcome;
  tells = h.did.tells;
  did = λ disks events received taken agrees. subst (λ (x : Occurrence). DisksAct x old.disks new.disks)
      (meets_agree old (stepped k (front Target held) h.disk_outcome) disks (happened disks events) received taken agrees) h.did;
  agrees = transition_agrees (stepped k (front Target held) h.disk_outcome) old new h.transition;
}

pub step_keeps_by : (old new : TargetState) (k : ℕ) (held : List ℕ) (c : KnownConnection) (s : Stepped) → place old.streams k ≡ Some held
    → StepsBy k held c s old new → AgreesByStep k s old new
step_keeps_by old new k held c Idle known h = same_agrees old new h.1
step_keeps_by old new k held c One known h = rw known (stepped_agrees old new k held false h.1)
step_keeps_by old new k held c Ended known h = rw known (stepped_agrees old new k held true h.1)

-- ---- received bytes

stands_at-append : (found : Front) (held bytes : List ℕ) → StandsAt found held → StandsAt found (held ++ bytes)
stands_at-append (whole pdu) held bytes h = tt
stands_at-append incomplete held bytes h = tt
stands_at-append (faulty fault head) held bytes h = front_faulty-append Target held bytes fault head h

received_at : (same : Bool) (held bytes : List ℕ) (o : Option (List ℕ)) (pdus : List Pdu) (last : Front) (received : List ℕ)
    → (same ≡ true → o ≡ Some held) → StreamAgrees o pdus last received
    → StreamAgrees (if same then Some (held ++ bytes) else o) pdus last (if same then received ++ bytes else received)
received_at true held bytes None pdus last received known agrees = let found = known refl in cc
received_at true held bytes (Some other) pdus last received known agrees =
    let found = known refl in
    let same : other ≡ held = cc in
    let here : StreamAgrees (Some held) pdus last received = rw same at agrees in
    (begins_with-append Target received bytes pdus held here.0, stands_at-append last held bytes here.1)
received_at false held bytes o pdus last received known agrees = agrees

pub receive_agrees : (old new : TargetState) (k : ℕ) (held bytes : List ℕ) → place old.streams k ≡ Some held
    → new ≡ with_stream old k (held ++ bytes) → AgreesWithReceived k bytes old new
receive_agrees old new k held bytes known receives =
    let within = place_within old.streams k held known in
    record {
      keeps = λ disks events received taken agrees. rw receives (record {
        config = agrees.config;
        clock = agrees.clock;
        shown = agrees.shown;
        part = agrees.part;
        row = agrees.row;
        controller = agrees.controller;
        connection = agrees.connection;
        stream = λ j. rw (place-with_value old.streams k (held ++ bytes) j within)
            (received_at (j == k) held bytes (place old.streams j) (pdus_of (happened disks events) j) (last_front (happened disks events) j) (received j)
            (λ is. ap (place old.streams) (eqb-true j k is) ∙ known) (agrees.stream j));
        output = agrees.output;
        blocks = agrees.blocks;
        sizes = agrees.sizes;
        named = agrees.named;
      });
    }

-- ---- output that is taken

taken_at : (same : Bool) (c : KnownConnection) (n : ℕ) (o : Option KnownConnection) (sent taken : List ℕ) → (same ≡ true → o ≡ Some c)
    → OutputAgrees o sent taken
    → OutputAgrees (if same then Some (record { state = c.state; output = drop n c.output }) else o) sent
    (if same then taken ++ take n c.output else taken)
taken_at true c n None sent taken known agrees = let found = known refl in cc
taken_at true c n (Some d) sent taken known agrees =
    let found = known refl in
    let same : d ≡ c = cc in
    let here : sent ≡ taken ++ c.output = agrees ∙ ap (λ (x : KnownConnection). taken ++ x.output) same in
    here ∙ ap (λ (x : List ℕ). taken ++ x) (sym (take-append-drop n c.output)) ∙ sym (append_assoc taken (take n c.output) (drop n c.output))
taken_at false c n o sent taken known agrees = agrees

state_stays : (same : Bool) (c : KnownConnection) (n : ℕ) (o : Option KnownConnection) → (same ≡ true → o ≡ Some c)
    → option_map (λ (a : KnownConnection). a.state)
    (if same then Some (record { state = c.state; output = drop n c.output }) else o)
    ≡ option_map (λ (a : KnownConnection). a.state) o
state_stays true c n o known = rw (known refl) refl
state_stays false c n o known = refl

taken_agrees : (old new : TargetState) (k : ℕ) (c : KnownConnection) (n : ℕ) → place old.connections k ≡ Some c
    → new ≡ with_connection old k (record { state = c.state; output = drop n c.output })
    → AgreesWithTaken k (take n c.output) old new
taken_agrees old new k c n known takes =
    let within = place_within old.connections k c known in
    let after : KnownConnection = record { state = c.state; output = drop n c.output } in
    record {
      keeps = λ disks events received taken agrees. rw takes (record {
        config = agrees.config;
        clock = agrees.clock;
        shown = agrees.shown;
        part = agrees.part;
        row = agrees.row;
        controller = agrees.controller;
        connection = λ j. rw (place-with_value old.connections k after j within)
            (state_stays (j == k) c n (place old.connections j) (λ is. ap (place old.connections) (eqb-true j k is) ∙ known)
            ∙ agrees.connection j);
        stream = agrees.stream;
        output = λ j. rw (place-with_value old.connections k after j within)
            (taken_at (j == k) c n (place old.connections j) (sent (happened disks events) j) (taken j)
            (λ is. ap (place old.connections) (eqb-true j k is) ∙ known) (agrees.output j));
        blocks = agrees.blocks;
        sizes = agrees.sizes;
        named = agrees.named;
      });
    }

taken_keeps_at : (old new : TargetState) (k len : ℕ) (o : Option KnownConnection) → place old.connections k ≡ o → TakenAt k o old len new
    → MatchOption o (AgreesStill old new) (λ c. AgreesWithTaken k (take len c.output) old new)
taken_keeps_at old new k len None known h = same_agrees old new h
taken_keeps_at old new k len (Some c) known h = taken_agrees old new k c len known h

pub taken_keeps : (old new : TargetState) (k len : ℕ) → TakenAt k (place old.connections k) old len new → TakenAgrees k len old new
taken_keeps old new k len h = taken_keeps_at old new k len (place old.connections k) refl h

-- ---- whether a connection is ended

lasts_with : (a : Option Admission) (i : Bool) (n : ℕ) → is_ended (session_with a i n) ≡ false
lasts_with None false n = refl
lasts_with None true n = refl
lasts_with (Some a) i n = refl

ended_of : (h : List Occurrence) (k : ℕ) → is_ended (session_of h k) ≡ has_ended h k
ended_of h k = by (has_ended h k) where
  by : (ended : Bool) → is_ended (if ended then session.Ended else
      session_with (admission_of h k) (is_initialized h k) (responses_since h k)) ≡ ended
  by true = refl
  by false = lasts_with (admission_of h k) (is_initialized h k) (responses_since h k)

ended_at : (h : List Occurrence) (k : ℕ) (o : Option KnownConnection)
    → option_map (λ (c : KnownConnection). c.state) o ≡ connection_of h k → is_ended_at o ≡ (is_known h k && has_ended h k)
ended_at h k o agrees = by o (is_known h k) agrees where
  by : (o : Option KnownConnection) (known : Bool)
      → option_map (λ (c : KnownConnection). c.state) o
      ≡ (if known then Some (record { port = port_of h k; session = session_of h k; alignment = alignment_of h k; notices = notices_of h k }) else None)
      → is_ended_at o ≡ (known && has_ended h k)
  by None true agrees = cc
  by None false agrees = refl
  by (Some c) false agrees = cc
  by (Some c) true agrees =
      let same : c.state ≡ record { port = port_of h k; session = session_of h k; alignment = alignment_of h k; notices = notices_of h k } = cc in
      ap (λ (v : ConnectionState). is_ended v.session) same ∙ ended_of h k

pub ended_tells : (t : TargetState) (k : ℕ) (ended : Bool) → ended ≡ is_ended_at (place t.connections k) → EndedAgrees k t ended
ended_tells t k ended h = record {
  tells = λ disks events received taken agrees. h ∙ ended_at (happened disks events) k (place t.connections k) (agrees.connection k);
}
