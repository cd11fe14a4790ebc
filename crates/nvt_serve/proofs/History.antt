-- What deeds add to the history of a target.
use Rattle.std.proofs.Common.{◌≡◌, ℕ, Bool, true, false, List, [], ◌∷◌, ◌++◌, length, take, Option, Some, None, Result, Ok, Err, MatchOption, MatchResult, is_some, min, refl, sym, ap, ◌∙◌, subst, append-nil, arith}
use Rattle.std.specs.Prelude.{◌==◌, if◌then◌else◌}
use Rattle.std.proofs.Math.Path.{fun_ext}
use Rattle.std.proofs.Math.Seq.{take-append_seam}
use Rattle.std.proofs.lemmas.List.{take_all}
use Rattle.tables.specs.NumberTable.{place}
use Rattle.nvt_serve.specs.Deed as deed
use Rattle.nvt_serve.specs.Deed.{AreReceived, Deed, Does, Runs, Serving}
use Rattle.nvt_serve.specs.History.{DeedsArePossible, DeedsHaveMoments, ServedTargetsAgree, event_of, events_after, received_after, received_with, taken_after, taken_with, with_event}
use Rattle.target_core.specs.declared.fault.NoConn.{NoConn}
use Rattle.target_core.specs.Agreement.{Agrees, AgreesStill, AgreesWithReceived, AgreesWithTaken, ReceiveAgrees, extended, left}
use Rattle.target_core.specs.Connection.{KnownConnection}
use Rattle.target_core.specs.Target.{ReceivesAt, TargetState, is_ended_at, output_at, room_of}
use Rattle.target_core.proofs.Agreements.{same_agrees, transition_agrees}
use Rattle.target_core.proofs.Calls.{receive_agrees, taken_keeps}
use Rattle.target_history.specs.Event as event
use Rattle.target_history.specs.Event.{Event}
use Rattle.target_history.specs.History.{Opening, happened, is_known}
use Rattle.nvt_serve.specs.Served.{AreTied}
use Rattle.nvt_serve.proofs.Tying.{does_keep}
use Rattle.target_core.specs.Possible.{IsPossible}
use Rattle.target_core.proofs.Possibly.{edit_may, known_agrees, open_may, step_may}

-- ---- nothing more on a connection

no_more : (f : ℕ → List ℕ) (k : ℕ) → extended f k [] ≡ f
no_more f k = fun_ext (λ j. here j (j == k)) where
  here : (j : ℕ) (same : Bool) → (if same then f j ++ [] else f j) ≡ f j
  here j true = append-nil (f j)
  here j false = refl

receive_keeps_at : (old new : TargetState) (k : ℕ) (s : Option (List ℕ)) (o : Option KnownConnection) (piece : List ℕ) (result : Result ℕ NoConn)
    → place old.streams k ≡ s → ReceivesAt k s o old piece result new → ReceiveAgrees k piece old result new
receive_keeps_at old new k None o piece (Ok n) known h = cc
receive_keeps_at old new k None o piece (Err fault) known h = same_agrees old new h.1
receive_keeps_at old new k (Some held) None piece (Ok n) known h = cc
receive_keeps_at old new k (Some held) None piece (Err fault) known h = same_agrees old new h.1
receive_keeps_at old new k (Some held) (Some c) piece result known h =
    rw h.0 (receive_agrees old new k held (take (min (room_of held c) (length piece)) piece) known h.1)

receive_keeps : (old new : TargetState) (k : ℕ) (piece : List ℕ) (result : Result ℕ NoConn)
    → ReceivesAt k (place old.streams k) (place old.connections k) old piece result new → ReceiveAgrees k piece old result new
receive_keeps old new k piece result h =
    receive_keeps_at old new k (place old.streams k) (place old.connections k) piece result refl h

received_agrees : (old new : TargetState) (k : ℕ) (bytes : List ℕ) (result : Result ℕ NoConn) → AreReceived result bytes
    → MatchResult result (λ n. AgreesWithReceived k (take n bytes) old new) (λ fault. AgreesStill old new) → AgreesWithReceived k bytes old new
received_agrees old new k bytes (Ok n) all agrees =
    subst (λ (piece : List ℕ). AgreesWithReceived k piece old new) (take_all n bytes (omega (arith, all))) agrees
received_agrees old new k bytes (Err fault) all agrees = record {
  keeps = λ disks events received taken before.
      subst (λ (piece : List ℕ). Agrees new disks events (extended received k piece) taken) (sym all)
      (subst (λ (f : ℕ → List ℕ). Agrees new disks events f taken) (sym (no_more received k)) (agrees.keeps disks events received taken before));
}

taken_agrees : (old new : TargetState) (k : ℕ) (o : Option KnownConnection) (bytes rest : List ℕ) → output_at o ≡ bytes ++ rest
    → MatchOption o (AgreesStill old new) (λ c. AgreesWithTaken k (take (length bytes) c.output) old new) → AgreesWithTaken k bytes old new
taken_agrees old new k (Some c) bytes rest output agrees =
    subst (λ (piece : List ℕ). AgreesWithTaken k piece old new)
    (ap (take (length bytes)) output ∙ take-append_seam bytes rest) agrees
taken_agrees old new k None [] rest output agrees = record {
  keeps = λ disks events received taken before.
      subst (λ (f : ℕ → List ℕ). Agrees new disks events received f) (sym (no_more taken k)) (agrees.keeps disks events received taken before);
}
taken_agrees old new k None (b ∷ bytes) rest output agrees = cc

-- ---- each deed

module _ (disks : Opening) (events : List Event) (received taken : ℕ → List ℕ) where
  moved : (e : Event) (old new : Serving) → deed.Happens e old new → Agrees old.target disks events received taken
      → Agrees new.target disks (e ∷ events) (left e received) (left e taken)
  moved e old new h agrees = (transition_agrees e old.target new.target h.transition).keeps disks events received taken agrees

  stays : (old new : Serving) → deed.Stays old new → Agrees old.target disks events received taken → Agrees new.target disks events received taken
  stays old new h agrees = (same_agrees old.target new.target h.target).keeps disks events received taken agrees

  does_agree : (d : Deed) (old new : Serving) → Does d old new → Agrees old.target disks events received taken
      → Agrees new.target disks (with_event (event_of d) events) (received_with d received) (taken_with d taken)
  does_agree (deed.clock_set ms) old new h agrees = moved (event.ticked ms) old new h.target agrees
  does_agree (deed.connected slot port k) old new h agrees =
      (transition_agrees (event.opened port k) old.target new.target h.target.transition).keeps disks events received taken agrees
  does_agree (deed.refused slot port fault) old new h agrees = stays old new h.target.stays agrees
  does_agree (deed.received slot k bytes) old new h agrees =
      (received_agrees old.target new.target k bytes h.target.result h.target.all
      (receive_keeps old.target new.target k bytes h.target.result h.target.receives)).keeps disks events received taken agrees
  does_agree (deed.received_by_none slot bytes) old new h agrees = stays old new h.target.1 agrees
  does_agree (deed.gone slot k) old new h agrees =
      (transition_agrees (event.given_up k) old.target new.target h.target.transition).keeps disks events received taken agrees
  does_agree (deed.gone_from_none slot) old new h agrees = stays old new h.target.1 agrees
  does_agree (deed.edit_made line edit) old new h agrees = moved (event.edited edit) old new h.target.happens agrees
  does_agree (deed.edit_refused line why) old new h agrees = stays old new h.target.1 agrees
  does_agree deed.nothing_came old new h agrees = stays old new h.target agrees
  does_agree (deed.stepped_on k found m) old new h agrees = moved (event.stepped k found m) old new h.target.happens agrees
  does_agree (deed.sent slot k bytes) old new h agrees =
      (taken_agrees old.target new.target k (place old.target.connections k) bytes h.target.rest h.target.output
      (taken_keeps old.target new.target k (length bytes) h.target.taken)).keeps disks events received taken agrees
  does_agree (deed.failed slot k) old new h agrees =
      (transition_agrees (event.given_up k) old.target new.target h.target.transition).keeps disks events received taken agrees
  does_agree (deed.closed slot k) old new h agrees =
      (transition_agrees (event.given_up k) old.target new.target h.target.transition).keeps disks events received taken agrees

runs_agree : (deeds : List Deed) (old new : Serving) → Runs deeds old new
    → (disks : Opening) (events : List Event) (received taken : ℕ → List ℕ) → Agrees old.target disks events received taken
    → Agrees new.target disks (events_after deeds events) (received_after deeds received) (taken_after deeds taken)
runs_agree [] old new same disks events received taken agrees =
    subst (λ (s : Serving). Agrees s.target disks events received taken) (sym same) agrees
runs_agree (d ∷ deeds) old new h disks events received taken agrees =
    runs_agree deeds h.0 new h.2 disks (with_event (event_of d) events) (received_with d received) (taken_with d taken)
    (does_agree disks events received taken d old h.0 h.1 agrees)

pub served_targets_agree : ServedTargetsAgree
served_targets_agree = record { agrees = runs_agree }

-- ---- events that a target does not refuse

ended_known : (o : Option KnownConnection) → is_ended_at o ≡ true → is_some o ≡ true
ended_known None h = cc
ended_known (Some c) h = refl

module _ (disks : Opening) (events : List Event) (received taken : ℕ → List ℕ) where
  given_up_may : (s : Serving) (k : ℕ) → is_some (place s.target.connections k) ≡ true → Agrees s.target disks events received taken
      → is_known (happened disks events) k ≡ true
  given_up_may s k known agrees = known_agrees s.target disks (happened disks events) received taken k agrees ∙ known

  deed_may : (d : Deed) (old new : Serving) → Does d old new → AreTied old → Agrees old.target disks events received taken → IsPossible disks events
      → IsPossible disks (with_event (event_of d) events)
  deed_may (deed.clock_set ms) old new h are agrees before = (tt, before)
  deed_may (deed.connected slot port k) old new h are agrees before =
      (open_may old.target disks (happened disks events) received taken port k agrees h.target.within h.target.accepted h.target.free, before)
  deed_may (deed.refused slot port fault) old new h are agrees before = before
  deed_may (deed.received slot k bytes) old new h are agrees before = before
  deed_may (deed.received_by_none slot bytes) old new h are agrees before = before
  deed_may (deed.gone slot k) old new h are agrees before = (given_up_may old k (are.known slot k h.target.tied) agrees, before)
  deed_may (deed.gone_from_none slot) old new h are agrees before = before
  deed_may (deed.edit_made line edit) old new h are agrees before =
      (edit_may old.target disks (happened disks events) received taken edit new.target.config agrees h.target.accepted, before)
  deed_may (deed.edit_refused line why) old new h are agrees before = before
  deed_may deed.nothing_came old new h are agrees before = before
  deed_may (deed.stepped_on k found m) old new h are agrees before =
      (step_may old.target disks events received taken k found agrees h.target.busy h.target.happens.transition.stands, before)
  deed_may (deed.sent slot k bytes) old new h are agrees before = before
  deed_may (deed.failed slot k) old new h are agrees before = (given_up_may old k (are.known slot k h.target.tied) agrees, before)
  deed_may (deed.closed slot k) old new h are agrees before =
      (given_up_may old k (ended_known (place old.target.connections k) h.target.ended) agrees, before)

deeds_may : (deeds : List Deed) (old new : Serving) → Runs deeds old new → AreTied old
    → (disks : Opening) (events : List Event) (received taken : ℕ → List ℕ) → Agrees old.target disks events received taken
    → IsPossible disks events → IsPossible disks (events_after deeds events)
deeds_may [] old new same are disks events received taken agrees before = before
deeds_may (d ∷ deeds) old new h are disks events received taken agrees before =
    deeds_may deeds h.0 new h.2 (does_keep d old h.0 h.1 are) disks (with_event (event_of d) events) (received_with d received) (taken_with d taken)
    (does_agree disks events received taken d old h.0 h.1 agrees) (deed_may disks events received taken d old h.0 h.1 are agrees before)

pub deeds_are_possible : DeedsArePossible
deeds_are_possible = record { possible = deeds_may }

-- ---- moments

moments : (first rest : List Deed) (old new : Serving) → Runs (first ++ rest) old new → (mid : Serving) × Runs first old mid × Runs rest mid new
moments [] rest old new h = (old, refl, h)
moments (d ∷ first) rest old new h =
    let later = moments first rest h.0 new h.2 in
    (later.0, (h.0, h.1, later.1), later.2)

pub deeds_have_moments : DeedsHaveMoments
deeds_have_moments = record { moment = moments }
