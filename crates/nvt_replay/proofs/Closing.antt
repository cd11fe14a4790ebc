-- A connection that has ended and is given up: nothing else changes.
use Rattle.std.proofs.Common.{◌≡◌, ℕ, Bool, true, false, ◌&&◌, [], Option, Some, None, refl, sym, ap, ◌∙◌, subst, arith}
use Rattle.std.specs.Prelude.{◌==◌, MatchOption, if◌then◌else◌}
use Rattle.std.specs.Option.{option_map}
use Rattle.std.proofs.lemmas.Bool.{eqb-true}
use Rattle.std.proofs.lemmas.Bool.Decides.{nat_tests}
use Rattle.io_queue.specs.Execution.{contents_at}
use Rattle.data_transfer.specs.Parts.{part_at}
use Rattle.tables.specs.NumberTable.{place}
use Rattle.tables.proofs.NumberTables.{place-with_value_held}
use Rattle.target_state.proofs.Staying.{nothing_goes, nothing_gone, nothing_leaves}
use Rattle.target_core.specs.Connection.{KnownConnection, ends_known, settled}
use Rattle.target_core.specs.Transition.{Transition, known_moved}
use Rattle.target_core.specs.Target.{TargetState, is_ended_at, meets, with_connection}
use Rattle.target_core.proofs.Moving.{part_at-silent, silent_at, stream_stays}
use Rattle.target_core.proofs.Settling.{nothing_drops, same_at}
use Rattle.target_decision.specs.declared.session.Session.{Session}
use Rattle.target_decision.specs.declared.session.Session.TheVariants as session
use Rattle.target_decision.specs.Session.{is_ended}
use Rattle.target_history.specs.declared.end_cause.EndCause.{EndCause}
use Rattle.target_history.specs.declared.end_cause.EndCause.TheVariants as cause
use Rattle.target_history.specs.EndCause.{cause_lost, ends_controller}
use Rattle.target_history.specs.Event.{given_up}
use Rattle.target_history.specs.Occurrence.{Occurrence, cause_of, ends_live, parts_after, row_kept}
use Rattle.nvt_replay.specs.Played.{ArePrinted, TakesOutput, printed_out}

-- connection k is given up, and nothing else changes
record OnlyGone (k : ℕ) (old new : TargetState) : Type 0 where
  config : new.config ≡ old.config
  clock : new.clock ≡ old.clock
  shown : new.shown ≡ old.shown
  formed : new.formed ≡ old.formed
  connection : (j : ℕ) → place new.connections j ≡ (if j == k then None else place old.connections j)
  stream : (j : ℕ) → place new.streams j ≡ (if j == k then None else place old.streams j)
  part : (j t : ℕ) → part_at new.transfers j t ≡ (if j == k then None else part_at old.transfers j t)
  row : (n : ℕ) → place new.rows n ≡ place old.rows n
  controller : (n : ℕ) → place new.controllers n ≡ place old.controllers n
  blocks : (d : ℕ) → contents_at new.disks d ≡ contents_at old.disks d

nothing_lost : (s : Session) → is_ended s ≡ true → cause_lost s ≡ cause.Nothing
nothing_lost session.Opened ended = cc
nothing_lost session.Initialized ended = cc
nothing_lost (session.Connected role queue) ended = cc
nothing_lost session.Ended ended = refl

only_gone : (k : ℕ) (c : KnownConnection) (old new : TargetState) → place old.connections k ≡ Some c → is_ended c.state.session ≡ true
    → Transition (given_up k) old new → OnlyGone k old new
only_gone k c old new known ended transition = record {
  config = transition.config;
  clock = transition.clock;
  shown = transition.shown;
  formed = transition.formed;
  connection = λ j. transition.connection j ∙ here j (j == k);
  stream = λ j. transition.stream j ∙ stream_here j (j == k);
  part = λ j t. transition.part j t ∙ part_here j t (j == k) refl;
  row = λ n. transition.row n
      ∙ ap (λ (e : EndCause). if ends_live x n then None else option_map (row_kept e n) (place old.rows n)) nothing
      ∙ sym (nothing_leaves (ends_live x n) n (place old.rows n) (none n));
  controller = λ n. transition.controller n ∙ sym (nothing_goes (ends_live x n) (place old.controllers n) (none n));
  blocks = transition.blocks;
} where
  x : Occurrence
  x = meets old (given_up k)

  nothing : cause_of (meets old (given_up k)) ≡ cause.Nothing
  nothing = rw known (nothing_lost c.state.session ended)

  none : (n : ℕ) → ends_live (meets old (given_up k)) n ≡ false
  none n =
      ap (λ (e : EndCause). ends_controller e old.config n (place old.rows n) (place old.controllers n)) nothing
      ∙ nothing_gone old.config n (place old.rows n) (place old.controllers n)

  here : (j : ℕ) (same : Bool) → (if same then None else option_map (known_moved (meets old (given_up k)) j) (place old.connections j))
      ≡ (if same then None else place old.connections j)
  here j true = refl
  here j false =
      sym (silent_at (meets old (given_up k)) j (place old.connections j) refl refl refl)
      ∙ ap (λ (e : EndCause). option_map (settled e (ends_live (meets old (given_up k)))) (place old.connections j)) nothing
      ∙ same_at (ends_live (meets old (given_up k))) none (place old.connections j)

  stream_here : (j : ℕ) (same : Bool) → (if same then None else option_map (λ held. held) (place old.streams j))
      ≡ (if same then None else place old.streams j)
  stream_here j true = refl
  stream_here j false = sym (stream_stays (place old.streams j))

  part_here : (j t : ℕ) (same : Bool) → (j == k) ≡ same
      → parts_after (meets old (given_up k)) j (part_at old.transfers j) t ≡ (if same then None else part_at old.transfers j t)
  part_here j t true same = rw same refl
  part_here j t false same =
      sym (part_at-silent (meets old (given_up k)) j (place old.connections j) (part_at old.transfers j) t refl refl refl same)
      ∙ ap (λ (e : EndCause). if ends_known e (ends_live (meets old (given_up k))) (place old.connections j) then None else part_at old.transfers j t) nothing
      ∙ sym (nothing_drops (ends_live (meets old (given_up k))) none (place old.connections j) (part_at old.transfers j t))

-- ---- the output of it was taken before

gone_at : (same : Bool) (c after : KnownConnection) (o m : Option KnownConnection) → (same ≡ true → o ≡ Some c) → is_ended c.state.session ≡ true
    → m ≡ (if same then Some after else o) → (if same then None else m) ≡ (if same then printed_out o else o)
gone_at true c after o m known ended was = let is = known refl in rw (is, ended) refl
gone_at false c after o m known ended was = was

gone_stream : {A : Type 0} (same ended : Bool) (s : Option A) → (same ≡ true → ended ≡ true)
    → (if same then None else s) ≡ (if same && ended then None else s)
gone_stream true ended s is = rw (is refl) refl
gone_stream false ended s is = refl

closed_after : (k : ℕ) (c : KnownConnection) (old new : TargetState) → place old.connections k ≡ Some c → is_ended c.state.session ≡ true
    → Transition (given_up k) (with_connection old k (record { state = c.state; output = [] })) new → ArePrinted (λ j. j == k) old new
closed_after k c old new known ended transition =
    let after : KnownConnection = record { state = c.state; output = [] } in
    let taken = λ (j : ℕ). place-with_value_held old.connections k after j c known in
    let same : (k == k) ≡ true = grind (arith, nat_tests) in
    let there : place (with_connection old k after).connections k ≡ Some after =
    taken k ∙ ap (λ (b : Bool). if b then Some after else place old.connections k) same in
    let gone = only_gone k after (with_connection old k after) new there ended transition in
    let known_at = λ (j : ℕ) (is : (j == k) ≡ true). ap (place old.connections) (eqb-true j k is) ∙ known in
    record {
      config = gone.config;
      clock = gone.clock;
      shown = gone.shown;
      formed = gone.formed;
      connection = λ j. gone.connection j
          ∙ gone_at (j == k) c after (place old.connections j) (place (with_connection old k after).connections j) (known_at j) ended (taken j);
      stream = λ j. gone.stream j
          ∙ gone_stream (j == k) (is_ended_at (place old.connections j)) (place old.streams j) (λ is. ap is_ended_at (known_at j is) ∙ ended);
      part = λ j t. gone.part j t
          ∙ gone_stream (j == k) (is_ended_at (place old.connections j)) (part_at old.transfers j t) (λ is. ap is_ended_at (known_at j is) ∙ ended);
      row = gone.row;
      controller = gone.controller;
      blocks = gone.blocks;
    }

closed_at : (k : ℕ) (o : Option KnownConnection) (old mid new : TargetState) → place old.connections k ≡ o → TakesOutput k o old mid → is_ended_at o ≡ true
    → MatchOption (place mid.connections k) (new ≡ mid) (λ c. Transition (given_up k) mid new) → ArePrinted (λ j. j == k) old new
closed_at k None old mid new known takes ended ends = cc
closed_at k (Some c) old mid new known takes ended ends =
    let after : KnownConnection = record { state = c.state; output = [] } in
    let same : (k == k) ≡ true = grind (arith, nat_tests) in
    let there : place (with_connection old k after).connections k ≡ Some after =
    place-with_value_held old.connections k after k c known ∙ ap (λ (b : Bool). if b then Some after else place old.connections k) same in
    closed_after k c old new known ended
    (subst (λ (t : TargetState). Transition (given_up k) t new) takes
    (subst (λ (o : Option KnownConnection). MatchOption o (new ≡ mid) (λ d. Transition (given_up k) mid new))
    (ap (λ (t : TargetState). place t.connections k) takes ∙ there) ends))

-- the lines of a connection that has ended are printed, and it is given up
pub closed_left : (k : ℕ) (old mid new : TargetState) → TakesOutput k (place old.connections k) old mid → is_ended_at (place old.connections k) ≡ true
    → MatchOption (place mid.connections k) (new ≡ mid) (λ c. Transition (given_up k) mid new) → ArePrinted (λ j. j == k) old new
closed_left k old mid new takes ended ends = closed_at k (place old.connections k) old mid new refl takes ended ends
