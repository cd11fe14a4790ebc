-- Which connections are known, through the calls of a target.
use Rattle.std.proofs.Common.{◌≡◌, ◌≢◌, ◌⊎◌, ℕ, ◌+◌, ◌<◌, ◌≤◌, Bool, true, false, List, length, set, get_or, drop, Option, Some, None, Result, is_some, refl, sym, ap, ◌∙◌, inl, inr, arith}
use Rattle.std.specs.Prelude.{◌==◌, MatchOption, if◌then◌else◌}
use Rattle.std.specs.Option.{option_map}
use Rattle.std.proofs.lemmas.Bool.{cases_eq, cases_lt, eqb-true}
use Rattle.std.proofs.lemmas.Bool.Decides.{nat_tests}
use Rattle.std.proofs.lemmas.List.{get_or_past, get_or-set_other, get_or-set_same}
use Rattle.config_lists.specs.declared.edit.Edit.{Edit}
use Rattle.io_queue.specs.Act.{DiskOutcome}
use Rattle.tables.specs.NumberTable.{place}
use Rattle.tables.proofs.NumberTables.{place-with_value_held, place_past}
use Rattle.pdu_cut.specs.Front.{Front}
use Rattle.target_core.specs.declared.fault.NoConn.{NoConn}
use Rattle.target_core.specs.Connection.{KnownConnection, fresh_on}
use Rattle.target_core.specs.Transition.{Transition, known_moved}
use Rattle.target_core.specs.Target.{ReceivesAt, TakenAt, TargetState, meets}
use Rattle.target_history.specs.Event.{edited, given_up, opened, stepped, ticked}
use Rattle.target_history.specs.Occurrence.{Occurrence}
use Rattle.target_core.specs.Marks.{AreMarks, SameKnown, SetsMark}

-- ---- a mark that is set

set_within : (marks : List Bool) (k : ℕ) (mark : Bool) (j : ℕ) → get_or (set marks k mark) k false ≡ mark
    → get_or (set marks k mark) j false ≡ (if j == k then mark else get_or marks j false)
set_within marks k mark j here =
    elim (cases_eq j k) [
      | inl same ↦
          let equal : (j == k) ≡ true = grind (arith, nat_tests) in
          rw equal (ap (λ i. get_or (set marks k mark) i false) same ∙ here)
      | inr differs ↦
          let unequal : (j == k) ≡ false = grind (arith, nat_tests) in
          rw unequal (get_or-set_other marks k j mark false differs)
    ]

pub adds : (marks : List Bool) (k : ℕ) → k < length marks → SetsMark k true marks (set marks k true)
adds marks k within = λ j. set_within marks k true j (get_or-set_same marks k true false within)

pub removes : (marks : List Bool) (k : ℕ) → k < length marks → SetsMark k false marks (set marks k false)
removes marks k within = λ j. set_within marks k false j (get_or-set_same marks k false false within)

-- one past the end was not set
pub removes_none : (marks : List Bool) (k : ℕ) → length marks ≤ k → SetsMark k false marks marks
removes_none marks k past = λ j.
    elim (cases_eq j k) [
      | inl same ↦
          let equal : (j == k) ≡ true = grind (arith, nat_tests) in
          rw equal (get_or_past marks j false (omega (arith, same)))
      | inr differs ↦
          let unequal : (j == k) ≡ false = grind (arith, nat_tests) in
          rw unequal refl
    ]

-- ---- marks that are made one by one

pub marked_more : (t : TargetState) (marks : List Bool) (k : ℕ) (mark : Bool) → k < length marks → mark ≡ is_some (place t.connections k)
    → ((j : ℕ) → j < k → get_or marks j false ≡ is_some (place t.connections j))
    → (j : ℕ) → j < k + 1 → get_or (set marks k mark) j false ≡ is_some (place t.connections j)
marked_more t marks k mark within is before j below =
    elim (cases_eq j k) [
      | inl same ↦ ap (λ i. get_or (set marks k mark) i false) same ∙ get_or-set_same marks k mark false within ∙ is
          ∙ sym (ap (λ i. is_some (place t.connections i)) same)
      | inr differs ↦ get_or-set_other marks k j mark false differs ∙ before j (omega (arith, below, differs))
    ]

pub all_marked : (t : TargetState) (marks : List Bool) → length marks ≡ 64 → length t.connections ≡ 64
    → ((j : ℕ) → j < 64 → get_or marks j false ≡ is_some (place t.connections j)) → AreMarks marks t
all_marked t marks places most before = λ j.
    elim (cases_lt j 64) [
      | inl within ↦ before j within
      | inr past ↦ get_or_past marks j false (omega (arith, places, past))
          ∙ sym (ap is_some (place_past t.connections j (omega (arith, most, past))))
    ]

-- ---- connections that stay known

pub known_on : (old mid new : TargetState) → SameKnown old mid → SameKnown mid new → SameKnown old new
known_on old mid new first more = λ k. more k ∙ first k

pub marks_stay : (old new : TargetState) (marks : List Bool) → SameKnown old new → AreMarks marks old → AreMarks marks new
marks_stay old new marks same are = λ k. are k ∙ sym (same k)

moved_known : (x : Occurrence) (k : ℕ) (o : Option KnownConnection) → is_some (option_map (known_moved x k) o) ≡ is_some o
moved_known x k None = refl
moved_known x k (Some c) = refl

pub stepped_known : (old new : TargetState) (k : ℕ) (found : Front) (m : DiskOutcome) → Transition (stepped k found m) old new → SameKnown old new
stepped_known old new k found m transition = λ j.
    ap is_some (transition.connection j) ∙ moved_known (meets old (stepped k found m)) j (place old.connections j)

pub ticked_known : (old new : TargetState) (ms : ℕ) → Transition (ticked ms) old new → SameKnown old new
ticked_known old new ms transition = λ j.
    ap is_some (transition.connection j) ∙ moved_known (meets old (ticked ms)) j (place old.connections j)

pub edited_known : (old new : TargetState) (edit : Edit) → Transition (edited edit) old new → SameKnown old new
edited_known old new edit transition = λ j.
    ap is_some (transition.connection j) ∙ moved_known (meets old (edited edit)) j (place old.connections j)

received_at : (old new : TargetState) (k : ℕ) (s : Option (List ℕ)) (o : Option KnownConnection) (piece : List ℕ) (result : Result ℕ NoConn)
    → ReceivesAt k s o old piece result new → new.connections ≡ old.connections
received_at old new k None o piece result h = ap (λ (t : TargetState). t.connections) h.1
received_at old new k (Some held) None piece result h = ap (λ (t : TargetState). t.connections) h.1
received_at old new k (Some held) (Some c) piece result h = ap (λ (t : TargetState). t.connections) h.1

pub received_known : (old new : TargetState) (k : ℕ) (piece : List ℕ) (result : Result ℕ NoConn)
    → ReceivesAt k (place old.streams k) (place old.connections k) old piece result new → SameKnown old new
received_known old new k piece result h = λ j.
    ap (λ l. is_some (place l j)) (received_at old new k (place old.streams k) (place old.connections k) piece result h)

written_at : (same : Bool) (c d : KnownConnection) (o : Option KnownConnection) → (same ≡ true → o ≡ Some c)
    → is_some (if same then Some d else o) ≡ is_some o
written_at true c d o known = sym (ap is_some (known refl))
written_at false c d o known = refl

taken_at : (old new : TargetState) (k len : ℕ) (o : Option KnownConnection) → place old.connections k ≡ o → TakenAt k o old len new → SameKnown old new
taken_at old new k len None known takes = λ j. ap (λ (t : TargetState). is_some (place t.connections j)) takes
taken_at old new k len (Some c) known takes = rw takes (λ j.
    let after : KnownConnection = record { state = c.state; output = drop len c.output } in
    ap is_some (place-with_value_held old.connections k after j c known)
    ∙ written_at (j == k) c after (place old.connections j) (λ is. ap (place old.connections) (eqb-true j k is) ∙ known))

pub taken_known : (old new : TargetState) (k len : ℕ) → TakenAt k (place old.connections k) old len new → SameKnown old new
taken_known old new k len takes = taken_at old new k len (place old.connections k) refl takes

-- ---- connections that are opened and given up

opened_at : (x : Occurrence) (port j : ℕ) (o : Option KnownConnection) (mark same : Bool) → mark ≡ is_some o
    → (if same then true else mark) ≡ is_some (if same then Some (fresh_on port) else option_map (known_moved x j) o)
opened_at x port j o mark true is = refl
opened_at x port j o mark false is = is ∙ sym (moved_known x j o)

pub opened_marked : (old new : TargetState) (port k : ℕ) (before after : List Bool) → SetsMark k true before after → AreMarks before old
    → Transition (opened port k) old new → AreMarks after new
opened_marked old new port k before after sets are transition = λ j.
    sets j
    ∙ opened_at (meets old (opened port k)) port j (place old.connections j) (get_or before j false) (j == k) (are j)
    ∙ sym (ap is_some (transition.connection j))

gone_at : (x : Occurrence) (j : ℕ) (o : Option KnownConnection) (mark same : Bool) → mark ≡ is_some o
    → (if same then false else mark) ≡ is_some (if same then None else option_map (known_moved x j) o)
gone_at x j o mark true is = refl
gone_at x j o mark false is = is ∙ sym (moved_known x j o)

pub given_up_marked : (old new : TargetState) (k : ℕ) (before after : List Bool) → SetsMark k false before after → AreMarks before old
    → Transition (given_up k) old new → AreMarks after new
given_up_marked old new k before after sets are transition = λ j.
    sets j
    ∙ gone_at (meets old (given_up k)) j (place old.connections j) (get_or before j false) (j == k) (are j)
    ∙ sym (ap is_some (transition.connection j))

ended_at : (old new : TargetState) (k : ℕ) (o : Option KnownConnection) (before after : List Bool) → place old.connections k ≡ o
    → SetsMark k false before after → MatchOption o (new ≡ old) (λ c. Transition (given_up k) old new) → AreMarks before old → AreMarks after new
ended_at old new k None before after known sets same are = λ j.
    sets j ∙ none_at j (cases_eq j k) ∙ are j ∙ sym (ap (λ (t : TargetState). is_some (place t.connections j)) same)
  where
    none_at : (j : ℕ) → (j ≡ k) ⊎ (j ≢ k) → (if j == k then false else get_or before j false) ≡ get_or before j false
    none_at j (inl is) =
        let equal : (j == k) ≡ true = grind (arith, nat_tests) in
        rw equal (sym (are j ∙ ap (λ i. is_some (place old.connections i)) is ∙ ap is_some known))
    none_at j (inr differs) =
        let unequal : (j == k) ≡ false = grind (arith, nat_tests) in
        rw unequal refl
ended_at old new k (Some c) before after known sets transition are = given_up_marked old new k before after sets are transition

pub ended_marked : (old new : TargetState) (k : ℕ) (before after : List Bool) → SetsMark k false before after
    → MatchOption (place old.connections k) (new ≡ old) (λ c. Transition (given_up k) old new) → AreMarks before old → AreMarks after new
ended_marked old new k before after sets ends are = ended_at old new k (place old.connections k) before after refl sets ends are
