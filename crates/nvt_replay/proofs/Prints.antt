-- What is printed of connections, and what is left of them.
use Rattle.std.proofs.Common.{◌≡◌, ℕ, ◌+◌, ◌<◌, ◌≤◌, Bool, true, false, ◌&&◌, List, [], ◌++◌, Option, Some, None, is_some, refl, sym, ap, ◌∙◌, subst, arith, append-nil, add-one, true≢false, ◌⊎◌, ◌≢◌, inl, inr}
use Rattle.std.specs.Prelude.{◌==◌, codes, nat_lt, if◌then◌else◌}
use Rattle.std.specs.Io.KnownBytes.{Appends}
use Rattle.std.proofs.KnownBytes.{Appends-nil, Appends-trans}
use Rattle.std.proofs.lemmas.Bool.{cases_eq, cases_lt, eqb-true}
use Rattle.std.proofs.lemmas.Bool.Decides.{nat_tests}
use Rattle.data_transfer.specs.Parts.{part_at}
use Rattle.tables.specs.NumberTable.{place}
use Rattle.tables.proofs.NumberTables.{place-with_value_held}
use Rattle.target_core.specs.Connection.{KnownConnection}
use Rattle.target_core.specs.Target.{TargetState, is_ended_at, output_at}
use Rattle.target_decision.specs.Session.{is_ended}
use Rattle.nvt_replay.specs.Played.{ArePrinted, TakesOutput, connection_lines, lines_below, printed_out}
use Rattle.edit_lines.specs.Printed.{event_line, output_lines}
use Rattle.edit_lines.proofs.PduLemmas.{output_lines-nil}

-- the lines of a connection, by its output and whether it is ended
pub lines_are : (k : ℕ) (o : Option KnownConnection)
    → connection_lines k o ≡ output_lines k (output_at o) ++ (if is_ended_at o then event_line k (codes "closed") else [])
lines_are k None = sym (rw output_lines-nil refl)
lines_are k (Some c) = refl

-- the connection is as far as it was when its output is taken
same_end : (k : ℕ) (o : Option KnownConnection) (old mid : TargetState) → place old.connections k ≡ o → TakesOutput k o old mid
    → is_ended_at (place mid.connections k) ≡ is_ended_at o
same_end k None old mid known takes = rw (takes, known) refl
same_end k (Some c) old mid known takes =
    let same : (k == k) ≡ true = grind (arith, nat_tests) in
    let after : KnownConnection = record { state = c.state; output = [] } in
    rw takes (rw (place-with_value_held old.connections k after k c known, same) refl)

pub still_ended : (k : ℕ) (old mid : TargetState) → TakesOutput k (place old.connections k) old mid
    → is_ended_at (place mid.connections k) ≡ is_ended_at (place old.connections k)
still_ended k old mid takes = same_end k (place old.connections k) old mid refl takes

-- the output of a connection that is not ended is all that is printed of it
pub printed_lines : (k : ℕ) (o : Option KnownConnection) (a b : Option (List ℕ)) (output : List ℕ) → output ≡ output_at o → is_ended_at o ≡ false
    → Appends a b (output_lines k output) → Appends a b (connection_lines k o)
printed_lines k o a b output is lasts printed =
    subst (Appends a b) (sym (lines_are k o ∙ ap (λ e. output_lines k (output_at o) ++ (if e then event_line k (codes "closed") else [])) lasts
    ∙ append-nil (output_lines k (output_at o)) ∙ ap (output_lines k) (sym is))) printed

-- .. and of one that is, before it is closed
pub closed_lines : (k : ℕ) (o : Option KnownConnection) (a b c : Option (List ℕ)) (output : List ℕ) → output ≡ output_at o → is_ended_at o ≡ true
    → Appends a b (output_lines k output) → Appends b c (event_line k (codes "closed")) → Appends a c (connection_lines k o)
closed_lines k o a b c output is ended printed closed =
    subst (Appends a c) (sym (lines_are k o ∙ ap (λ e. output_lines k (output_at o) ++ (if e then event_line k (codes "closed") else [])) ended
    ∙ ap (λ (bytes : List ℕ). output_lines k bytes ++ event_line k (codes "closed")) (sym is)))
    (Appends-trans a b c (output_lines k output) (event_line k (codes "closed")) printed closed)

-- ---- what is left

stream_stays : {A : Type 0} (same ended : Bool) (s : Option A) → (same ≡ true → ended ≡ false) → s ≡ (if same && ended then None else s)
stream_stays true true s lasts = absurd (true≢false (lasts refl))
stream_stays true false s lasts = refl
stream_stays false ended s lasts = refl

same_at : (same : Bool) (o : Option KnownConnection) → (same ≡ true → o ≡ None) → o ≡ (if same then printed_out o else o)
same_at true o none = let is = none refl in rw is refl
same_at false o none = refl

taken_at : (same : Bool) (c : KnownConnection) (o : Option KnownConnection) → (same ≡ true → o ≡ Some c) → is_ended c.state.session ≡ false
    → (if same then Some (record { state = c.state; output = [] }) else o) ≡ (if same then printed_out o else o)
taken_at true c o known lasts = let is = known refl in rw (is, lasts) refl
taken_at false c o known lasts = refl

ended_there : (k j : ℕ) (t : TargetState) (o : Option KnownConnection) (b : Bool) → place t.connections k ≡ o → is_ended_at o ≡ b
    → (j == k) ≡ true → is_ended_at (place t.connections j) ≡ b
ended_there k j t o b known is same = ap (λ i. is_ended_at (place t.connections i)) (eqb-true j k same) ∙ ap is_ended_at known ∙ is

left_at : (k : ℕ) (o : Option KnownConnection) (old new : TargetState) → place old.connections k ≡ o → TakesOutput k o old new → is_ended_at o ≡ false
    → ArePrinted (λ j. j == k) old new
left_at k None old new known takes lasts = rw takes (record {
  config = refl;
  clock = refl;
  shown = refl;
  formed = refl;
  connection = λ j. same_at (j == k) (place old.connections j) (λ is. ap (place old.connections) (eqb-true j k is) ∙ known);
  stream = λ j. stream_stays (j == k) (is_ended_at (place old.connections j)) (place old.streams j) (ended_there k j old None false known lasts);
  part = λ j t. stream_stays (j == k) (is_ended_at (place old.connections j)) (part_at old.transfers j t) (ended_there k j old None false known lasts);
  row = λ c. refl;
  controller = λ c. refl;
  blocks = λ d. refl;
})
left_at k (Some c) old new known takes lasts = rw takes (record {
  config = refl;
  clock = refl;
  shown = refl;
  formed = refl;
  connection = λ j.
      let after : KnownConnection = record { state = c.state; output = [] } in
      place-with_value_held old.connections k after j c known
      ∙ taken_at (j == k) c (place old.connections j) (λ is. ap (place old.connections) (eqb-true j k is) ∙ known) lasts;
  stream = λ j. stream_stays (j == k) (is_ended_at (place old.connections j)) (place old.streams j) (ended_there k j old (Some c) false known lasts);
  part = λ j t. stream_stays (j == k) (is_ended_at (place old.connections j)) (part_at old.transfers j t) (ended_there k j old (Some c) false known lasts);
  row = λ n. refl;
  controller = λ n. refl;
  blocks = λ d. refl;
})

-- a connection that is not ended has nothing to send when its lines are printed
pub open_left : (k : ℕ) (old new : TargetState) → TakesOutput k (place old.connections k) old new → is_ended_at (place old.connections k) ≡ false
    → ArePrinted (λ j. j == k) old new
open_left k old new takes lasts = left_at k (place old.connections k) old new refl takes lasts

-- ---- all connections

before_more : (j k : ℕ) → nat_lt j (k + 1) ≡ (if j == k then true else nat_lt j k)
before_more j k = by (cases_eq j k) where
  by : (j ≡ k) ⊎ (j ≢ k) → nat_lt j (k + 1) ≡ (if j == k then true else nat_lt j k)
  by (inl same) =
      let equal : (j == k) ≡ true = grind (arith, nat_tests) in
      let below : nat_lt j (k + 1) ≡ true = grind (arith, nat_tests) in
      rw (equal, below) refl
  by (inr differs) =
      let unequal : (j == k) ≡ false = grind (arith, nat_tests) in
      rw unequal (by_order (cases_lt j k))
    where
      by_order : (j < k) ⊎ (k ≤ j) → nat_lt j (k + 1) ≡ nat_lt j k
      by_order (inl below) =
          let a : nat_lt j (k + 1) ≡ true = grind (arith, nat_tests) in
          let b : nat_lt j k ≡ true = grind (arith, nat_tests) in
          a ∙ sym b
      by_order (inr past) =
          let a : nat_lt j (k + 1) ≡ false = grind (arith, nat_tests) in
          let b : nat_lt j k ≡ false = grind (arith, nat_tests) in
          a ∙ sym b

pub none_printed : (t : TargetState) → ArePrinted (λ j. nat_lt j 0) t t
none_printed t = record {
  config = refl;
  clock = refl;
  shown = refl;
  formed = refl;
  connection = λ j. rw (none j) refl;
  stream = λ j. rw (none j) refl;
  part = λ j t. rw (none j) refl;
  row = λ c. refl;
  controller = λ c. refl;
  blocks = λ d. refl;
} where
  none : (j : ℕ) → nat_lt j 0 ≡ false
  none j = grind (arith, nat_tests)

not_before : (j k : ℕ) → (j == k) ≡ true → nat_lt j k ≡ false
not_before j k same = grind (arith, nat_tests)

more_at : (same before : Bool) (o m n : Option KnownConnection) → (same ≡ true → before ≡ false) → m ≡ (if before then printed_out o else o)
    → n ≡ (if same then printed_out m else m) → n ≡ (if (if same then true else before) then printed_out o else o)
more_at true before o m n apart first next = next ∙ ap printed_out (first ∙ ap (λ b. if b then printed_out o else o) (apart refl))
more_at false before o m n apart first next = next ∙ first

stream_more : {A : Type 0} (same before ended now : Bool) (o m n : Option A) → (same ≡ true → before ≡ false) → (same ≡ true → now ≡ ended)
    → m ≡ (if before && ended then None else o) → n ≡ (if same && now then None else m)
    → n ≡ (if (if same then true else before) && ended then None else o)
stream_more true before ended now o m n apart is first next =
    let was : m ≡ o = first ∙ ap (λ b. if b && ended then None else o) (apart refl) in
    next ∙ ap (λ b. if b then None else m) (is refl) ∙ ap (λ s. if ended then None else s) was
stream_more false before ended now o m n apart is first next = next ∙ first

-- one more connection is printed
pub more_printed : (k : ℕ) (old mid new : TargetState) → ArePrinted (λ j. nat_lt j k) old mid → ArePrinted (λ j. j == k) mid new
    → ArePrinted (λ j. nat_lt j (k + 1)) old new
more_printed k old mid new first next = record {
  config = next.config ∙ first.config;
  clock = next.clock ∙ first.clock;
  shown = next.shown ∙ first.shown;
  formed = next.formed ∙ first.formed;
  connection = λ j. rw (before_more j k)
      (more_at (j == k) (nat_lt j k) (place old.connections j) (place mid.connections j) (place new.connections j) (not_before j k) (first.connection j) (next.connection j));
  stream = λ j. rw (before_more j k)
      (stream_more (j == k) (nat_lt j k) (is_ended_at (place old.connections j)) (is_ended_at (place mid.connections j))
      (place old.streams j) (place mid.streams j) (place new.streams j) (not_before j k)
      (λ same. ap is_ended_at (first.connection j ∙ ap (λ b. if b then printed_out (place old.connections j) else place old.connections j) (not_before j k same)))
      (first.stream j) (next.stream j));
  part = λ j t. rw (before_more j k)
      (stream_more (j == k) (nat_lt j k) (is_ended_at (place old.connections j)) (is_ended_at (place mid.connections j))
      (part_at old.transfers j t) (part_at mid.transfers j t) (part_at new.transfers j t) (not_before j k)
      (λ same. ap is_ended_at (first.connection j ∙ ap (λ b. if b then printed_out (place old.connections j) else place old.connections j) (not_before j k same)))
      (first.part j t) (next.part j t));
  row = λ c. next.row c ∙ first.row c;
  controller = λ c. next.controller c ∙ first.controller c;
  blocks = λ d. next.blocks d ∙ first.blocks d;
}

none_is : (o : Option KnownConnection) → is_some o ≡ false → o ≡ None
none_is None h = refl
none_is (Some c) h = cc

-- nothing is printed of a connection that is not known
pub none_more : (k : ℕ) (old mid : TargetState) → is_some (place mid.connections k) ≡ false → ArePrinted (λ j. nat_lt j k) old mid
    → ArePrinted (λ j. nat_lt j (k + 1)) old mid
none_more k old mid unknown first =
    more_printed k old mid mid first (left_at k None mid mid (none_is (place mid.connections k) unknown) refl refl)

pub lines_below-more : (k : ℕ) (t : TargetState) → lines_below (k + 1) t ≡ lines_below k t ++ connection_lines k (place t.connections k)
unfolding lines_below
lines_below-more k t = rw add-one refl

lines_below-none : (t : TargetState) → lines_below 0 t ≡ []
unfolding lines_below
lines_below-none t = refl

pub not_yet : (k : ℕ) (old mid : TargetState) → ArePrinted (λ j. nat_lt j k) old mid → place mid.connections k ≡ place old.connections k
not_yet k old mid first =
    let itself : nat_lt k k ≡ false = grind (arith, nat_tests) in
    first.connection k ∙ ap (λ b. if b then printed_out (place old.connections k) else place old.connections k) itself

pub lines_more : (k : ℕ) (old mid : TargetState) (a b c : Option (List ℕ)) → ArePrinted (λ j. nat_lt j k) old mid → Appends a b (lines_below k old)
    → Appends b c (connection_lines k (place mid.connections k)) → Appends a c (lines_below (k + 1) old)
lines_more k old mid a b c first before here =
    subst (Appends a c) (sym (lines_below-more k old))
    (Appends-trans a b c (lines_below k old) (connection_lines k (place old.connections k)) before
    (subst (λ o. Appends b c (connection_lines k o)) (not_yet k old mid first) here))

pub lines_same : (k : ℕ) (old mid : TargetState) (a b : Option (List ℕ)) → ArePrinted (λ j. nat_lt j k) old mid → is_some (place mid.connections k) ≡ false
    → Appends a b (lines_below k old) → Appends a b (lines_below (k + 1) old)
lines_same k old mid a b first unknown before =
    lines_more k old mid a b b first before (rw (none_is (place mid.connections k) unknown) (Appends-nil b))

pub nothing_printed : (t : TargetState) (a : Option (List ℕ)) → Appends a a (lines_below 0 t)
nothing_printed t a = rw lines_below-none (Appends-nil a)
