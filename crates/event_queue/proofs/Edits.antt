-- What an edit makes of the events, kind by kind.
use Rattle.std.proofs.Common.{◌≡◌, Bool, true, false, List, [], ◌∷◌, ◌++◌, Option, None, refl, ap, ◌∙◌}
use Rattle.std.specs.Prelude.{filter, if◌then◌else◌}
use Rattle.std.proofs.lemmas.List.{append-nil}
use Rattle.event_queue.specs.declared.changes.ViewChanges.{ViewChanges}
use Rattle.event_queue.specs.declared.completion.Completion.{Completion}
use Rattle.event_queue.specs.declared.kind.EventKind.{EventKind}
use Rattle.event_queue.specs.declared.kind.EventKind.TheVariants.{Namespace, Ana, Discovery}
use Rattle.event_queue.specs.Changes.{counts_for}
use Rattle.event_queue.specs.Completion.{completions_in}
use Rattle.event_queue.specs.Events.{EventState, after_edit, all_answers, all_changed, change_answer, changed, edit_answers, kind_in, kinds_told}
use Rattle.event_queue.specs.Occurrence.{arose}
use Rattle.event_queue.specs.Told.{Happened, IsAnswered, answer_to, arose_after, events_of, is_enabled, sent_after}
use Rattle.event_queue.specs.Laws.{EditsAreTold}
use Rattle.event_queue.proofs.Looking.{next}
use Rattle.event_queue.proofs.Steps.{told_as_it_happened}

-- ---- one kind after the other

all_answered : (kinds : List EventKind) (before : List Happened) → IsAnswered before → IsAnswered (arose_after before kinds)
all_answered [] before all = all
all_answered (kind ∷ kinds) before all = all_answered kinds (next before (arose kind)) (refl, refl, all)

all_after : (kinds : List EventKind) (before : List Happened) → IsAnswered before → events_of (arose_after before kinds) ≡ all_changed (events_of before) kinds
all_after [] before all = refl
all_after (kind ∷ kinds) before all =
    all_after kinds (next before (arose kind)) (refl, refl, all)
    ∙ ap (λ (s : EventState). all_changed s kinds) (told_as_it_happened.after (record { occurrence = arose kind; answer = answer_to before (arose kind) }) before (refl, refl, all))

all_sent : (kinds : List EventKind) (before : List Happened) → IsAnswered before → sent_after before kinds ≡ all_answers (events_of before) kinds
all_sent [] before all = refl
all_sent (kind ∷ kinds) before all =
    let x : Happened = record { occurrence = arose kind; answer = answer_to before (arose kind) } in
    ap (λ (rest : List Completion). completions_in (answer_to before (arose kind)) ++ rest)
    (all_sent kinds (next before (arose kind)) (refl, refl, all) ∙ ap (λ (s : EventState). all_answers s kinds) (told_as_it_happened.after x before (refl, refl, all)))
    ∙ ap (λ (o : Option Completion). completions_in o ++ all_answers (changed (events_of before) kind) kinds) (told_as_it_happened.answer x before (refl, refl, all))

pub edits_are_told : EditsAreTold
edits_are_told = record {
  answered = λ before x. all_answered (kinds_told (is_enabled before) x) before;
  after = λ before x. all_after (kinds_told (is_enabled before) x) before;
  sent = λ before x. all_sent (kinds_told (is_enabled before) x) before;
}

-- ---- three tests, one for each kind

abbrev by_tests : Bool → Bool → Bool → EventKind → Bool
by_tests n a d Namespace = n
by_tests n a d Ana = a
by_tests n a d Discovery = d

abbrev kinds_by : Bool → Bool → Bool → List EventKind
kinds_by n a d = filter (by_tests n a d) (Namespace ∷ Ana ∷ Discovery ∷ [])

abbrev pub change_where : Bool → EventKind → EventState → EventState
change_where b kind s = if b then changed s kind else s

abbrev pub answer_where : Bool → EventKind → EventState → Option Completion
answer_where b kind s = if b then change_answer s kind else None

changed_by : (n a d : Bool) (s : EventState) → change_where d Discovery (change_where a Ana (change_where n Namespace s)) ≡ all_changed s (kinds_by n a d)
changed_by true true true s = refl
changed_by true true false s = refl
changed_by true false true s = refl
changed_by true false false s = refl
changed_by false true true s = refl
changed_by false true false s = refl
changed_by false false true s = refl
changed_by false false false s = refl

answers_by : (n a d : Bool) (s : EventState)
    → completions_in (answer_where n Namespace s) ++ (completions_in (answer_where a Ana (change_where n Namespace s)) ++ completions_in (answer_where d Discovery (change_where a Ana (change_where n Namespace s))))
    ≡ all_answers s (kinds_by n a d)
answers_by true true true s = rw append-nil refl
answers_by true true false s = refl
answers_by true false true s = rw append-nil refl
answers_by true false false s = refl
answers_by false true true s = rw append-nil refl
answers_by false true false s = refl
answers_by false false true s = rw append-nil refl
answers_by false false false s = refl

-- each kind is asked for, and then arises where that is so
pub record Asked (s s1 s2 s3 : EventState) (x : ViewChanges) (n a d : Bool) : Type 0 where
  pub namespace : n ≡ counts_for (λ kind. (kind_in s kind).enabled) x Namespace
  pub ana : a ≡ counts_for (λ kind. (kind_in s kind).enabled) x Ana
  pub discovery : d ≡ counts_for (λ kind. (kind_in s kind).enabled) x Discovery
  pub first : s1 ≡ change_where n Namespace s
  pub second : s2 ≡ change_where a Ana s1
  pub third : s3 ≡ change_where d Discovery s2

pub edited_after : (s s1 s2 s3 : EventState) (x : ViewChanges) (n a d : Bool) → Asked s s1 s2 s3 x n a d → s3 ≡ after_edit s x
edited_after s s1 s2 s3 x n a d h =
    rw (h.third, h.second, h.first, h.namespace, h.ana, h.discovery)
    (changed_by (counts_for (λ kind. (kind_in s kind).enabled) x Namespace) (counts_for (λ kind. (kind_in s kind).enabled) x Ana) (counts_for (λ kind. (kind_in s kind).enabled) x Discovery) s)

pub edited_answers : (s s1 s2 s3 : EventState) (x : ViewChanges) (n a d : Bool) (p q r : Option Completion) → Asked s s1 s2 s3 x n a d
    → p ≡ answer_where n Namespace s → q ≡ answer_where a Ana s1 → r ≡ answer_where d Discovery s2
    → completions_in p ++ (completions_in q ++ completions_in r) ≡ edit_answers s x
edited_answers s s1 s2 s3 x n a d p q r h first second third =
    rw (third, second, first, h.second, h.first, h.namespace, h.ana, h.discovery)
    (answers_by (counts_for (λ kind. (kind_in s kind).enabled) x Namespace) (counts_for (λ kind. (kind_in s kind).enabled) x Ana) (counts_for (λ kind. (kind_in s kind).enabled) x Discovery) s)
