-- What an edit sends on the admin queue of a controller, and the room for it.
use Rattle.std.proofs.Common.{◌≡◌, ◌<◌, ℕ, suc, ◌+◌, Bool, true, false, List, [], ◌∷◌, ◌++◌, drop, get_or, length, length-append, append_assoc, refl, sym, ap, ◌∙◌, arith}
use Rattle.std.proofs.Math.Seq.{drop-cons}
use Rattle.event_queue.specs.declared.changes.ViewChanges.{ViewChanges}
use Rattle.event_queue.specs.declared.completion.Completion.{Completion}
use Rattle.event_queue.specs.declared.kind.EventKind.{EventKind}
use Rattle.event_queue.specs.declared.kind.EventKind.TheVariants.{Namespace, Ana, Discovery}
use Rattle.event_queue.specs.Completion.{completions_in}
use Rattle.event_queue.specs.Events.{EventState, after_edit, all_answers, all_changed, change_answer, changed, edit_answers, kind_in, kinds_told}
use Rattle.event_queue.specs.Notice.{takes_change}
use Rattle.target_decision.specs.declared.session.Session.{Session}
use Rattle.target_decision.specs.Session.{responded_in}
use Rattle.target_decision.specs.Tell.{completed_in, completion_pdu, completion_pdus}

-- each completion answers one request that waited
kind_counted : (s : EventState) (kind : EventKind) (takes : Bool) (waiting : List ℕ) → takes_change (kind_in s kind) ≡ takes → s.waiting ≡ waiting
    → length (completions_in (change_answer s kind)) + length (changed s kind).waiting ≡ length s.waiting
kind_counted s kind false waiting takes is = rw takes (omega arith)
kind_counted s Namespace true [] takes is = rw (takes, is) (omega arith)
kind_counted s Ana true [] takes is = rw (takes, is) (omega arith)
kind_counted s Discovery true [] takes is = rw (takes, is) (omega arith)
kind_counted s Namespace true (cid ∷ rest) takes is = rw (takes, is) (omega arith)
kind_counted s Ana true (cid ∷ rest) takes is = rw (takes, is) (omega arith)
kind_counted s Discovery true (cid ∷ rest) takes is = rw (takes, is) (omega arith)

kinds_counted : (s : EventState) (kinds : List EventKind) → length (all_answers s kinds) + length (all_changed s kinds).waiting ≡ length s.waiting
kinds_counted s [] = omega arith
kinds_counted s (kind ∷ kinds) =
    let first = completions_in (change_answer s kind) in
    let rest = all_answers (changed s kind) kinds in
    let one = kind_counted s kind (takes_change (kind_in s kind)) s.waiting refl refl in
    let others = kinds_counted (changed s kind) kinds in
    omega (arith, one, others, length-append first rest)

pub edit_counted : (s : EventState) (x : ViewChanges) → length (edit_answers s x) + length (after_edit s x).waiting ≡ length s.waiting
edit_counted s x = kinds_counted s (kinds_told (λ kind. (kind_in s kind).enabled) x)

-- ---- one completion after another

pub next_left : (all : List Completion) (i : ℕ) (d : Completion) → i < length all → drop i all ≡ get_or all i d ∷ drop (i + 1) all
next_left all i d below =
    let next : suc i ≡ i + 1 = omega arith in
    drop-cons all i d below ∙ ap (λ k. get_or all i d ∷ drop k all) next

pub session_next : (all : List Completion) (i : ℕ) (s after end : Session) → i < length all → after ≡ responded_in s
    → completed_in s (drop i all) ≡ end → completed_in after (drop (i + 1) all) ≡ end
session_next all i s after end below responded earlier =
    let d : Completion = record { cid = 0; result = 0 } in
    ap (λ (t : Session). completed_in t (drop (i + 1) all)) responded ∙ ap (completed_in s) (sym (next_left all i d below)) ∙ earlier

pub sent_next : (all : List Completion) (i : ℕ) (d : Completion) (s after : Session) (output written whole : List ℕ) → i < length all → after ≡ responded_in s
    → written ≡ output ++ completion_pdu s (get_or all i d) → output ++ completion_pdus s (drop i all) ≡ whole
    → written ++ completion_pdus after (drop (i + 1) all) ≡ whole
sent_next all i d s after output written whole below responded writes earlier =
    let rest = drop (i + 1) all in
    ap (λ (t : Session). written ++ completion_pdus t rest) responded
    ∙ ap (λ (l : List ℕ). l ++ completion_pdus (responded_in s) rest) writes
    ∙ append_assoc output (completion_pdu s (get_or all i d)) (completion_pdus (responded_in s) rest)
    ∙ ap (λ (l : List Completion). output ++ completion_pdus s l) (sym (next_left all i d below))
    ∙ earlier
