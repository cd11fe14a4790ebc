-- What a look-back says after one occurrence more.
use Rattle.std.proofs.Common.{◌≡◌, ◌≤◌, ℕ, zero, suc, ◌+◌, Bool, true, false, not, ◌&&◌, ◌||◌, List, [], ◌∷◌, ◌++◌, drop, length, Option, Some, None, IfSome, refl, ap, sym, ◌∙◌, subst, inl, inr, ◌⊎◌, arith, length-append}
use Rattle.std.specs.Prelude.{if◌then◌else◌}
use Rattle.std.specs.Option.{option_map}
use Rattle.std.proofs.Math.Seq.{drop-length}
use Rattle.std.proofs.lemmas.List.{append-nil}
use Rattle.event_queue.specs.declared.completion.Completion.{Completion}
use Rattle.event_queue.specs.declared.kind.EventKind.{EventKind}
use Rattle.event_queue.specs.declared.kind.EventKind.TheVariants.{Namespace, Ana, Discovery}
use Rattle.event_queue.specs.Completion.{completion_of, tells}
use Rattle.event_queue.specs.Events.{first_of}
use Rattle.event_queue.specs.Kind.{is_same_kind}
use Rattle.event_queue.specs.Occurrence.{Occurrence, accepted, arose, read_page, set_mask, was_reset}
use Rattle.event_queue.specs.Told.{Happened, IsAnswered, answer_to, completions_since, count_of, first_to_tell, is_enabled, is_owed, is_to_tell, is_told, requests_since, waits_of}

-- ---- tests

-- what a kind tells is told of no other kind
pub told_of : (q kind : EventKind) (b : Bool) (o : Option ℕ) → tells (if b then option_map (completion_of q) o else None) kind ≡ true → (q ≡ kind) × (b ≡ true)
told_of Namespace Namespace true (Some cid) h = (refl, refl)
told_of Ana Ana true (Some cid) h = (refl, refl)
told_of Discovery Discovery true (Some cid) h = (refl, refl)
told_of Namespace Ana true (Some cid) h = cc
told_of Namespace Discovery true (Some cid) h = cc
told_of Ana Namespace true (Some cid) h = cc
told_of Ana Discovery true (Some cid) h = cc
told_of Discovery Namespace true (Some cid) h = cc
told_of Discovery Ana true (Some cid) h = cc
told_of q kind true None h = cc
told_of q kind false o h = cc

pub told_by_first : (p : Option EventKind) (cid : ℕ) (kind : EventKind) → tells (option_map (λ k. completion_of k cid) p) kind ≡ true → p ≡ Some kind
told_by_first None cid kind h = cc
told_by_first (Some Namespace) cid Namespace h = refl
told_by_first (Some Namespace) cid Ana h = cc
told_by_first (Some Namespace) cid Discovery h = cc
told_by_first (Some Ana) cid Namespace h = cc
told_by_first (Some Ana) cid Ana h = refl
told_by_first (Some Ana) cid Discovery h = cc
told_by_first (Some Discovery) cid Namespace h = cc
told_by_first (Some Discovery) cid Ana h = cc
told_by_first (Some Discovery) cid Discovery h = refl

left_true : (a b : Bool) → a && b ≡ true → a ≡ true
left_true true b h = refl
left_true false b h = cc

pub not_right : (a b : Bool) → a && not b ≡ true → b ≡ false
not_right true true h = cc
not_right true false h = refl
not_right false b h = cc

either : (a b : Bool) (P : Type 0) → (a ≡ true → P) → (b ≡ true → P) → a || b ≡ true → P
either true b P f g h = f refl
either false b P f g h = g h

is_neither : (b : Bool) → (b ≡ true → ⊥) → b ≡ false
is_neither true f = absurd (f refl)
is_neither false f = refl

-- the first kind that is to be told is one
first_is : (n a d : Bool) (P : EventKind → Type 0) → (n ≡ true → P Namespace) → (a ≡ true → P Ana) → (d ≡ true → P Discovery)
    → (p : Option EventKind) → p ≡ (if n then Some Namespace else if a then Some Ana else if d then Some Discovery else None) → IfSome p P
first_is true a d P f g h p is = rw is (f refl)
first_is false true d P f g h p is = rw is (g refl)
first_is false false true P f g h p is = rw is (h refl)
first_is false false false P f g h p is = rw is tt

-- .. and there is one where some kind is
some_first : (n a d : Bool) (cid : ℕ) → (n ≡ true) ⊎ ((a ≡ true) ⊎ (d ≡ true))
    → count_of (option_map (λ k. completion_of k cid) (if n then Some Namespace else if a then Some Ana else if d then Some Discovery else None)) ≡ 1
some_first true a d cid h = refl
some_first false true d cid h = refl
some_first false false true cid h = refl
some_first false false false cid (inl h) = cc
some_first false false false cid (inr (inl h)) = cc
some_first false false false cid (inr (inr h)) = cc

some_kind : (before : List Happened) (kind : EventKind) (cid : ℕ) → is_to_tell before kind ≡ true → count_of (option_map (λ k. completion_of k cid) (first_to_tell before)) ≡ 1
some_kind before Namespace cid h = some_first (is_to_tell before Namespace) (is_to_tell before Ana) (is_to_tell before Discovery) cid (inl h)
some_kind before Ana cid h = some_first (is_to_tell before Namespace) (is_to_tell before Ana) (is_to_tell before Discovery) cid (inr (inl h))
some_kind before Discovery cid h = some_first (is_to_tell before Namespace) (is_to_tell before Ana) (is_to_tell before Discovery) cid (inr (inr h))

at_most_one : (o : Option Completion) → count_of o ≤ 1
at_most_one None = omega arith
at_most_one (Some c) = omega arith

-- ---- lists of requests

drop_next : (n : ℕ) (xs : List ℕ) → drop (suc n) xs ≡ drop 1 (drop n xs)
drop_next zero xs = refl
drop_next (suc n) [] = refl
drop_next (suc n) (x ∷ xs) = drop_next n xs

-- the requests that are left once one more is completed, or none
pub left_after : (a : Option Completion) (n : ℕ) (xs : List ℕ) → drop (count_of a + n) (xs ++ []) ≡ drop (count_of a) (drop n xs)
left_after None n xs =
    let same : 0 + n ≡ n = omega arith in
    rw (same, append-nil xs) refl
left_after (Some c) n xs =
    let next : 1 + n ≡ suc n = omega arith in
    rw (next, append-nil xs) (drop_next n xs)

pub none_left : (n : ℕ) (xs : List ℕ) → n ≡ length xs → drop n xs ≡ []
none_left n xs all = rw all (drop-length xs)

-- a request that is completed waited
completed_waited : (b : Bool) (f : ℕ → Completion) (n : ℕ) (xs : List ℕ) → n ≤ length xs → count_of (if b then option_map f (first_of (drop n xs)) else None) + n ≤ length xs
completed_waited false f n xs within = omega arith
completed_waited true f zero [] within = omega arith
completed_waited true f zero (x ∷ xs) within = omega arith
completed_waited true f (suc n) [] within = absurd (omega arith)
completed_waited true f (suc n) (x ∷ xs) within = omega (arith, completed_waited true f n xs (omega arith))

-- none waits where none was completed
none_completed : (f : ℕ → Completion) (n : ℕ) (xs : List ℕ) → n ≤ length xs → option_map f (first_of (drop n xs)) ≡ None → n ≡ length xs
none_completed f zero [] within none = refl
none_completed f zero (x ∷ xs) within none = cc
none_completed f (suc n) [] within none = absurd (omega arith)
none_completed f (suc n) (x ∷ xs) within none = ap suc (none_completed f n xs (omega arith) none)

-- ---- what stands after all that happened

pub record Stands (h : List Happened) : Type 0 where
  pub told_owed : (kind : EventKind) → is_told h kind ≡ true → is_owed h kind ≡ true
  pub counted : completions_since h ≤ length (requests_since h)
  pub none_waits : (kind : EventKind) → is_to_tell h kind ≡ true → completions_since h ≡ length (requests_since h)

abbrev pub next : List Happened → Occurrence → List Happened
next before o = record { occurrence = o; answer = answer_to before o } ∷ before

pub first_to_tell_is : (before : List Happened) → IfSome (first_to_tell before) (λ k. is_to_tell before k ≡ true)
first_to_tell_is before =
    first_is (is_to_tell before Namespace) (is_to_tell before Ana) (is_to_tell before Discovery) (λ k. is_to_tell before k ≡ true) (λ h. h) (λ h. h) (λ h. h) (first_to_tell before) refl

pub first_kind : (before : List Happened) (kind : EventKind) → first_to_tell before ≡ Some kind → is_to_tell before kind ≡ true
first_kind before kind is = subst (λ (p : Option EventKind). IfSome p (λ k. is_to_tell before k ≡ true)) is (first_to_tell_is before)

-- to tell after a request: it was to be told before
still_to_tell : (o t a : Bool) → o && not (a || t) ≡ true → o && not t ≡ true
still_to_tell true true true h = cc
still_to_tell true true false h = cc
still_to_tell true false a h = refl
still_to_tell false t a h = cc

-- what a read leaves to tell was to be told before
left_to_tell : (b o t : Bool) → (not b && o) && not (not b && t) ≡ true → o && not t ≡ true
left_to_tell true o t h = cc
left_to_tell false o t h = h

left_told : (b o t : Bool) → (t ≡ true → o ≡ true) → not b && t ≡ true → not b && o ≡ true
left_told true o t f h = cc
left_told false o t f h = f h

one_more : (n k : ℕ) (xs : List ℕ) (x : ℕ) → k ≤ 1 → n ≤ length xs → k + n ≤ length (xs ++ x ∷ [])
one_more n k xs x few within = omega (arith, length-append xs (x ∷ []))

one_more_each : (n k : ℕ) (xs : List ℕ) (x : ℕ) → k ≡ 1 → n ≡ length xs → k + n ≡ length (xs ++ x ∷ [])
one_more_each n k xs x one all = omega (arith, length-append xs (x ∷ []))

same_all : (n : ℕ) (xs : List ℕ) → n ≡ length xs → 0 + n ≡ length (xs ++ [])
same_all n xs all = omega (arith, length-append {A = ℕ} xs [])

within_all : (n k : ℕ) (xs : List ℕ) → k + n ≤ length xs → k + n ≤ length (xs ++ [])
within_all n k xs within = omega (arith, length-append {A = ℕ} xs [])

-- a kind that an edit makes owed, or that was: s whether it is the edit's kind, e whether it is enabled, a whether it
-- is told now
abbrev ToTellBy : Bool → Bool → Bool → Bool → Bool → Type 0
ToTellBy s e o a t = ((s && e) || o) && not (a || t) ≡ true

impossible : {P : Type 0} → false ≡ true → P
impossible h = absurd (let no : ⊥ = cc in no)

to_tell_cases : (s e o a t : Bool) → ToTellBy s e o a t → ((o && not t ≡ true) ⊎ ((s ≡ true) × (e ≡ true) × (o ≡ false) × (a ≡ false)))
to_tell_cases true true true true t h = impossible h
to_tell_cases true false true true t h = impossible h
to_tell_cases false e true true t h = impossible h
to_tell_cases true true true false t h = inl h
to_tell_cases true false true false t h = inl h
to_tell_cases false e true false t h = inl h
to_tell_cases true true false true t h = impossible h
to_tell_cases true true false false t h = inr (refl, refl, refl, refl)
to_tell_cases true false false a t h = impossible h
to_tell_cases false e false a t h = impossible h

same_kind : (q kind : EventKind) → is_same_kind q kind ≡ true → q ≡ kind
same_kind Namespace Namespace h = refl
same_kind Namespace Ana h = cc
same_kind Namespace Discovery h = cc
same_kind Ana Namespace h = cc
same_kind Ana Ana h = refl
same_kind Ana Discovery h = cc
same_kind Discovery Namespace h = cc
same_kind Discovery Ana h = cc
same_kind Discovery Discovery h = refl

kind_is_itself : (kind : EventKind) → is_same_kind kind kind ≡ true
kind_is_itself Namespace = refl
kind_is_itself Ana = refl
kind_is_itself Discovery = refl

tells_its_own : (kind : EventKind) (o : Option ℕ) → tells (option_map (completion_of kind) o) kind ≡ false → option_map (completion_of kind) o ≡ None
tells_its_own Namespace (Some cid) h = cc
tells_its_own Ana (Some cid) h = cc
tells_its_own Discovery (Some cid) h = cc
tells_its_own kind None h = refl

-- the answer of an edit's kind where that is owed already
none_answered : (kind : EventKind) (w : List ℕ) (e : Bool) → w ≡ [] → (if e then option_map (completion_of kind) (first_of w) else None) ≡ None
none_answered kind w true none = rw none refl
none_answered kind w false none = refl

owed_now : (before : List Happened) (q kind : EventKind) → q ≡ kind → (is_enabled before q && not (is_owed before q)) ≡ true
    → ((is_same_kind q kind && is_enabled before kind) || is_owed before kind) ≡ true
owed_now before q kind same b =
    subst (λ (k : EventKind). ((is_same_kind q k && is_enabled before k) || is_owed before k) ≡ true) same
    (rw (kind_is_itself q, left_true (is_enabled before q) (not (is_owed before q)) b) refl)

or_right : (a b : Bool) → b ≡ true → a || b ≡ true
or_right true b h = refl
or_right false b h = h

stands_accepted : (before : List Happened) (cid : ℕ) → Stands before → Stands (next before (accepted cid))
stands_accepted before cid s =
    let p : Option EventKind = first_to_tell before in
    let a : Option Completion = option_map (λ k. completion_of k cid) p in
    record {
      told_owed = λ kind. either (tells a kind) (is_told before kind) (is_owed before kind ≡ true)
          (λ told. left_true (is_owed before kind) (not (is_told before kind)) (first_kind before kind (told_by_first p cid kind told)))
          (s.told_owed kind);
      counted = one_more (completions_since before) (count_of a) (requests_since before) cid (at_most_one a) s.counted;
      none_waits = λ kind h.
          let to_tell = still_to_tell (is_owed before kind) (is_told before kind) (tells a kind) h in
          one_more_each (completions_since before) (count_of a) (requests_since before) cid (some_kind before kind cid to_tell) (s.none_waits kind to_tell);
    }

stands_arose : (before : List Happened) (q : EventKind) → Stands before → Stands (next before (arose q))
stands_arose before q s =
    let n : ℕ = completions_since before in
    let xs : List ℕ = requests_since before in
    let b : Bool = is_enabled before q && not (is_owed before q) in
    let a : Option Completion = answer_to before (arose q) in
    record {
      told_owed = λ kind. either (tells a kind) (is_told before kind) (((is_same_kind q kind && is_enabled before kind) || is_owed before kind) ≡ true)
          (λ told. let its = told_of q kind b (first_of (waits_of before)) told in owed_now before q kind its.0 its.1)
          (λ told. or_right (is_same_kind q kind && is_enabled before kind) (is_owed before kind) (s.told_owed kind told));
      counted = within_all n (count_of a) xs (completed_waited b (completion_of q) n xs s.counted);
      none_waits = λ kind h. elim (to_tell_cases (is_same_kind q kind) (is_enabled before kind) (is_owed before kind) (tells a kind) (is_told before kind) h) [
        | inl to_tell ↦
            let all = s.none_waits kind to_tell in
            rw (none_answered q (waits_of before) b (none_left n xs all)) (same_all n xs all)
        | inr (same, enabled, not_owed, silent) ↦
            let is : kind ≡ q = sym (same_kind q kind same) in
            let here : b ≡ true = subst (λ (k : EventKind). (is_enabled before k && not (is_owed before k)) ≡ true) is (rw (enabled, not_owed) refl) in
            let answer : a ≡ option_map (completion_of q) (first_of (waits_of before)) = rw here refl in
            let quiet : tells (option_map (completion_of q) (first_of (waits_of before))) q ≡ false =
            ap (λ (o : Option Completion). tells o q) (sym answer) ∙ ap (λ (k : EventKind). tells a k) (sym is) ∙ silent in
            let none : option_map (completion_of q) (first_of (waits_of before)) ≡ None = tells_its_own q (first_of (waits_of before)) quiet in
            rw (answer, none) (same_all n xs (none_completed (completion_of q) n xs s.counted none))
      ];
    }

stands_next : (before : List Happened) (o : Occurrence) → Stands before → Stands (next before o)
stands_next before (accepted cid) s = stands_accepted before cid s
stands_next before (arose q) s = stands_arose before q s
stands_next before (read_page q rae) s =
    record {
      told_owed = λ kind. left_told (is_same_kind q kind && not rae) (is_owed before kind) (is_told before kind) (s.told_owed kind);
      counted = within_all (completions_since before) 0 (requests_since before) (omega (arith, s.counted));
      none_waits = λ kind h. same_all (completions_since before) (requests_since before) (s.none_waits kind (left_to_tell (is_same_kind q kind && not rae) (is_owed before kind) (is_told before kind) h));
    }
stands_next before (set_mask mask) s =
    record {
      told_owed = s.told_owed;
      counted = within_all (completions_since before) 0 (requests_since before) (omega (arith, s.counted));
      none_waits = λ kind h. same_all (completions_since before) (requests_since before) (s.none_waits kind h);
    }
stands_next before was_reset s = record { told_owed = λ kind h. h; counted = omega arith; none_waits = λ kind h. refl }

pub stands : (h : List Happened) → IsAnswered h → Stands h
stands [] answered = record { told_owed = λ kind h. h; counted = omega arith; none_waits = λ kind h. refl }
stands (x ∷ before) answered =
    subst (λ (a : Option Completion). Stands (record { occurrence = x.occurrence; answer = a } ∷ before)) (sym answered.0)
    (stands_next before x.occurrence (stands before answered.2))
