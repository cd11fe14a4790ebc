-- The loop of a step: fronts are taken until one tells something.
use Rattle.std.proofs.Common.{◌≡◌, ◌≢◌, List, [], ◌∷◌, ◌++◌, length, Bool, true, false, Result, Ok, Err, refl, sym, ap, subst, inl, inr, arith}
use Rattle.std.specs.Prelude.{Some, None}
use Rattle.pdu_cut.specs.Front.{Front, incomplete}
use Rattle.host_driver.specs.Event.{consumed_at}
use Rattle.host_driver.specs.Told.{Told, quiet}
use Rattle.host_driver.specs.declared.answer.HostStep.{HostStep}
use Rattle.host_driver.specs.declared.answer.HostStep.TheVariants as step
use Rattle.host_driver.specs.declared.fault.HostFault.{HostFault}
use Rattle.host_driver.specs.declared.fault.HostFault.TheVariants as fault
use Rattle.host_driver.specs.Queue.{Answers, Idles, IsQuiet, Looping, QueueState, StepsIn, TakesOne, Wants, at_front, moved, run, step_told, tells_at, with_taken}
use Rattle.host_driver.proofs.Agreeing.{more_agrees}

pub begins_looping : (q : QueueState) → Looping q q true
unfolding run IsQuiet with_taken
begins_looping q = record { fronts = []; are_quiet = tt; moved = refl; began = refl; agrees = λ given h received gave a. a }

some_same : (a b : Told) → Some a ≡ Some b → a ≡ b
some_same a b h = cc

pub goes_on : (old mid new : QueueState) (is_first : Bool) → Looping old mid is_first → TakesOne mid (Ok None) new → Looping old new false
unfolding run IsQuiet
goes_on old mid new is_first l t =
    let f = at_front mid in
    record {
      fronts = f ∷ l.fronts;
      are_quiet = (l.are_quiet, ap at_front (sym l.moved), subst (λ (q : QueueState). tells_at q f ≡ quiet) l.moved (sym (some_same quiet (tells_at mid f) t.told)));
      moved = subst (λ (q : QueueState). new ≡ moved f q) l.moved t.moved;
      began = omega arith;
      agrees = more_agrees f l.fronts old mid new (ap (λ (q : QueueState). q.session) t.moved) t.begins l.agrees;
    }

idles_at_end : (old mid new : QueueState) (is_first : Bool) → Looping old mid is_first → new ≡ mid → at_front mid ≡ incomplete → Idles old new
idles_at_end old mid new is_first l same none = rw same (record {
  fronts = l.fronts;
  are_quiet = l.are_quiet;
  moved = l.moved;
  stands = inl none;
  agrees = l.agrees;
})

idles_wanting : (old mid new : QueueState) → Looping old mid false → Wants mid new → Idles old new
idles_wanting old mid new l w = rw w.same (record {
  fronts = l.fronts;
  are_quiet = l.are_quiet;
  moved = l.moved;
  stands = inr (l.began, w.is_hungry);
  agrees = l.agrees;
})

-- the last of them tells something
pub tells_last : (old mid new : QueueState) (is_first : Bool) (answer : Result HostStep HostFault) → Looping old mid is_first
    → at_front mid ≢ incomplete → step_told answer ≡ Some (tells_at mid (at_front mid)) → new ≡ moved (at_front mid) mid
    → mid.held ≡ consumed_at (at_front mid) ++ new.held → Answers old answer new
tells_last old mid new is_first answer l there told moves begins =
    let f = at_front mid in
    record {
      fronts = l.fronts;
      are_quiet = l.are_quiet;
      last = f;
      at = ap at_front (sym l.moved);
      is_there = there;
      told = subst (λ (q : QueueState). step_told answer ≡ Some (tells_at q f)) l.moved told;
      moved = subst (λ (q : QueueState). new ≡ moved f q) l.moved moves;
      agrees = more_agrees f l.fronts old mid new (ap (λ (q : QueueState). q.session) moves) begins l.agrees;
    }

ends_told : (old mid new : QueueState) (is_first : Bool) (answer : Result HostStep HostFault) → Looping old mid is_first
    → at_front mid ≢ incomplete → step_told answer ≡ Some (tells_at mid (at_front mid)) → new ≡ moved (at_front mid) mid
    → mid.held ≡ consumed_at (at_front mid) ++ new.held → StepsIn old answer new
ends_told old mid new is_first (Ok step.Idle) l there told moves begins = cc
ends_told old mid new is_first (Ok (step.Connected cntlid)) l there told moves begins = tells_last old mid new is_first _ l there told moves begins
ends_told old mid new is_first (Ok (step.Done a)) l there told moves begins = tells_last old mid new is_first _ l there told moves begins
ends_told old mid new is_first (Err fault.Memory) l there told moves begins = cc
ends_told old mid new is_first (Err fault.Failed) l there told moves begins = tells_last old mid new is_first _ l there told moves begins
ends_told old mid new is_first (Err (fault.Fault fes fei)) l there told moves begins = tells_last old mid new is_first _ l there told moves begins
ends_told old mid new is_first (Err (fault.Term fes fei)) l there told moves begins = tells_last old mid new is_first _ l there told moves begins
ends_told old mid new is_first (Err (fault.Refused status)) l there told moves begins = tells_last old mid new is_first _ l there told moves begins
ends_told old mid new is_first (Err fault.NotConnected) l there told moves begins = tells_last old mid new is_first _ l there told moves begins
ends_told old mid new is_first (Err fault.TooLarge) l there told moves begins = tells_last old mid new is_first _ l there told moves begins
ends_told old mid new is_first (Err fault.QueueFull) l there told moves begins = tells_last old mid new is_first _ l there told moves begins

-- at the first front nothing was taken before
wants_first : (old mid new : QueueState) → Looping old mid true → Wants mid new → Wants old new
unfolding run
wants_first old mid new l w = by l.fronts l.moved l.began
  where
    by : (fs : List Front) → mid ≡ run fs old → length fs ≡ 0 → Wants old new
    by [] same none = subst (λ (q : QueueState). Wants q new) same w
    by (f ∷ fs) same none = absurd (omega (arith, none))

pub idles : (old mid new : QueueState) (is_first : Bool) → Looping old mid is_first → (new ≡ mid) × (at_front mid ≡ incomplete) → StepsIn old (Ok step.Idle) new
idles old mid new is_first l t = idles_at_end old mid new is_first l t.0 t.1

pub starves : (old mid new : QueueState) (is_first : Bool) → Looping old mid is_first → is_first ≡ true → Wants mid new → StepsIn old (Err fault.Memory) new
starves old mid new is_first l first t = wants_first old mid new (rw first at l) t

pub idles_later : (old mid new : QueueState) (is_first : Bool) → Looping old mid is_first → is_first ≡ false → Wants mid new → StepsIn old (Ok step.Idle) new
idles_later old mid new is_first l later t = idles_wanting old mid new (rw later at l) t

pub steps : (old mid new : QueueState) (is_first : Bool) (s : HostStep) → Looping old mid is_first → TakesOne mid (Ok (Some s)) new → StepsIn old (Ok s) new
steps old mid new is_first s l t = ends_told old mid new is_first (Ok s) l t.is_there t.told t.moved t.begins

pub fails : (old mid new : QueueState) (is_first : Bool) (f : HostFault) → Looping old mid is_first → TakesOne mid (Err f) new → StepsIn old (Err f) new
fails old mid new is_first f l t = ends_told old mid new is_first (Err f) l t.is_there t.told t.moved t.begins
