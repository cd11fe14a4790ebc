-- A front that is taken: what it consumes is gone, and where it tells nothing there are fewer bytes.
use Rattle.std.proofs.Common.{◌≡◌, ◌≢◌, ℕ, ◌≤◌, ◌<◌, ◌+◌, List, ◌++◌, length, drop, Result, refl, sym, ap, ◌∙◌, arith, length-append}
use Rattle.std.specs.Prelude.{Option, Some}
use Rattle.pdu_cut.specs.declared.side.Side.TheVariants.{Host}
use Rattle.pdu_cut.specs.Front.{Front, incomplete, whole, faulty}
use Rattle.host_driver.specs.Event.{consumed_at, taken}
use Rattle.host_driver.specs.Told.{quiet}
use Rattle.host_driver.specs.declared.answer.HostStep.{HostStep}
use Rattle.host_driver.specs.declared.fault.HostFault.{HostFault}
use Rattle.host_driver.specs.Queue.{QueueState, TakesOne, at_front, moved, tells_at}
use Rattle.host_driver.specs.Session.{SessionState, after, told_of}
use Rattle.host_driver.proofs.Fronts.{some_consumed}

quiet_consumes : (q : QueueState) (f : Front) → at_front q ≡ f → f ≢ incomplete → tells_at q f ≡ quiet → 1 ≤ length (consumed_at f)
quiet_consumes q incomplete here there is = absurd (there refl)
quiet_consumes q (whole pdu) here there is = omega (arith, some_consumed Host q.held pdu here)
quiet_consumes q (faulty fault head) here there is = cc

queue : SessionState → List ℕ → QueueState
queue s h = record { session = s; held = h }

same_queue : (a b : QueueState) → a.session ≡ b.session → a.held ≡ b.held → a ≡ b
unfolding queue
same_queue a b session held =
    ap (λ (s : SessionState). queue s a.held) session ∙ ap (λ (h : List ℕ). queue b.session h) held

pub takes_one : (f : Front) (old new : QueueState) (answer : Result (Option HostStep) HostFault) → at_front old ≡ f → f ≢ incomplete
    → new.session ≡ after (taken f) old.session → new.held ≡ drop (length (consumed_at f)) old.held
    → old.held ≡ consumed_at f ++ drop (length (consumed_at f)) old.held
    → told_of answer ≡ Some (tells_at old f) → TakesOne old answer new
takes_one f old new answer here there session held begins told =
    let moves : new ≡ moved f old = same_queue new (moved f old) session held in
    let split : old.held ≡ consumed_at f ++ new.held = begins ∙ ap (λ (l : List ℕ). consumed_at f ++ l) (sym held) in
    record {
      is_there = rw here there;
      told = rw here told;
      moved = rw here moves;
      begins = rw here split;
      shorter = λ is. shorter_by (length (consumed_at f)) (quiet_consumes old f here there (rw here at is)) (ap length split ∙ length-append (consumed_at f) new.held);
    }
  where
    shorter_by : (n : ℕ) → 1 ≤ n → length old.held ≡ n + length new.held → length new.held < length old.held
    shorter_by n some is = omega (arith, some, is)

pub ruleset taking = (takes_one)
