-- From the parts of a turn to the turn.
use Rattle.std.proofs.Common.{◌≡◌, ℕ, ◌≤◌, ◌<◌, ◌+◌, ◌-◌, List, [], ◌∷◌, Bool, true, false, Result, Ok, Err, length, refl, sym, ap, ◌∙◌, subst, arith}
use Rattle.std.specs.Prelude.{Option, Some, None}
use Rattle.host_driver.specs.declared.answer.HostStep.{HostStep}
use Rattle.host_driver.specs.declared.answer.HostStep.TheVariants as step
use Rattle.host_driver.specs.declared.fault.HostFault.{HostFault}
use Rattle.host_driver.specs.declared.fault.HostFault.TheVariants as fault
use Rattle.host_driver.specs.Queue.{Answers, Idles, QueueState, StepsBy, StepsIn, StepsWhere, AgreesAfterAll, run, with_taken}
use Rattle.host_driver.specs.Session.{is_failed}
use Rattle.pdu_cut.specs.Front.{Front}
use Rattle.host_link.specs.declared.fault.SessionFault.{SessionFault}
use Rattle.host_link.specs.Calls.{MovesBy, ReceivesBy, SendsBy, StepsOnce, StepsOut, TurnsBy}
use Rattle.host_link.specs.Conversation.{Conversation, Sending, Sends, Step, StepsQueue, sent, unsent}
use Rattle.host_link.specs.Fault.{of_queue}
use Rattle.host_link.specs.Turn.{AreTelling, Moves, SendsLast, StepsAll, TakesTurn, Turn, is_telling, outcome_by, receiving_result, sending_result, told_behind, told_by, told_in, told_last}

-- ---- a step of the queue

idles_step : (old new : QueueState) (answer : Result HostStep HostFault) → StepsBy old answer new → Idles old new
    → (fronts : List Front) × StepsQueue (record { fronts = fronts; answer = answer }) old new
idles_step old new answer by i = (i.fronts, record { steps = by; moved = i.moved; agrees = i.agrees })

answers_step : (old new : QueueState) (answer : Result HostStep HostFault) → StepsBy old answer new → Answers old answer new
    → (fronts : List Front) × StepsQueue (record { fronts = fronts; answer = answer }) old new
unfolding run
answers_step old new answer by a = (a.last ∷ a.fronts, record { steps = by; moved = a.moved; agrees = a.agrees })

same_step : (old new : QueueState) (answer : Result HostStep HostFault) → StepsBy old answer new → new ≡ old
    → (fronts : List Front) × StepsQueue (record { fronts = fronts; answer = answer }) old new
unfolding run with_taken
same_step old new answer by same = (
  [],
  record {
    steps = by;
    moved = same;
    agrees = subst (λ (q : QueueState). AgreesAfterAll [] old q) (sym same) (λ given h received gave a. a);
  },
)

steps_in : (old new : QueueState) (answer : Result HostStep HostFault) → StepsBy old answer new → StepsIn old answer new
    → (fronts : List Front) × StepsQueue (record { fronts = fronts; answer = answer }) old new
steps_in old new (Ok step.Idle) by h = idles_step old new _ by h
steps_in old new (Ok (step.Connected cntlid)) by h = answers_step old new _ by h
steps_in old new (Ok (step.Done a)) by h = answers_step old new _ by h
steps_in old new (Err fault.Memory) by h = same_step old new _ by h.same
steps_in old new (Err fault.Failed) by h = answers_step old new _ by h
steps_in old new (Err (fault.Fault fes fei)) by h = answers_step old new _ by h
steps_in old new (Err (fault.Term fes fei)) by h = answers_step old new _ by h
steps_in old new (Err (fault.Refused status)) by h = answers_step old new _ by h
steps_in old new (Err fault.NotConnected) by h = answers_step old new _ by h
steps_in old new (Err fault.TooLarge) by h = answers_step old new _ by h
steps_in old new (Err fault.QueueFull) by h = answers_step old new _ by h

steps_where : (old new : QueueState) (answer : Result HostStep HostFault) (is_failed : Bool) → StepsBy old answer new → StepsWhere is_failed old answer new
    → (fronts : List Front) × StepsQueue (record { fronts = fronts; answer = answer }) old new
steps_where old new answer true by h = same_step old new answer by h.1
steps_where old new answer false by h = steps_in old new answer by h

-- what it took
pub fronts_of : (old new : QueueState) (answer : Result HostStep HostFault) → StepsBy old answer new
    → (fronts : List Front) × StepsQueue (record { fronts = fronts; answer = answer }) old new
fronts_of old new answer by = steps_where old new answer (is_failed old.session.state.phase) by by

-- ---- all steps

-- these steps were made so far, and each told something
pub record Stepping (old new : Conversation) (count : ℕ) (told : Option HostStep) : Type 0 where
  pub steps : List Step
  pub all : StepsAll steps old new
  pub are_telling : AreTelling steps
  pub number : length steps ≡ count
  pub is : told ≡ told_last steps

pub begins_stepping : (c : Conversation) → Stepping c c 0 None
begins_stepping c = record { steps = []; all = refl; are_telling = tt; number = refl; is = refl }

pub tells_more : (s : HostStep) (old mid new : Conversation) (count next : ℕ) (told : Option HostStep) → Stepping old mid count told
    → StepsOnce (Ok s) mid new → is_telling (Ok s) ≡ true → next ≡ count + 1
    → Stepping old new next (Some s)
tells_more s old mid new count next told l once tells more =
    let found = fronts_of mid.queue new.queue (Ok s) once.steps in
    record {
      steps = record { fronts = found.0; answer = Ok s } ∷ l.steps;
      all = (mid, l.all, record { queue = found.1; stays = once.stays });
      are_telling = (tells, l.are_telling);
      number = omega (arith, l.number, more);
      is = refl;
    }

-- a step that is not idle tells something
pub telling : (s : HostStep) → (s ≡ step.Idle → ⊥) → is_telling (Ok s) ≡ true
telling step.Idle some = absurd (some refl)
telling (step.Connected cntlid) some = refl
telling (step.Done a) some = refl

-- the last one is idle, or a fault
pub steps_end : (answer : Result HostStep HostFault) (old mid new : Conversation) (count : ℕ) (told : Option HostStep) (result : Result (Option HostStep) HostFault)
    → Stepping old mid count told → StepsOnce answer mid new → is_telling answer ≡ false → count ≤ 63
    → result ≡ told_behind answer told → StepsOut result old new
steps_end answer old mid new count told result l once tells most is =
    let found = fronts_of mid.queue new.queue answer once.steps in
    record {
      steps = record { fronts = found.0; answer = answer } ∷ l.steps;
      all = (mid, l.all, record { queue = found.1; stays = once.stays });
      is_out = (l.are_telling, omega (arith, l.number, most), λ is_true. cc);
      is = is ∙ ap (λ (o : Option HostStep). told_behind answer o) l.is;
    }

-- there are 64 of them
pub steps_all : (old new : Conversation) (told : Option HostStep) → Stepping old new 64 told → StepsOut (Ok told) old new
steps_all old new told l = by l.steps l.all l.are_telling l.number l.is
  where
    last_told : (answer : Result HostStep HostFault) (before : Option HostStep) → is_telling answer ≡ true → Ok (told_by answer) ≡ told_behind answer before
    last_told (Ok step.Idle) before tells = cc
    last_told (Ok (step.Connected cntlid)) before tells = refl
    last_told (Ok (step.Done a)) before tells = refl
    last_told (Err f) before tells = cc

    by : (steps : List Step) → StepsAll steps old new → AreTelling steps → length steps ≡ 64 → told ≡ told_last steps → StepsOut (Ok told) old new
    by [] all telling number is = absurd (omega (arith, number))
    by (s ∷ ss) all telling number is = record {
      steps = s ∷ ss;
      all = all;
      is_out = (telling.1, omega (arith, number), λ tells. omega (arith, number));
      is = ap (λ (o : Option HostStep). let r : Result (Option HostStep) HostFault = Ok o in r) is ∙ last_told s.answer (told_last ss) telling.0;
    }

-- ---- the turn

-- where the queue met no fault
pub moves : (result : Result (Option HostStep) SessionFault) (sends receives : Result (Unit {0}) SessionFault) (told : Option HostStep) (old a b new : Conversation)
    → SendsBy sends old a → ReceivesBy receives a b → StepsOut (Ok told) b new → result ≡ outcome_by (Ok told) sends receives → MovesBy result old new
moves result sends receives told old a b new s r t is = record {
  turn = record { sending = s.sending; receiving = r.receiving; steps = t.steps; last = None };
  moves = record {
    then_sent = a;
    then_received = r.stands;
    then_handed = b;
    then_stepped = new;
    sends = s.sends;
    receives = r.receives;
    hands = r.hands;
    steps = t.all;
    is_out = t.is_out;
    ends = subst (λ (x : Result (Option HostStep) HostFault). SendsLast x None new new) t.is refl;
  };
  is = is ∙ ap (λ (x : Result (Option HostStep) HostFault). outcome_by x sends receives) t.is
      ∙ ap (λ (x : Result (Unit {0}) SessionFault). outcome_by (told_in t.steps) x receives) s.is
      ∙ ap (λ (x : Result (Unit {0}) SessionFault). outcome_by (told_in t.steps) (sending_result s.sending) x) r.is;
}

-- .. and where it did
pub moves_faulty : (f : HostFault) (sends receives last : Result (Unit {0}) SessionFault) (old a b c new : Conversation)
    → SendsBy sends old a → ReceivesBy receives a b → StepsOut (Err f) b c → SendsBy last c new → MovesBy (Err (of_queue f)) old new
moves_faulty f sends receives last old a b c new s r t l = record {
  turn = record { sending = s.sending; receiving = r.receiving; steps = t.steps; last = Some l.sending };
  moves = record {
    then_sent = a;
    then_received = r.stands;
    then_handed = b;
    then_stepped = c;
    sends = s.sends;
    receives = r.receives;
    hands = r.hands;
    steps = t.all;
    is_out = t.is_out;
    ends = subst (λ (x : Result (Option HostStep) HostFault). SendsLast x (Some l.sending) c new) t.is l.sends;
  };
  is = ap (λ (x : Result (Option HostStep) HostFault). outcome_by x (sending_result s.sending) (receiving_result r.receiving)) t.is;
}

-- ---- the turns that are left

turns_of : Conversation → ℕ
turns_of c = c.turns

sends_turns : (s : Sending) (old new : Conversation) → Sends s old new → new.turns ≡ old.turns
sends_turns (sent bytes) old new h = ap (λ (c : Conversation). c.turns) h.stays
sends_turns unsent old new h = ap (λ (c : Conversation). c.turns) h.stays

steps_turns : (ss : List Step) (old new : Conversation) → StepsAll ss old new → new.turns ≡ old.turns
steps_turns [] old new same = ap (λ (c : Conversation). c.turns) same
steps_turns (s ∷ ss) old new h = ap (λ (c : Conversation). c.turns) h.2.stays ∙ steps_turns ss old h.0 h.1

last_turns : (r : Result (Option HostStep) HostFault) (last : Option Sending) (old new : Conversation) → SendsLast r last old new → new.turns ≡ old.turns
last_turns (Ok told) None old new same = ap (λ (c : Conversation). c.turns) same
last_turns (Ok told) (Some s) old new h = absurd h
last_turns (Err f) None old new h = absurd h
last_turns (Err f) (Some s) old new h = sends_turns s old new h

pub moves_turns : (t : Turn) (old new : Conversation) → Moves t old new → new.turns ≡ old.turns
moves_turns t old new m =
    last_turns (told_in t.steps) t.last m.then_stepped new m.ends ∙ steps_turns t.steps m.then_handed m.then_stepped m.steps
    ∙ ap (λ (c : Conversation). c.turns) m.hands.stays ∙ ap (λ (c : Conversation). c.turns) m.receives.stays
    ∙ sends_turns t.sending old m.then_sent m.sends

pub takes_turns : (t : Turn) (old new : Conversation) → TakesTurn t old new → new.turns < old.turns
takes_turns t old new h = omega (arith, moves_turns t (record old { turns = old.turns - 1 }) new h.moves, h.is_left)

-- one of the turns that are left is taken
pub turns : (result : Result (Option HostStep) SessionFault) (old new : Conversation) → 0 < old.turns → MovesBy result (record old { turns = old.turns - 1 }) new
    → TurnsBy result old new
turns result old new left m = record { turn = m.turn; takes = record { is_left = omega (arith, left); moves = m.moves }; is = m.is }

pub turns_fewer : (result : Result (Option HostStep) SessionFault) (old new : Conversation) → TurnsBy result old new → new.turns < old.turns
turns_fewer result old new t = takes_turns t.turn old new t.takes
