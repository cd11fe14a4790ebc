-- A queue that goes where an event leads goes on to agree with the history.
use Rattle.std.proofs.Common.{◌≡◌, ℕ, List, [], ◌∷◌, ◌++◌, Result, Ok, Err, sym, ap, ◌∙◌, append_assoc}
use Rattle.std.specs.Prelude.{IfOk}
use Rattle.host_driver.specs.declared.fault.HostFault.{HostFault}
use Rattle.pdu_cut.specs.Front.{Front}
use Rattle.host_driver.specs.declared.params.HostParams.{HostParams}
use Rattle.host_driver.specs.Command.{Command}
use Rattle.host_driver.specs.Event.{Event, consumed_at, submitted, taken}
use Rattle.host_driver.specs.History.{sent_after, taken_after, took}
use Rattle.host_driver.specs.State.{after_event, state_after}
use Rattle.host_driver.specs.Told.{sends}
use Rattle.host_driver.specs.Queue.{AgreesAfter, AgreesAfterAll, IsOpened, QueueState, SubmitsOn, with_taken}
use Rattle.host_driver.specs.Session.{IsFirst, SessionState, Submits, after}

pub first_agrees : (params : HostParams) (q : QueueState) → IsFirst params q.session → q.held ≡ [] → IsOpened params q
unfolding state_after sent_after taken_after
first_agrees params q first none = (
  first,
  none,
  record {
    params = ap (λ (s : SessionState). s.params) first;
    state = ap (λ (s : SessionState). s.state) first;
    sent = ap (λ (s : SessionState). s.output) first;
    came = sym none;
  },
)

pub after_agrees : (e : Event) (old new : QueueState) → new.session ≡ after e old.session → old.held ≡ took e ++ new.held → AgreesAfter e old new
unfolding state_after sent_after taken_after
after_agrees e old new moved held given h received gave a =
    let output = old.session.output in
    let said = sends old.session.params old.session.state e in
    record {
      params = ap (λ (s : SessionState). s.params) moved ∙ a.params;
      state = ap (λ (s : SessionState). s.state) moved ∙ ap (λ p. after_event p old.session.state e) a.params ∙ ap (λ s. after_event given s e) a.state;
      sent = ap (λ (s : SessionState). gave ++ s.output) moved ∙ sym (append_assoc gave output said) ∙ ap (λ (l : List ℕ). l ++ said) a.sent
          ∙ ap (λ p. sent_after given h ++ sends p old.session.state e) a.params ∙ ap (λ s. sent_after given h ++ sends given s e) a.state;
      came = a.came ∙ ap (λ (l : List ℕ). taken_after h ++ l) held ∙ sym (append_assoc (taken_after h) (took e) new.held);
    }

pub submits_on : (cid : ℕ) (c : Command) (old new : QueueState) → Submits cid c old.session new.session → new.held ≡ old.held → SubmitsOn cid c old new
submits_on cid c old new submits held = record {
  submits = submits;
  held = held;
  agrees = after_agrees (submitted cid c) old new submits.moved (sym held);
}

pub submits_where_ok : (answer : Result ℕ HostFault) (c : Command) (old new : QueueState) → IfOk answer (λ cid. Submits cid c old.session new.session)
    → new.held ≡ old.held → IfOk answer (λ cid. SubmitsOn cid c old new)
submits_where_ok (Ok cid) c old new submits held = submits_on cid c old new submits held
submits_where_ok (Err f) c old new submits held = tt

-- .. after some fronts that were taken, and one more
pub more_agrees : (f : Front) (fs : List Front) (old mid new : QueueState) → new.session ≡ after (taken f) mid.session → mid.held ≡ consumed_at f ++ new.held
    → AgreesAfterAll fs old mid → AgreesAfterAll (f ∷ fs) old new
unfolding with_taken
more_agrees f fs old mid new moved held before given h received gave a =
    after_agrees (taken f) mid new moved held given (with_taken fs h) received gave (before given h received gave a)
