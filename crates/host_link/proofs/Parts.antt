-- The parts of a turn.
use Rattle.std.proofs.Common.{◌≡◌, ℕ, ◌+◌, ◌-◌, ◌<◌, ◌≤◌, List, ◌++◌, Bool, ◌||◌, Result, Ok, Err, length, min, take, drop, refl, sym, ap, ◌∙◌, subst, take-append-drop, arith}
use Rattle.std.specs.Prelude.{◌==◌, Option, slice_range}
use Rattle.host_driver.specs.declared.answer.HostStep.{HostStep}
use Rattle.host_driver.specs.Queue.{QueueState, ReceiveAgrees, TakenAgrees}
use Rattle.host_link.specs.declared.fault.SessionFault.{SessionFault}
use Rattle.host_link.specs.declared.fault.SessionFault.TheVariants.{Io}
use Rattle.host_link.specs.Calls.{MovesBy, ReceivesBy, SendsBy}
use Rattle.host_link.specs.Conversation.{Conversation, HandsOn, Receiving, came, failed, not_asked, room_for, sent, with_output}
use Rattle.host_link.specs.Filling.{FillsBy, IsAnswerOf}
use Rattle.host_link.specs.Link.{LinkState, Takes}
use Rattle.host_link.specs.Turn.{receiving_result}
use Rattle.host_link.proofs.Ranges.{left_of}
use Rattle.host_link.proofs.Turning.{turns, turns_fewer}

-- ---- to the link

abbrev after_send : Conversation → LinkState → QueueState → Bool → Conversation
after_send c link queue empty = record c { link = link; queue = queue; is_sent = c.is_sent || empty }

pub sends_some : (n : ℕ) (output : List ℕ) (empty : Bool) (before old : Conversation) (link : LinkState) (queue : QueueState) → old ≡ before
    → output ≡ old.queue.session.output → n ≤ length output → Takes (take n output) old.link link
    → queue ≡ with_output (drop n old.queue.session.output) old.queue → TakenAgrees (take n old.queue.session.output) old.queue queue
    → empty ≡ (length queue.session.output == 0) → SendsBy (Ok tt) before (after_send old link queue empty)
sends_some n output empty before old link queue same lent within takes moved agrees none =
    let all = old.queue.session.output in
    let left : queue.session.output ≡ drop n all = ap (λ (q : QueueState). q.session.output) moved in
    let here : queue ≡ with_output queue.session.output old.queue = moved ∙ ap (λ (o : List ℕ). with_output o old.queue) (sym left) in
    subst (λ (c : Conversation). SendsBy (Ok tt) c (after_send old link queue empty)) same (record {
      sending = sent (take n all);
      sends = record {
        first = sym (take-append-drop n all) ∙ ap (λ (l : List ℕ). take n all ++ l) (sym left);
        link = subst (λ (l : List ℕ). Takes (take n l) old.link link) lent takes;
        agrees = agrees;
        stays = ap (λ (q : QueueState). after_send old link q empty) here
            ∙ ap (λ (b : Bool). after_send old link (with_output queue.session.output old.queue) b) none;
      };
      is = refl;
    })

-- ---- to the queue

pub hands_on : (buffer lent before : List ℕ) (start end n : ℕ) (old new : QueueState) → slice_range buffer start end ≡ before → lent ≡ buffer → start ≤ end
    → n ≡ min (135168 - length old.held) (length (slice_range lent start end)) → new ≡ record old { held = old.held ++ take n (slice_range lent start end) }
    → n ≤ length (slice_range lent start end) → length (slice_range lent start end) ≡ end - start
    → ReceiveAgrees (take n (slice_range lent start end)) old new → HandsOn before (slice_range buffer (start + n) end) old new
hands_on buffer lent before start end n old new here same within number held most len agrees =
    let all : slice_range lent start end ≡ before = ap (λ (l : List ℕ). slice_range l start end) same ∙ here in
    let room : n ≡ room_for old before = number ∙ ap (λ (l : List ℕ). room_for old l) all in
    record {
      left = left_of buffer start n end (omega (arith, most, len, within)) ∙ ap (λ (l : List ℕ). drop n l) here ∙ ap (λ (m : ℕ). drop m before) room;
      queue = held ∙ ap (λ (l : List ℕ). let q : QueueState = record old { held = old.held ++ take n l } in q) all
          ∙ ap (λ (m : ℕ). let q : QueueState = record old { held = old.held ++ take m before } in q) room;
      agrees = subst (λ (m : ℕ). ReceiveAgrees (take m before) old new) room (subst (λ (l : List ℕ). ReceiveAgrees (take n l) old new) all agrees);
    }

-- ---- from the link

abbrev after_receive : Conversation → LinkState → QueueState → List ℕ → Conversation
after_receive c link queue held = record c { link = link; queue = queue; held = held }

module _ {E : Type 0} where
  answered_ok : (r : Receiving) (d : Unit {0}) (result : Result (Unit {0}) E) → result ≡ Ok d → IsAnswerOf r result → Ok tt ≡ receiving_result r
  answered_ok (came bytes) d result is h = refl
  answered_ok failed d (Ok e) is h = absurd h
  answered_ok failed d (Err f) is h = cc
  answered_ok not_asked d result is h = refl

  answered_err : (r : Receiving) (f : E) (result : Result (Unit {0}) E) → result ≡ Err f → IsAnswerOf r result → Err Io ≡ receiving_result r
  answered_err failed f result is h = refl
  answered_err (came bytes) f (Ok e) is h = cc
  answered_err (came bytes) f (Err g) is h = absurd h
  answered_err not_asked f (Ok e) is h = cc
  answered_err not_asked f (Err g) is h = absurd h

  receives : (r : Result (Unit {0}) SessionFault) (result : Result (Unit {0}) E) (before old : Conversation) (link : LinkState) (queue : QueueState) (held after : List ℕ)
      → old ≡ before → (f : FillsBy result old.link link old.held held) → HandsOn held after old.queue queue → r ≡ receiving_result f.receiving
      → ReceivesBy r before (after_receive old link queue after)
  receives r result before old link queue held after same f h is =
      subst (λ (c : Conversation). ReceivesBy r c (after_receive old link queue after)) same (record {
        receiving = f.receiving;
        stands = record old { link = link; held = held };
        receives = record { fills = f.fills; stays = refl };
        hands = record { hands = h; stays = refl };
        is = is;
      })

  pub receives_ok : (d : Unit {0}) (result : Result (Unit {0}) E) (before old : Conversation) (link : LinkState) (queue : QueueState) (held after : List ℕ)
      → old ≡ before → FillsBy result old.link link old.held held → HandsOn held after old.queue queue → result ≡ Ok d
      → ReceivesBy (Ok tt) before (after_receive old link queue after)
  receives_ok d result before old link queue held after same f h is =
      receives (Ok tt) result before old link queue held after same f h (answered_ok f.receiving d result is f.answers)

  pub receives_err : (e : E) (result : Result (Unit {0}) E) (before old : Conversation) (link : LinkState) (queue : QueueState) (held after : List ℕ)
      → old ≡ before → FillsBy result old.link link old.held held → HandsOn held after old.queue queue → result ≡ Err e
      → ReceivesBy (Err Io) before (after_receive old link queue after)
  receives_err e result before old link queue held after same f h is =
      receives (Err Io) result before old link queue held after same f h (answered_err f.receiving e result is f.answers)

-- ---- the turns that are left

pub fewer_turns : (result : Result (Option HostStep) SessionFault) (before old new : Conversation) → old ≡ before → 0 < before.turns → MovesBy result (record old { turns = old.turns - 1 }) new
    → new.turns < before.turns
fewer_turns result before old new same left m =
    subst (λ (c : Conversation). new.turns < c.turns) same
    (turns_fewer result old new (turns result old new (subst (λ (c : Conversation). 0 < c.turns) (sym same) left) m))
