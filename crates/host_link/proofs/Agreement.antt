-- What a turn adds to what a conversation agrees with, and to what its link tells.
use Rattle.std.proofs.Common.{◌≡◌, ℕ, ◌-◌, List, [], ◌∷◌, ◌++◌, Result, Ok, Err, take, sym, ap, ◌∙◌, subst, append_assoc, take-append-drop}
use Rattle.std.specs.Prelude.{Option, Some, None}
use Rattle.std.specs.Option.{option_map}
use Rattle.std.proofs.lemmas.List.{append-nil}
use Rattle.host_driver.specs.declared.params.HostParams.{HostParams}
use Rattle.host_driver.specs.Command.{Command}
use Rattle.host_driver.specs.Event.{History, submitted}
use Rattle.host_driver.specs.declared.answer.HostStep.{HostStep}
use Rattle.host_driver.specs.declared.fault.HostFault.{HostFault}
use Rattle.host_driver.specs.Queue.{Agrees, QueueState}
use Rattle.host_link.specs.Conversation.{Conversation, FillsWith, Hands, Receives, Receiving, Sending, Sends, Step, came, failed, not_asked, room_for, sent, unsent}
use Rattle.host_link.specs.Laws.{ConversationAgrees, ConversationsAgree, LinksTell, came_in, history_after, sent_in, sent_last, took_in}
use Rattle.host_link.specs.Link.{HandsOut, LinkState, Takes, Told, with_handed_out, with_taken}
use Rattle.host_link.specs.Session.{IsBegun, SubmitsNext}
use Rattle.host_link.specs.Turn.{SendsLast, StepsAll, TakesTurn, Turn, told_in}

-- what is handed out goes behind what is held
came_behind : (r : Receiving) (l m : LinkState) (before after received handed_out : List ℕ) → FillsWith r l m before after
    → handed_out ≡ received ++ before → handed_out ++ came_in r ≡ received ++ after
came_behind (came bytes) l m before after received handed_out fills is =
    let e : handed_out ≡ received = is ∙ ap (λ (x : List ℕ). received ++ x) fills.0 ∙ append-nil received in
    ap (λ (x : List ℕ). x ++ bytes) e ∙ ap (λ (x : List ℕ). received ++ x) (sym fills.2)
came_behind failed l m before after received handed_out fills is =
    append-nil handed_out ∙ is ∙ ap (λ (x : List ℕ). received ++ x) (sym fills.2)
came_behind not_asked l m before after received handed_out fills is =
    append-nil handed_out ∙ is ∙ ap (λ (x : List ℕ). received ++ x) (sym fills.2)

module _ (params : HostParams) where
  begun_agrees : (link : LinkState) (turns : ℕ) (c : Conversation) → IsBegun params link turns c → ConversationAgrees params [] [] [] c
  begun_agrees link turns c b = record {
    received = [];
    arrived = sym (ap (λ (d : Conversation). d.held) b.stays);
    queue = b.queue.2;
  }

  -- the queue goes on, with nothing taken or handed out
  goes_on : (h g : History) (handed_out took : List ℕ) (old new : Conversation) → new.held ≡ old.held
      → ((received : List ℕ) → Agrees params h received took old.queue → Agrees params g received took new.queue)
      → ConversationAgrees params h handed_out took old → ConversationAgrees params g handed_out took new
  goes_on h g handed_out took old new held on a = record {
    received = a.received;
    arrived = a.arrived ∙ ap (λ (l : List ℕ). a.received ++ l) (sym held);
    queue = on a.received a.queue;
  }

  submitted_agrees : (c : Command) (old new : Conversation) → (s : SubmitsNext c old new) → (h : History) (handed_out took : List ℕ)
      → ConversationAgrees params h handed_out took old → ConversationAgrees params (submitted s.cid c ∷ h) handed_out took new
  submitted_agrees c old new s h handed_out took a =
      goes_on h (submitted s.cid c ∷ h) handed_out took old new (ap (λ (d : Conversation). d.held) s.stays)
      (λ received. s.queue.agrees params h received took) a

  sends_agree : (s : Sending) (old new : Conversation) → Sends s old new → (h : History) (handed_out took : List ℕ)
      → ConversationAgrees params h handed_out took old → ConversationAgrees params h handed_out (took ++ sent_in s) new
  sends_agree (sent bytes) old new does h handed_out took a = record {
    received = a.received;
    arrived = a.arrived ∙ ap (λ (l : List ℕ). a.received ++ l) (sym (ap (λ (d : Conversation). d.held) does.stays));
    queue = does.agrees params h a.received took a.queue;
  }
  sends_agree unsent old new does h handed_out took a = record {
    received = a.received;
    arrived = a.arrived ∙ ap (λ (l : List ℕ). a.received ++ l) (sym (ap (λ (d : Conversation). d.held) does.stays));
    queue = subst (λ (l : List ℕ). Agrees params h a.received l new.queue) (sym (append-nil took))
        (subst (λ (q : QueueState). Agrees params h a.received took q) (sym (ap (λ (d : Conversation). d.queue) does.stays)) a.queue);
  }

  last_agrees : (r : Result (Option HostStep) HostFault) (last : Option Sending) (old new : Conversation) → SendsLast r last old new
      → (h : History) (handed_out took : List ℕ) → ConversationAgrees params h handed_out took old → ConversationAgrees params h handed_out (took ++ sent_last last) new
  last_agrees (Ok told) None old new same h handed_out took a =
      subst (λ (l : List ℕ). ConversationAgrees params h handed_out l new) (sym (append-nil took))
      (subst (λ (c : Conversation). ConversationAgrees params h handed_out took c) (sym same) a)
  last_agrees (Ok told) (Some s) old new does h handed_out took a = absurd does
  last_agrees (Err f) None old new does h handed_out took a = absurd does
  last_agrees (Err f) (Some s) old new does h handed_out took a = sends_agree s old new does h handed_out took a

  receives_agree : (r : Receiving) (old new : Conversation) → Receives r old new → (h : History) (handed_out took : List ℕ)
      → ConversationAgrees params h handed_out took old → ConversationAgrees params h (handed_out ++ came_in r) took new
  receives_agree r old new does h handed_out took a = record {
    received = a.received;
    arrived = came_behind r old.link new.link old.held new.held a.received handed_out does.fills a.arrived;
    queue = subst (λ (q : QueueState). Agrees params h a.received took q) (sym (ap (λ (d : Conversation). d.queue) does.stays)) a.queue;
  }

  hands_agree : (old new : Conversation) → Hands old new → (h : History) (handed_out took : List ℕ)
      → ConversationAgrees params h handed_out took old → ConversationAgrees params h handed_out took new
  hands_agree old new does h handed_out took a =
      let n = room_for old.queue old.held in
      record {
        received = a.received ++ take n old.held;
        arrived = a.arrived ∙ ap (λ (l : List ℕ). a.received ++ l) (sym (take-append-drop n old.held) ∙ ap (λ (l : List ℕ). take n old.held ++ l) (sym does.hands.left))
            ∙ sym (append_assoc a.received (take n old.held) new.held);
        queue = does.hands.agrees params h a.received took a.queue;
      }

  steps_agree : (ss : List Step) (old new : Conversation) → StepsAll ss old new → (h : History) (handed_out took : List ℕ)
      → ConversationAgrees params h handed_out took old → ConversationAgrees params (history_after ss h) handed_out took new
  steps_agree [] old new same h handed_out took a = subst (λ (c : Conversation). ConversationAgrees params h handed_out took c) (sym same) a
  steps_agree (s ∷ ss) old new does h handed_out took a =
      goes_on (history_after ss h) (history_after (s ∷ ss) h) handed_out took does.0 new (ap (λ (d : Conversation). d.held) does.2.stays)
      (λ received. does.2.queue.agrees params (history_after ss h) received took) (steps_agree ss old does.0 does.1 h handed_out took a)

  -- the turns that are left are no matter
  less_agrees : (c : Conversation) (n : ℕ) (h : History) (handed_out took : List ℕ) → ConversationAgrees params h handed_out took c
      → ConversationAgrees params h handed_out took (record c { turns = n })
  less_agrees c n h handed_out took a = record { received = a.received; arrived = a.arrived; queue = a.queue }

  turn_agrees : (t : Turn) (old new : Conversation) → TakesTurn t old new → (h : History) (handed_out took : List ℕ)
      → ConversationAgrees params h handed_out took old
      → ConversationAgrees params (history_after t.steps h) (handed_out ++ came_in t.receiving) (took ++ took_in t) new
  turn_agrees t old new takes h handed_out took a =
      let m = takes.moves in
      let first = sends_agree t.sending (record old { turns = old.turns - 1 }) m.then_sent m.sends h handed_out took (less_agrees old (old.turns - 1) h handed_out took a) in
      let next = receives_agree t.receiving m.then_sent m.then_received m.receives h handed_out (took ++ sent_in t.sending) first in
      let handed = hands_agree m.then_received m.then_handed m.hands h (handed_out ++ came_in t.receiving) (took ++ sent_in t.sending) next in
      let stepped = steps_agree t.steps m.then_handed m.then_stepped m.steps h (handed_out ++ came_in t.receiving) (took ++ sent_in t.sending) handed in
      subst (λ (l : List ℕ). ConversationAgrees params (history_after t.steps h) (handed_out ++ came_in t.receiving) l new)
      (append_assoc took (sent_in t.sending) (sent_last t.last))
      (last_agrees (told_in t.steps) t.last m.then_stepped new m.ends (history_after t.steps h) (handed_out ++ came_in t.receiving) (took ++ sent_in t.sending) stepped)

-- ---- what links tell

-- a link that told this tells that it handed out and took so much more
abbrev TellsMore : Told → List ℕ → List ℕ → LinkState → Type 0
TellsMore t handed_out took l = l.told ≡ Some (record { took = t.took ++ took; handed_out = t.handed_out ++ handed_out })

mapped : (f : Told → Told) (o : Option Told) (t : Told) → o ≡ Some t → option_map f o ≡ Some (f t)
mapped f o t is = ap (λ (x : Option Told). option_map f x) is

took_more : (t : Told) (handed_out took bytes : List ℕ) (l m : LinkState) → TellsMore t handed_out took l → Takes bytes l m → TellsMore t handed_out (took ++ bytes) m
took_more t handed_out took bytes l m tells does =
    does.told ∙ mapped (with_taken bytes) l.told (record { took = t.took ++ took; handed_out = t.handed_out ++ handed_out }) tells
    ∙ ap (λ (x : List ℕ). let told : Told = record { took = x; handed_out = t.handed_out ++ handed_out } in Some told) (append_assoc t.took took bytes)

handed_more : (t : Told) (handed_out took bytes : List ℕ) (l m : LinkState) → TellsMore t handed_out took l → HandsOut bytes l m → TellsMore t (handed_out ++ bytes) took m
handed_more t handed_out took bytes l m tells does =
    does.told ∙ mapped (with_handed_out bytes) l.told (record { took = t.took ++ took; handed_out = t.handed_out ++ handed_out }) tells
    ∙ ap (λ (x : List ℕ). let told : Told = record { took = t.took ++ took; handed_out = x } in Some told) (append_assoc t.handed_out handed_out bytes)

no_more : (xs : List ℕ) → xs ≡ xs ++ []
no_more xs = sym (append-nil xs)

sends_tell : (s : Sending) (t : Told) (handed_out took : List ℕ) (old new : Conversation) → Sends s old new → TellsMore t handed_out took old.link
    → TellsMore t handed_out (took ++ sent_in s) new.link
sends_tell (sent bytes) t handed_out took old new does tells = took_more t handed_out took bytes old.link new.link tells does.link
sends_tell unsent t handed_out took old new does tells =
    subst (λ (x : List ℕ). TellsMore t handed_out x new.link) (no_more took) (does.link.told ∙ tells)

receives_tell : (r : Receiving) (t : Told) (handed_out took before after : List ℕ) (l m : LinkState) → FillsWith r l m before after → TellsMore t handed_out took l
    → TellsMore t (handed_out ++ came_in r) took m
receives_tell (came bytes) t handed_out took before after l m does tells = handed_more t handed_out took bytes l m tells does.1
receives_tell failed t handed_out took before after l m does tells =
    subst (λ (x : List ℕ). TellsMore t x took m) (no_more handed_out) (does.1.told ∙ tells)
receives_tell not_asked t handed_out took before after l m does tells =
    subst (λ (x : List ℕ). TellsMore t x took m) (no_more handed_out) (ap (λ (s : LinkState). s.told) does.1 ∙ tells)

steps_link : (ss : List Step) (old new : Conversation) → StepsAll ss old new → new.link ≡ old.link
steps_link [] old new same = ap (λ (c : Conversation). c.link) same
steps_link (s ∷ ss) old new h = ap (λ (c : Conversation). c.link) h.2.stays ∙ steps_link ss old h.0 h.1

last_tells : (r : Result (Option HostStep) HostFault) (last : Option Sending) (t : Told) (handed_out took : List ℕ) (old new : Conversation) → SendsLast r last old new
    → TellsMore t handed_out took old.link → TellsMore t handed_out (took ++ sent_last last) new.link
last_tells (Ok told) None t handed_out took old new same tells =
    subst (λ (x : List ℕ). TellsMore t handed_out x new.link) (no_more took) (ap (λ (c : Conversation). c.link.told) same ∙ tells)
last_tells (Ok told) (Some s) t handed_out took old new does tells = absurd does
last_tells (Err f) None t handed_out took old new does tells = absurd does
last_tells (Err f) (Some s) t handed_out took old new does tells = sends_tell s t handed_out took old new does tells

turn_tells : (t : Turn) (old new : Conversation) (told : Told) → TakesTurn t old new → old.link.told ≡ Some told
    → TellsMore told (came_in t.receiving) (took_in t) new.link
turn_tells t old new told takes is =
    let m = takes.moves in
    let begins : TellsMore told [] [] old.link = is ∙ ap (λ (x : Told). Some x) (nothing told) in
    let sends : TellsMore told [] (sent_in t.sending) m.then_sent.link =
    sends_tell t.sending told [] [] (record old { turns = old.turns - 1 }) m.then_sent m.sends begins in
    let receives : TellsMore told (came_in t.receiving) (sent_in t.sending) m.then_received.link =
    receives_tell t.receiving told [] (sent_in t.sending) m.then_sent.held m.then_received.held m.then_sent.link m.then_received.link m.receives.fills sends in
    let steps : TellsMore told (came_in t.receiving) (sent_in t.sending) m.then_stepped.link =
    ap (λ (l : LinkState). l.told) (steps_link t.steps m.then_handed m.then_stepped m.steps ∙ ap (λ (c : Conversation). c.link) m.hands.stays) ∙ receives in
    last_tells (told_in t.steps) t.last told (came_in t.receiving) (sent_in t.sending) m.then_stepped new m.ends steps
  where
    nothing : (x : Told) → x ≡ record { took = x.took ++ []; handed_out = x.handed_out ++ [] }
    nothing x = ap (λ (l : List ℕ). let r : Told = record { took = l; handed_out = x.handed_out } in r) (no_more x.took)
        ∙ ap (λ (l : List ℕ). let r : Told = record { took = x.took ++ []; handed_out = l } in r) (no_more x.handed_out)

-- ---- the laws

pub conversations_agree : ConversationsAgree
conversations_agree = record {
  begun = λ params. begun_agrees params;
  submits = λ c old new s params. submitted_agrees params c old new s;
  turn = λ t old new takes params. turn_agrees params t old new takes;
}

pub links_tell : LinksTell
links_tell = record { turn = turn_tells }
