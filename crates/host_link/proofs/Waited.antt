-- From turns to what is waited for.
use Rattle.std.proofs.Common.{◌≡◌, ◌≤◌, ◌<◌, List, [], ◌∷◌, Bool, true, false, Result, Ok, Err, refl, sym, ap, inl, inr, arith}
use Rattle.std.specs.Prelude.{Option, None}
use Rattle.host_driver.specs.declared.answer.Answer.{Answer}
use Rattle.host_driver.specs.declared.answer.HostStep.{HostStep}
use Rattle.host_link.specs.declared.fault.SessionFault.{SessionFault}
use Rattle.host_link.specs.declared.fault.SessionFault.TheVariants as fault
use Rattle.host_link.specs.Calls.{TurnsBy}
use Rattle.host_link.specs.Conversation.{Conversation}
use Rattle.host_link.specs.Session.{Requests, answer_by, request_by}
use Rattle.host_link.specs.Turn.{Turn}
use Rattle.host_link.specs.Waiting.{AreQuiet, EndsByTurn, Waits, as_outcome, is_asked, never}
use Rattle.host_link.proofs.Turning.{takes_turns}

-- quiet turns so far
pub record Waiting (stops : Conversation → Bool) (old new : Conversation) : Type 0 where
  pub turns : List Turn
  pub quiet : AreQuiet stops turns old new

pub begins_waiting : (stops : Conversation → Bool) (c : Conversation) → Waiting stops c c
begins_waiting stops c = record { turns = []; quiet = refl }

pub waits_on : (stops : Conversation → Bool) (first old new : Conversation) → Waiting stops first old → TurnsBy (Ok None) old new
    → stops new ≡ false → Waiting stops first new
waits_on stops first old new w m on = record {
  turns = m.turn ∷ w.turns;
  quiet = (old, w.quiet, record { turn = m.takes; nothing = sym m.is; goes_on = on });
}

ends_by : (result : Result HostStep SessionFault) (old new : Conversation) → TurnsBy (as_outcome result) old new → EndsByTurn result old new
ends_by result old new m = record { turn = m.turn; takes = m.takes; told = sym m.is }

-- ---- until something is told

pub waits_told : (result : Result HostStep SessionFault) (first old new : Conversation) → Waiting never first old → TurnsBy (as_outcome result) old new → Waits result first new
waits_told result first old new w m = record { turns = w.turns; stands = old; quiet = w.quiet; ends = inr (ends_by result old new m) }

pub waits_out : (first old : Conversation) → Waiting never first old → old.turns ≡ 0 → Waits (Err fault.Turns) first old
waits_out first old w none = record {
  turns = w.turns;
  stands = old;
  quiet = w.quiet;
  ends = inl (refl, record { none_left = none; same = refl });
}

quiet_turns : (stops : Conversation → Bool) (ts : List Turn) (old new : Conversation) → AreQuiet stops ts old new → new.turns ≤ old.turns
quiet_turns stops [] old new same = let e : new.turns ≡ old.turns = ap (λ (c : Conversation). c.turns) same in omega (arith, e)
quiet_turns stops (t ∷ ts) old new h = omega (arith, takes_turns t h.0 new h.2.turn, quiet_turns stops ts old h.0 h.1)

pub fewer : (stops : Conversation → Bool) (first old new : Conversation) → Waiting stops first old → new.turns < old.turns → new.turns < first.turns
fewer stops first old new w less = omega (arith, quiet_turns stops w.turns first old w.quiet, less)

-- ---- until data are asked for

pub requests_told : (told : Result HostStep SessionFault) (result : Result (Option Answer) SessionFault) (first old new : Conversation) → Waiting is_asked first old
    → TurnsBy (as_outcome told) old new → result ≡ request_by (answer_by told) → Requests result first new
requests_told told result first old new w m is = record {
  turns = w.turns;
  stands = old;
  quiet = w.quiet;
  ends = inr (inr (record { told = told; ends = ends_by told old new m; is = is }));
}

pub requests_asked : (first old new : Conversation) → Waiting is_asked first old → TurnsBy (Ok None) old new → is_asked new ≡ true
    → Requests (Ok None) first new
requests_asked first old new w m asked = record {
  turns = w.turns;
  stands = old;
  quiet = w.quiet;
  ends = inr (inl (refl, record { turn = m.turn; takes = m.takes; nothing = sym m.is; asked = asked }));
}

pub requests_out : (first old : Conversation) → Waiting is_asked first old → old.turns ≡ 0 → Requests (Err fault.Turns) first old
requests_out first old w none = record {
  turns = w.turns;
  stands = old;
  quiet = w.quiet;
  ends = inl (refl, record { none_left = none; same = refl });
}
