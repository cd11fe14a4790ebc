-- The answer to a Write that was held.
use Rattle.std.proofs.Common.{◌≡◌, ℕ, List, Result, Ok, Err, Option, refl}
use Rattle.host_driver.specs.declared.answer.Answer.{Answer}
use Rattle.host_link.specs.declared.fault.SessionFault.{SessionFault}
use Rattle.host_link.specs.Conversation.{Conversation}
use Rattle.host_link.specs.Session.{Answers}
use Rattle.host_program.specs.Holding.{AwaitsAnswer, IsAnswered, done_of}
use Rattle.host_program.specs.Printed.{Prints, ok_line}

pub awaits_err : (f : SessionFault) (queue after : Conversation) (a : Option (List ℕ)) → IsAnswered (Err f) queue after → AwaitsAnswer queue (Err f) a a
awaits_err f queue after a e = by e.answer e.answers e.is
  where
    by : (answer : Result Answer SessionFault) → Answers answer queue after → Err f ≡ done_of answer → AwaitsAnswer queue (Err f) a a
    by (Ok x) answers is = cc
    by (Err h) answers is = record { answer = Err h; stands = after; answers = answers; prints = (is, refl) }

pub awaits_ok : (d : Unit {0}) (queue after : Conversation) (r : Result (Unit {0}) SessionFault) (a b : Option (List ℕ)) → IsAnswered (Ok d) queue after → Prints ok_line r a b
    → AwaitsAnswer queue r a b
awaits_ok d queue after r a b e p = by e.answer e.answers e.is
  where
    by : (answer : Result Answer SessionFault) → Answers answer queue after → Ok d ≡ done_of answer → AwaitsAnswer queue r a b
    by (Ok x) answers is = record { answer = Ok x; stands = after; answers = answers; prints = p }
    by (Err h) answers is = cc
