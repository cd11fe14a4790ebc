-- What a command comes to: what it is answered and what follows from it, or that its data are asked for, or a status.
use Rattle.std.specs.Prelude.{ℕ, Option, None, Result, Ok, Err, Bool, if◌then◌else◌}
use Rattle.admin_queue.specs.declared.payload.Payload.{Payload}
use Rattle.nvt_fields.specs.declared.status.Status.{Status}
use Rattle.nvt_fields.specs.Status.{success}
use Rattle.io_queue.specs.declared.operation.Operation.{Operation}
use Rattle.target_decision.specs.declared.capsule.Served.{Served}
use Rattle.target_decision.specs.declared.capsule.Served.TheVariants.{Answered, Asked, Waits}
use Rattle.target_decision.specs.declared.capsule.Refusal.{Refusal}
use Rattle.target_decision.specs.declared.decision.ReplyAnswer.TheVariants.{Given, Performed}
use Rattle.target_decision.specs.declared.consequence.Consequence.{Consequence}
use Rattle.target_decision.specs.declared.consequence.Consequence.TheVariants as consequence

abbrev pub Outcome : Type 0
Outcome = Result Served Refusal

-- success, with this result and this data
abbrev pub given : ℕ → Option Payload → Consequence → Outcome
given value payload follows = Ok (Answered (record {
  answer = Given (record { status = success; result = value; «data» = payload });
  consequence = follows;
}))

-- what the performance of this operation will say
abbrev pub performed : Operation → Outcome
performed op = Ok (Answered (record { answer = Performed op; consequence = consequence.Nothing }))

-- success without data: the response is all that the host is sent
abbrev pub done : ℕ → Consequence → Outcome
done value follows = given value None follows

-- it waits until there is something to tell
abbrev pub waits : Outcome
waits = Ok Waits

-- so many bytes of data are asked for
abbrev pub asked : ℕ → Outcome
asked len = Ok (Asked len)

-- the result of a refusal is 0, but in that of a Connect, which may name the parameter that is invalid
abbrev pub refused : Status → Outcome
refused status = Err (record { status = status; result = 0 })

-- the status if the test passes, and else what comes next
abbrev pub refuse : Bool → Status → Outcome → Outcome
refuse test status next = if test then refused status else next
