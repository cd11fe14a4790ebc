-- A submission queue (Base 2.0, section 3.3.3.2).
use Rattle.std.specs.Prelude.{ℕ, ◌+◌, nat_le, if◌then◌else◌}
use Rattle.target_decision.specs.declared.queue.SubmissionQueue.{SubmissionQueue}

-- the queue before the response to its Connect
abbrev pub new_queue : ℕ → SubmissionQueue
new_queue sqsize = record { sqsize = sqsize; head = 0 }

-- the submission queue head after one more response: it goes round behind the queue's size
abbrev pub next_head : ℕ → ℕ → ℕ
next_head sqsize head = if nat_le sqsize head then 0 else head + 1

-- each response moves the head of its own queue: CATTR, by which a host may turn flow control off, is not looked at
abbrev pub next_head_of : SubmissionQueue → ℕ
next_head_of q = next_head q.sqsize q.head

abbrev pub responded : SubmissionQueue → SubmissionQueue
responded q = record q { head = next_head_of q }
