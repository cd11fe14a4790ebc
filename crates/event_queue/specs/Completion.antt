-- The completion of an event request.
use Rattle.std.specs.Prelude.{ℕ, Bool, false, ◌==◌, List, [], ◌∷◌, Option, Some, None}
use Rattle.event_queue.specs.declared.completion.Completion.{Completion}
use Rattle.event_queue.specs.declared.kind.EventKind.{EventKind}
use Rattle.event_queue.specs.Kind.{result_of}

-- that of a request by a kind
abbrev pub completion_of : EventKind → ℕ → Completion
completion_of kind cid = record { cid = cid; result = result_of kind }

-- whether it tells a kind
abbrev pub tells : Option Completion → EventKind → Bool
tells None kind = false
tells (Some c) kind = c.result == result_of kind

-- it alone, where it is made
abbrev pub completions_in : Option Completion → List Completion
completions_in None = []
completions_in (Some c) = c ∷ []
