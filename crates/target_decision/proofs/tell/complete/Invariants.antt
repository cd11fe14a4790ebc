use Rattle.std.proofs.Common.{◌≡◌, ◌≤◌, ◌+◌, ◌-◌, ◌*◌, ◌++◌, drop, length}
use Rattle.target_decision.specs.Tell.{completed_in, completion_pdus}
use Rattle.target_decision.proofs.tell.complete.Given as goal

-- what is still to be sent, and where that leads
abbrev pub invariant-loop-completion : goal.invariant-loop-completion
invariant-loop-completion l =
    record {
      session : completed_in l.session (drop l.completion-index l.completions) ≡ completed_in l.fn.session l.completions;
      items : l.output.items ++ completion_pdus l.session (drop l.completion-index l.completions) ≡ l.fn.output.items ++ completion_pdus l.fn.session l.completions;
      room : 24 * (length l.completions - l.completion-index) ≤ l.output.spare;
      spare : l.fn.output.spare ≤ l.output.spare + 24 * l.completion-index;
    }
