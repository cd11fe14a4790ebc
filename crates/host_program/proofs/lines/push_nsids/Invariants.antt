use Rattle.std.proofs.Common.{◌≡◌, ◌++◌}
use Rattle.host_program.specs.Lines.{nsid_words}
use Rattle.host_program.proofs.lines.push_nsids.Given as goal

-- the words of those that are left are missing
abbrev pub invariant-loop-nsid : goal.invariant-loop-nsid
invariant-loop-nsid l =
    record {
      next : (goal.iterator-loop-nsid).can_next l.nsid-iterator;
      finite : (goal.iterator-loop-nsid).is_finite l.nsid-iterator;
      line : l.line.items ++ nsid_words l.nsid-iterator ≡ l.fn.line.items ++ nsid_words l.fn.nsids;
    }
