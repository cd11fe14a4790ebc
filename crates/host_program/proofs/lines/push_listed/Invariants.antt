use Rattle.std.proofs.Common.{◌≡◌, ◌++◌}
use Rattle.host_program.specs.Lines.{nsid_words}
use Rattle.host_program.proofs.lines.push_listed.Given as goal

-- the words of those that are left are missing
abbrev pub invariant-loop-listed : goal.invariant-loop-listed
invariant-loop-listed l =
    record {
      next : (goal.iterator-loop-listed).can_next l.listed-iterator;
      finite : (goal.iterator-loop-listed).is_finite l.listed-iterator;
      line : l.line.items ++ nsid_words l.listed-iterator ≡ l.fn.line.items ++ nsid_words l.fn.nsids;
    }
