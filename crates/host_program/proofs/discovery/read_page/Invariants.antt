use Rattle.std.proofs.Common.{ℕ, []}
use Rattle.host_pages.specs.Discover.{answers_left, asks}
use Rattle.host_program.specs.Discovering.{AreRead}
use Rattle.host_program.proofs.discovery.read_page.Given as goal

abbrev pub decreases-loop : goal.decreases-loop
decreases-loop g l = answers_left l.reading

-- so many parts were read
abbrev pub invariant-loop : goal.invariant-loop
invariant-loop g l = (parts : ℕ) × AreRead parts (asks 0 []) l.reading l.fn.session l.session
