use Rattle.std.proofs.Common.{◌≡◌, map, replicate, []}
use Rattle.nvt_ports.proofs.memory.MemoryPorts.new.Given as goal

abbrev pub invariant-loop : goal.invariant-loop
invariant-loop l = map (λ v. v.items) l.took.items ≡ replicate l.counter []
