use Rattle.std.proofs.Common.{◌-◌}
use Rattle.nvt_serve.specs.Served.{AreTies, Goes, no_numbers, serving}
use Rattle.nvt_serve.proofs.closing.close_all.Given as goal

abbrev pub invariant-loop-k : goal.invariant-loop-k
invariant-loop-k g l = record {
  ties : AreTies (g.P.Ports.state l.ports) l.target l.ties;
  goes : Goes no_numbers (serving (g.P.Ports.state l.fn.ports) l.fn.target l.fn.ties) (serving (g.P.Ports.state l.ports) l.target l.ties);
}

abbrev pub decreases-loop-k : goal.decreases-loop-k
decreases-loop-k g l = 64 - l.least
