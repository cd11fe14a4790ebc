use Rattle.std.proofs.Common.{◌≡◌, ◌<◌, length, replicate, None}
use Rattle.nvt_serve.specs.Served.{AreTies, Goes, IsQuiet, IsWithin, numbers_of, serving}
use Rattle.nvt_serve.proofs.serving.serve.Given as goal

abbrev pub invariant-loop : goal.invariant-loop
invariant-loop g l = record {
  ties : AreTies (g.P.Ports.state l.ports) l.target l.ties;
  goes : Goes (numbers_of l.served) (record { ports = g.P.Ports.state l.fn.ports; target = l.fn.target; connections = replicate 64 None })
      (serving (g.P.Ports.state l.ports) l.target l.ties);
  number : l.served.turns ≡ l.counter;
  within : IsWithin l.served;
  whole : length l.buf ≡ 32768;
  quiet : 0 < l.counter → l.served.memory ≡ 0 → IsQuiet l.target;
}
