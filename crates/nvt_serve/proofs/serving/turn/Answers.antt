use Rattle.std.proofs.Common.{ℕ, List, Option, sym, subst}
use Rattle.nvt_serve.specs.Asking.{numbers_by}
use Rattle.nvt_serve.specs.Served.{Goes, no_numbers, serving}
use Rattle.nvt_serve.proofs.Runs.{goes_around, goes_on}
use Rattle.nvt_serve.proofs.Tying.{ties_step}
use Rattle.nvt_serve.proofs.serving.turn.Goals as goal

pub returns-clause-ties : goal.returns-clause-ties
returns-clause-ties g c =
    ties_step (g.P.Ports.state c.ask.new.ports) c.ask.new.target c.step_all-served.new.target c.ask.new.ties c.step_all-served.new.ties
    c.step_all-served.ensures.known c.step_all-served.ensures.connections c.step_all-served.ensures.looks c.ask.ensures.ties

pub returns-clause-goes : goal.returns-clause-goes
returns-clause-goes g c =
    let first = serving (g.P.Ports.state c.args.ports.now) c.args.target.now c.args.ties.now in
    let given = serving (g.P.Ports.state c.give_all.new.ports) c.give_all.new.target c.give_all.new.ties in
    let closed = serving (g.P.Ports.state c.close_ended.new.ports) c.close_ended.new.target c.close_ended.new.ties in
    let asked = serving (g.P.Ports.state c.ask.new.ports) c.ask.new.target c.ask.new.ties in
    let stepped = serving (g.P.Ports.state c.ask.new.ports) c.step_all-served.new.target c.step_all-served.new.ties in
    record {
      numbers = numbers_by c.ask.result;
      goes = goes_around (numbers_by c.ask.result) first closed asked stepped
          (goes_on first given closed c.give_all.ensures.goes c.close_ended.ensures.goes) c.ask.ensures.goes
          (subst (λ (l : List (Option ℕ)). Goes no_numbers asked
          (record { ports = g.P.Ports.state c.ask.new.ports; target = c.step_all-served.new.target; connections = l }))
          (sym c.step_all-served.ensures.connections)
          (c.step_all-served.ensures.goes (g.P.Ports.state c.ask.new.ports) c.ask.new.ties.connections));
      counted = c.count.ensures.counted;
    }
