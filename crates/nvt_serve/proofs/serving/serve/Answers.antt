use Rattle.std.proofs.Common.{ℕ, List, [], Option, None, replicate, refl, ap, ◌∙◌, arith}
use Rattle.std.proofs.lemmas.List.{length-replicate}
use Rattle.tables.specs.NumberTable.{place}
use Rattle.tables.proofs.NumberTables.{place-replicate}
use Rattle.nvt_serve.specs.Deed.{Serving}
use Rattle.nvt_serve.specs.Served.{serving}
use Rattle.nvt_serve.proofs.Runs.{goes_counted}
use Rattle.nvt_serve.proofs.Tying.{none_tied, none_within}
use Rattle.nvt_serve.proofs.serving.serve.Goals as goal

pub loop-init : goal.loop-init
loop-init g c =
    let ports = g.P.Ports.state c.args.ports.now in
    record {
      ties = record {
        tied = none_tied (serving ports c.args.target.now c.of-ties.result)
            (λ slot. ap (λ (l : List (Option ℕ)). place l slot) c.of-ties.ensures.connections ∙ place-replicate 64 slot);
        within = none_within c.of-ties.result.connections
            (λ slot. ap (λ (l : List (Option ℕ)). place l slot) c.of-ties.ensures.connections ∙ place-replicate 64 slot);
        looks = c.of-ties.ensures.looks;
      };
      goes = record {
        deeds = [];
        runs = ap (λ (l : List (Option ℕ)). let s : Serving = record { ports = ports; target = c.args.target.now; connections = l } in s) c.of-ties.ensures.connections;
        asked = refl;
        opened = refl;
        edits = refl;
        refused = refl;
      };
      number = refl;
      within = omega arith;
      whole = length-replicate {A = ℕ} 32768 0;
      quiet = λ some. absurd (omega (arith, some));
    }

pub loop-preserved : goal.loop-preserved
loop-preserved g c =
    let first : Serving = record { ports = g.P.Ports.state c.args.ports.now; target = c.args.target.now; connections = replicate 64 None } in
    record {
      ties = c.turn.ensures.ties;
      goes = goes_counted c.loop.served c.turn.new.served first (serving (g.P.Ports.state c.loop.ports) c.loop.target c.loop.ties)
          (serving (g.P.Ports.state c.turn.new.ports) c.turn.new.target c.turn.new.ties) c.loop.invariant.goes c.turn.ensures.goes;
      number = omega (arith, c.turn.ensures.turns, c.loop.invariant.number);
      within = c.turn.ensures.within;
      whole = c.turn.ensures.len ∙ c.loop.invariant.whole;
      quiet = λ some. c.turn.ensures.quiet;
    }

pub returns : goal.returns
returns g c = record {
  number = omega (arith, c.loop.invariant.number);
  connections = c.loop.ties.connections;
  goes = c.loop.invariant.goes;
  quiet = λ some. c.loop.invariant.quiet (omega (arith, some));
}
