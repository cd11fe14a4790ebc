use Rattle.std.proofs.Common.{◌≡◌, ℕ, List, Option, Some, Bor, sym, ap, subst, ◌∙◌}
use Rattle.std.specs.Option.{option_copied}
use Rattle.tables.specs.NumberTable.{place}
use Rattle.fabrics_connect.specs.declared.row.Row.{Row}
use Rattle.fabrics_connect.specs.Controllers.{AreControllers}
use Rattle.fabrics_connect.proofs.Live.{live_found}
use Rattle.fabrics_connect.proofs.controllers.Controllers.first_from.Goals as goal

-- what is got of the table
got : (rows table : List (Option Row)) (o : Option (Bor Row)) (row : Bor Row) (n k : ℕ) → table ≡ rows → o ≡ Some row → n ≡ k → option_copied o ≡ place table n → place rows k ≡ Some row.now
got rows table o row n k same is number found =
    ap (place rows) (sym number) ∙ ap (λ (t : List (Option Row)). place t n) (sym same) ∙ sym found ∙ ap option_copied is

pub returns-in-Some-clause-row : goal.returns-in-Some-clause-row
returns-in-Some-clause-row c =
    let rows = c.args.self.now in
    let are : AreControllers rows = subst AreControllers c.self.view_is c.self.invariant in
    let there = got rows c.self.inside.rows c.get.result c.in-Some.row c.from.result c.loop-next.next c.self.view_is c.in-Some.is c.from.ensures c.get.ensures in
    live_found rows c.args.from c.loop-next.next c.in-Some.row.now are c.loop-next-test.true c.loop-next.invariant there
