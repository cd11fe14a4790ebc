use Rattle.std.proofs.Common.{◌≡◌, map, replicate, []}
use Rattle.ana_view.proofs.groups.no_members.Given as goal

abbrev pub invariant-loop : goal.invariant-loop
invariant-loop l = map (λ v. v.items) l.members.items ≡ replicate l.counter []
