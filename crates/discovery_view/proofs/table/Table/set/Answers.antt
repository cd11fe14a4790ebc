use Rattle.std.proofs.Common.{◌≤◌, length, refl, inl, inr}
use Rattle.std.proofs.lemmas.Bool.{cases_lt}
use Rattle.discovery_view.proofs.Plans.{set_past, set_there}
use Rattle.discovery_view.proofs.table.Table.set.Goals as goal

pub returns-in_default : goal.returns-in_default
returns-in_default c =
    let past : length c.self.inside.hosts.entries ≤ c.args.place =
    elim (cases_lt c.args.place (length c.self.inside.hosts.entries)) [
      | inl below ↦ let some = rw c.in_default.is at (c.get_index_mut.ensures.found.1 below) in absurd (cc)
      | inr past ↦ past
    ] in
    rw (← c.self.view_is, ← set_past (λ k. k.items) c.self.inside.hosts.entries c.args.place c.args.ready past) refl

pub returns : goal.returns
returns c =
    rw (← c.self.view_is, ← set_there (λ k. k.items) c.self.inside.hosts.entries c.args.place c.args.ready) refl
