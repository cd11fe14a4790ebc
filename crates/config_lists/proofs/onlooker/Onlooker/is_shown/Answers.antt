use Rattle.std.proofs.Common.{◌≡◌, ℕ, ◌≤◌, true, nat_eq, ap, sym, ◌∙◌, arith}
use Rattle.std.proofs.lemmas.Bool.Decides.{nat_tests}
use Rattle.std.specs.List.{list_any}
use Rattle.config_lists.specs.Namespace.{is_nsid, nsid_max}
use Rattle.config_lists.specs.Show.{has_show}
use Rattle.config_lists.proofs.Sets.{is_where}
use Rattle.config_lists.specs.Onlooker.{Looking}
use Rattle.config_lists.proofs.onlooker.Onlooker.is_shown.Goals as goal

pub returns-then-is_nsid : goal.returns-then-is_nsid
returns-then-is_nsid c =
    let v = c.self.inside in
    let may : is_nsid c.args.nsid ≡ true = ap is_nsid (sym c.from-number.ensures) ∙ sym c.is_nsid.ensures ∙ c.if-is_nsid.true in
    let above : 1 ≤ c.args.nsid = grind (arith, nat_tests, may) in
    let below : c.args.nsid ≤ nsid_max = grind (arith, nat_tests, may) in
    let as_listed = c.in_default.ensures v.listed.now in
    c.has.ensures ∙ ap (list_any (nat_eq c.args.nsid)) c.self.invariant ∙ is_where (λ nsid. has_show v.listed.now v.subsystem.now nsid v.host.now) c.args.nsid above below
    ∙ ap (λ (n : ℕ). has_show v.listed.now v.subsystem.now n v.host.now) (sym c.from-number.ensures) ∙ sym as_listed
    ∙ ap (λ (l : Looking). has_show l.shows l.subsystem c.from-number.result l.host) c.self.view_is ∙ ap (λ (n : ℕ). has_show c.args.self.now.shows c.args.self.now.subsystem n c.args.self.now.host) c.from-number.ensures
