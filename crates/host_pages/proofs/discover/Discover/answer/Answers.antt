use Rattle.std.proofs.Common.{rules, ◌≡◌, ◌∙◌, ◌++◌, refl, sym, subst, ap}
use Rattle.host_pages.specs.declared.verdict.Verdict.TheVariants.{Ends, Fails, GoesOn, Settles}
use Rattle.host_pages.specs.Discover.{Holds, IsAsking, after, asks, ended, settled, told}
use Rattle.host_pages.specs.Tries.{bytes_in}
use Rattle.host_pages.specs.Verdict.{IsBegun, given, verdict}
use Rattle.host_pages.proofs.Holding.{begun_more}
use Rattle.host_pages.proofs.Trying.{ended_asks_not, settled_asks_not, takes_as, takes_none}
use Rattle.host_pages.proofs.discover.Discover.answer.Goals as goal

pub returns-in-Settled : goal.returns-in-Settled
returns-in-Settled c =
    let old : c.args.self.now ≡ settled c.self.inside.page.items = search rules in
    takes_none (given c.args.answer) c.args.self.now _ (ap (after (given c.args.answer)) old ∙ sym old) (ap told (sym old)) (λ asking. settled_asks_not (subst IsAsking old asking))

pub returns-in-Ended : goal.returns-in-Ended
returns-in-Ended c =
    let old : c.args.self.now ≡ ended c.in-Ended.fault = search rules in
    takes_none (given c.args.answer) c.args.self.now _ (ap (after (given c.args.answer)) old ∙ sym old) (ap told (sym old)) (λ asking. ended_asks_not (subst IsAsking old asking))

pub invariant_of-self : goal.invariant_of-self
invariant_of-self c =
    let held : Holds c.self.inside.stage c.self.inside.failed c.self.inside.page.items = c.self.invariant in
    let asking = subst (λ s. Holds s c.self.inside.failed c.self.inside.page.items) c.in-Asking.is held in
    let by : verdict c.self.inside.page.items (given c.args.answer) ≡ GoesOn = search rules in
    let part : bytes_in (given c.args.answer) ≡ c.in-Ok.bytes.now = search rules in
    let items : c.extend_from_slice.new.self.items ≡ c.self.inside.page.items ++ c.in-Ok.bytes.now = search rules in
    let begun = begun_more c.self.inside.page.items (given c.args.answer) asking.0 by in
    subst (λ s. Holds s c.self.inside.failed c.extend_from_slice.new.self.items) (sym c.in-Asking.is)
    (subst IsBegun (ap (λ b. c.self.inside.page.items ++ b) part ∙ sym items) begun, asking.1)

pub returns-in_ok-extend_from_slice-in-GoesOn : goal.returns-in_ok-extend_from_slice-in-GoesOn
returns-in_ok-extend_from_slice-in-GoesOn c =
    let held : Holds c.self.inside.stage c.self.inside.failed c.self.inside.page.items = c.self.invariant in
    let asking = subst (λ s. Holds s c.self.inside.failed c.self.inside.page.items) c.in-Asking.is held in
    let old : c.args.self.now ≡ asks c.self.inside.failed c.self.inside.page.items = search rules in
    let by : verdict c.self.inside.page.items (given c.args.answer) ≡ GoesOn = search rules in
    let part : bytes_in (given c.args.answer) ≡ c.in-Ok.bytes.now = search rules in
    let new : _ ≡ asks c.self.inside.failed (c.self.inside.page.items ++ bytes_in (given c.args.answer)) = search rules in
    takes_as GoesOn (given c.args.answer) c.self.inside.failed c.self.inside.page.items c.args.self.now _ _ old asking by new (ap told (sym new))

pub returns-in-Settles : goal.returns-in-Settles
returns-in-Settles c =
    let held : Holds c.self.inside.stage c.self.inside.failed c.self.inside.page.items = c.self.invariant in
    let asking = subst (λ s. Holds s c.self.inside.failed c.self.inside.page.items) c.in-Asking.is held in
    let old : c.args.self.now ≡ asks c.self.inside.failed c.self.inside.page.items = search rules in
    let by : verdict c.self.inside.page.items (given c.args.answer) ≡ Settles = search rules in
    takes_as Settles (given c.args.answer) c.self.inside.failed c.self.inside.page.items c.args.self.now _ _ old asking by refl refl

pub returns-in-Fails : goal.returns-in-Fails
returns-in-Fails c =
    let held : Holds c.self.inside.stage c.self.inside.failed c.self.inside.page.items = c.self.invariant in
    let asking = subst (λ s. Holds s c.self.inside.failed c.self.inside.page.items) c.in-Asking.is held in
    let old : c.args.self.now ≡ asks c.self.inside.failed c.self.inside.page.items = search rules in
    let by : verdict c.self.inside.page.items (given c.args.answer) ≡ Fails = search rules in
    takes_as Fails (given c.args.answer) c.self.inside.failed c.self.inside.page.items c.args.self.now _ _ old asking by (search rules) (search rules)

pub returns-in-Ends : goal.returns-in-Ends
returns-in-Ends c =
    let held : Holds c.self.inside.stage c.self.inside.failed c.self.inside.page.items = c.self.invariant in
    let asking = subst (λ s. Holds s c.self.inside.failed c.self.inside.page.items) c.in-Asking.is held in
    let old : c.args.self.now ≡ asks c.self.inside.failed c.self.inside.page.items = search rules in
    let by : verdict c.self.inside.page.items (given c.args.answer) ≡ Ends c.in-Ends.fault = search rules in
    takes_as (Ends c.in-Ends.fault) (given c.args.answer) c.self.inside.failed c.self.inside.page.items c.args.self.now _ _ old asking by refl refl
