use Rattle.std.proofs.Common.{◌≡◌, ◌≢◌, ◌-◌, ◌<◌, ◌≤◌, Bool, false, not, ℕ, length, set, ap, sym, ◌∙◌, arith, inl, inr, ◌==◌}
use Rattle.std.proofs.lemmas.Bool.{cases_Bool}
use Rattle.std.proofs.lemmas.Bool.Decides.{nat_tests}
use Rattle.std.proofs.lemmas.List.{get_or-set_other, get_or-set_same, length-set}
use Rattle.ana_view.specs.GroupChanges.{differs_in, has_changed}
use Rattle.ana_view.proofs.group_changes.differences.Goals as goal

pub loop-group-init : goal.loop-group-init
loop-group-init c = record { len = omega arith; said = λ g from below. absurd (omega arith) }

pub loop-group-preserved : goal.loop-group-preserved
loop-group-preserved c =
    let p : ℕ → Bool = differs_in c.args.old.now c.args.new.now in
    let changed = c.loop-group.changed in
    let k = c.loop-group.group in
    let above : 1 ≤ k = omega arith in
    let within : k - 1 < length changed = omega (arith, c.loop-group.invariant.len) in
    let differs : not c.is_same.result ≡ p k = ap not (rw (c.find.ensures, c.find-in-loop-group.ensures) at c.is_same.ensures) in
    record {
      len = length-set changed (k - 1) _ ∙ c.loop-group.invariant.len;
      said = λ g from below. elim (cases_Bool (g == k)) [
        | inl same ↦
            let is : g ≡ k = grind (arith, nat_tests, same) in
            ap (has_changed (set changed (k - 1) (not c.is_same.result))) is ∙ get_or-set_same changed (k - 1) _ false within ∙ differs ∙ ap p (sym is)
        | inr other ↦
            let earlier : g < k = grind (arith, nat_tests, other, below) in
            let apart : g - 1 ≢ k - 1 = λ same. omega (arith, same, earlier, from) in
            get_or-set_other changed (k - 1) (g - 1) _ false apart ∙ c.loop-group.invariant.said g from earlier
      ];
    }

pub returns : goal.returns
returns c = λ group above below. c.loop-group.invariant.said group above (omega arith)
