use Rattle.std.proofs.Common.{◌≡◌, ◌-◌, ◌<◌, ◌≤◌, Bool, true, false, ℕ, length, refl, sym, ◌∙◌, arith}
use Rattle.ana_view.specs.GroupChanges.{has_changed}
use Rattle.ana_view.proofs.Counting.{any_more, any_of_all, any_still, counted_next, each_is, kept_next, left_next}
use Rattle.ana_view.proofs.counts.count_groups.Goals as goal
use Rattle.ana_view.proofs.counts.count_groups.Goals.{else-has, then-has}

pub loop-group-init : goal.loop-group-init
loop-group-init c =
    record {
      len = omega arith;
      changed = refl;
      counted = λ g from below. absurd (omega arith);
      left = λ g behind. refl;
    }

pub loop-group-preserved : goal.loop-group-preserved
loop-group-preserved c =
    let p : ℕ → Bool = has_changed c.args.changes.now in
    let old = c.args.counts.now in
    let counts = c.loop-group.counts in
    let k = c.loop-group.group in
    let above : 1 ≤ k = omega arith in
    let within : k - 1 < length counts = omega (arith, c.loop-group.invariant.len) in
    let here = c.loop-group.invariant.left k (omega arith) in
    elim c.if-has.branch [
      | then-has w ↦
          let differs : p k ≡ true = sym c.has.ensures ∙ w.if-has.true in
          record {
            len = c.if-has.array_long;
            changed = w.changed-is ∙ sym (any_more p k above differs);
            counted = rw w.counts-is (counted_next p old counts k above within differs c.loop-group.invariant.counted here);
            left = λ g behind. rw w.counts-is (left_next counts k _ above g behind ∙ c.loop-group.invariant.left g (omega arith));
          }
      | else-has w ↦
          let same : p k ≡ false = sym c.has.ensures ∙ w.if-has.false in
          record {
            len = c.if-has.array_long;
            changed = w.changed-is ∙ c.loop-group.invariant.changed ∙ sym (any_still p k above same);
            counted = rw w.counts-is (kept_next p old counts k same c.loop-group.invariant.counted here);
            left = λ g behind. rw w.counts-is (c.loop-group.invariant.left g (omega arith));
          }
    ]

pub returns-clause-changed : goal.returns-clause-changed
returns-clause-changed c =
    c.loop-group.invariant.changed ∙ any_of_all (has_changed c.args.changes.now) (c.loop-group.group - 1) (omega arith)

pub returns-clause-counts : goal.returns-clause-counts
returns-clause-counts c =
    each_is _ c.loop-group.counts c.loop-group.invariant.len (λ group above below. c.loop-group.invariant.counted group above (omega arith))
