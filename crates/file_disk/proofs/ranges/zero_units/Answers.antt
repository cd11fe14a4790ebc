use Rattle.std.proofs.Common.{rules, arith, ◌≡◌, ◌≤◌, ◌+◌, ap, subst, length, take, replicate}
use Rattle.std.proofs.lemmas.List.{length-replicate, take-replicate}
use Rattle.block_store.specs.Range.{overwritten, FrontWritten}
use Rattle.block_store.specs.Unit.{zero_unit}
use Rattle.block_store.proofs.Fronts.{told_of_err}
use Rattle.block_store.proofs.Overwrites.{length-overwritten}
use Rattle.file_disk.proofs.Kept.{next_zeroed, next_zero_torn}
use Rattle.file_disk.proofs.ranges.zero_units.Goals as goal

pub returns-in_err-write_units-clause-torn : goal.returns-in_err-write_units-clause-torn
returns-in_err-write_units-clause-torn g c =
    let contents = c.args.file.now.contents in
    let old = c.loop-done.file.contents in
    let first = c.args.first in
    let done = c.loop-done.done in
    let part = c.min-part.result in
    let new = c.write_units.new.file.contents in
    let few : (done + part ≤ c.args.count) × (part ≤ 128) = omega arith in
    let zeros : take part (replicate 128 zero_unit) ≡ replicate part zero_unit = take-replicate part 128 zero_unit few.1 in
    told_of_err c.from_residual.result
    (next_zero_torn contents old first c.args.count done part c.requires.within few.0 c.loop-done.invariant.contents new
    (subst (λ units. FrontWritten old (first + done) units new) zeros c.in_err-write_units.ensures.torn))

pub loop-done-preserved : goal.loop-done-preserved
loop-done-preserved g c =
    let contents = c.args.file.now.contents in
    let old = c.loop-done.file.contents in
    let first = c.args.first in
    let done = c.loop-done.done in
    let part = c.min-part.result in
    let new = c.write_units.new.file.contents in
    let few : (done + part ≤ c.args.count) × (part ≤ 128) = omega arith in
    let zeros : take part (replicate 128 zero_unit) ≡ replicate part zero_unit = take-replicate part 128 zero_unit few.1 in
    let written : new ≡ overwritten old (first + done) (replicate part zero_unit) = rw zeros at c.in_ok-write_units.ensures.written in
    let long = length-replicate part zero_unit in
    let after = length-overwritten old (replicate part zero_unit) (first + done) (omega (arith, c.requires.within, few.0, long, c.loop-done.invariant.long)) in
    record {
      within = few.0;
      contents = next_zeroed contents old first c.args.count done part c.requires.within few.0 c.loop-done.invariant.contents new written;
      long = omega (arith, ap length written, after, c.loop-done.invariant.long);
      strays = search rules;
      alive = c.in_ok-write_units.ensures.alive;
      failures = search rules;
    }
