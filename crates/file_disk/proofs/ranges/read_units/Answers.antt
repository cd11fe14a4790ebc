use Rattle.std.proofs.Common.{arith, rules, ◌≡◌, ◌-◌, ◌*◌, ◌/◌, length, take}
use Rattle.std.proofs.lemmas.List.{places, take_all}
use Rattle.block_store.proofs.Strays.{length-range}
use Rattle.block_store.specs.Range.{bytes_of, units_at}
use Rattle.file_disk.proofs.Found.{next_read}
use Rattle.file_disk.proofs.ranges.read_units.Goals as goal

pub loop-done-preserved : goal.loop-done-preserved
loop-done-preserved g c =
    let inv = c.loop-done.invariant in
    let done = c.loop-done.done in
    let few = c.in-Ok.ensures.count in
    let left : length c.read_some.new.out ≡ length c.loop-done.out - done = search (rules, places) in
    let long : length c.loop-done.out ≡ length c.args.out.now = search rules in
    let within : length c.args.out.now ≡ length c.args.out.now / 512 * 512 = omega (arith, c.requires.whole) in
    rw c.in-Ok.ensures.read (record {
      within = search (rules, places);
      found =
          next_read c.args.file.now.contents c.loop-done.file c.loop-done.out c.read_some.new.out c.args.first (length c.args.out.now / 512) done c.in-Ok.count
          (length c.loop-done.out - done) c.args.file.now.strays c.requires.units inv.contents c.requires.within (omega arith) (omega (arith, few)) (omega (arith, few)) inv.found;
      contents = inv.contents;
      synced = inv.synced;
      alive = inv.alive;
      failures = inv.failures;
    })

pub returns-clause-found : goal.returns-clause-found
returns-clause-found g c =
    let out = c.loop-done.out in
    let inv = c.loop-done.invariant in
    let first = c.args.first in
    let units = length c.args.out.now / 512 in
    let wanted = bytes_of (units_at c.args.file.now.contents first units) in
    let long : length out ≡ length c.args.out.now = search rules in
    let wanted_long : length wanted ≡ units * 512 = length-range c.args.file.now.contents first units c.requires.units c.requires.within in
    let all : take c.loop-done.done out ≡ out = take_all c.loop-done.done out (omega (arith, c.loop-done-test.false)) in
    let all_wanted : take c.loop-done.done wanted ≡ wanted = take_all c.loop-done.done wanted (omega (arith, c.loop-done-test.false, c.requires.whole)) in
    rw all at (rw all_wanted at inv.found)
