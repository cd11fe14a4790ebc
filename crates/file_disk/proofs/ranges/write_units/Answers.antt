use Rattle.std.proofs.Common.{arith, [], ◌≡◌, ◌+◌, ◌-◌, ◌*◌, ◌≤◌, ◌∙◌, ap, length, take, drop}
use Rattle.std.proofs.lemmas.List.{length-drop, take_rest}
use Rattle.std.proofs.lemmas.List.Elements.{All-from_get_or}
use Rattle.std.specs.List.{All}
use Rattle.block_store.specs.Range.{bytes_of}
use Rattle.block_store.specs.Unit.{IsUnit}
use Rattle.file_disk.proofs.Bytes.{length-bytes}
use Rattle.file_disk.proofs.Fronts.{next_contents, next_begun}
use Rattle.file_disk.proofs.ranges.write_units.Goals as goal

pub loop-done-preserved : goal.loop-done-preserved
loop-done-preserved g c =
    let inv = c.loop-done.invariant in
    let done = c.loop-done.done in
    let count = c.in-Ok.count in
    let file = c.loop-done.file in
    let units = c.args.units.now in
    let first = c.args.first in
    let bytes = c.as_flattened-bytes.result.now in
    let all : All IsUnit units = All-from_get_or IsUnit units [] c.told-units in
    let same : bytes ≡ bytes_of units = c.as_flattened-bytes.ensures.value in
    let long : length bytes ≡ length units * 512 = ap length same ∙ length-bytes units all in
    let rest : take (length bytes - done) (drop done bytes) ≡ drop done (bytes_of units) = take_rest bytes done ∙ ap (drop done) same in
    let few : done + count ≤ length units * 512 = omega (arith, rw rest at c.in-Ok.ensures.count, length-drop done (bytes_of units), length-bytes units all) in
    let begun = rw same at inv.begun in
    rw c.in-Ok.ensures.written (record {
      within = omega (arith, few, long);
      contents =
          rw rest (next_contents c.args.file.now.contents units all file first done count c.requires.within few begun inv.contents);
      begun =
          rw rest (rw same (next_begun c.args.file.now.contents units all file first done count c.requires.within few begun));
      strays = inv.strays;
      alive = inv.alive;
      failures = inv.failures;
    })
