use Rattle.std.proofs.Common.{arith, replicate, ◌≡◌, ◌+◌, ◌-◌, ◌∙◌, ap, drop}
use Rattle.std.proofs.lemmas.List.{length-replicate, length-take-le, length-drop}
use Rattle.std.proofs.lemmas.List.Elements.{same_from_all_zip}
use Rattle.block_store.specs.Unit.{zero_unit}
use Rattle.block_store.proofs.Overwrites.{put_is}
use Rattle.block_store.proofs.pieces.put_zeros.Goals as goal

pub returns : goal.returns
returns c =
    let at = c.args.at in
    let held = c.args.held.now in
    let count = c.args.count in
    let long = length-take-le (at + count - at) (drop at held) (omega (arith, c.requires, length-drop at held)) in
    let more : at + count - at ≡ count = omega arith in
    put_is held c.fill.new.self (replicate count zero_unit) at (at + count - at)
    (c.fill.ensures.after (λ y clones. same_from_all_zip _ _ _ clones.whole (λ a b same. same)) ∙ ap (λ n. replicate n zero_unit) (long ∙ more))
    (omega (arith, length-replicate count zero_unit))
