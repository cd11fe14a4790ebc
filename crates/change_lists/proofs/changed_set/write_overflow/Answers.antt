use Rattle.std.proofs.Common.{◌≡◌, [], ◌∙◌, length, replicate, rules, refl}
use Rattle.nvt_fields.specs.Window.{window}
use Rattle.nvt_fields.proofs.Windows.{window_of_nothing}
use Rattle.change_lists.proofs.changed_set.write_overflow.Goals as goal

pub returns : goal.returns
returns c =
    let n = length c.args.out.now in
    let zeros : c.fill.new.self ≡ replicate n 0 = search rules in
    let len : length c.fill.new.self ≡ n = c.fill.ensures.len in
    let before : c.fill.new.self ≡ window [] c.args.offset (length c.fill.new.self) = rw len (zeros ∙ window_of_nothing c.args.offset n) in
    rw (c.to_le_bytes.ensures, len) at (c.write_part.ensures [] refl before)
