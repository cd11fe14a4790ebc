use Rattle.std.proofs.Common.{arith, drop, length, ◌-◌, ◌∙◌}
use Rattle.byteorder.specs.Numbers.{little_from-take}
use Rattle.nvt_fields.specs.Field.{field_at}
use Rattle.nvt_fields.proofs.field.u32_at.Goals as goal

pub returns : goal.returns
unfolding field_at
returns c =
    let bytes = c.args.bytes.now in
    c.read_u32.ensures ∙ little_from-take 0 4 (length bytes - c.args.at) (drop c.args.at bytes) (omega (arith, c.requires))
