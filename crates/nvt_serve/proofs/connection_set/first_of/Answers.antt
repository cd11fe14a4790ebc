use Rattle.std.proofs.Common.{arith}
use Rattle.nvt_serve.proofs.Sets.{first_left, none_from, past_end}
use Rattle.nvt_serve.proofs.connection_set.first_of.Goals as goal

pub returns-then-least-ge-CONNECTIONS_MAX : goal.returns-then-least-ge-CONNECTIONS_MAX
returns-then-least-ge-CONNECTIONS_MAX c = λ k behind.
    past_end c.args.bits k c.ranges.bits.fits (omega (arith, behind, c.if-least-ge-CONNECTIONS_MAX.true))

pub returns-then-left-eq0 : goal.returns-then-left-eq0
returns-then-left-eq0 c = none_from c.args.bits c.args.least c.bits_from-left.result c.bits_from-left.ensures c.if-left-eq0.true

pub returns : goal.returns
returns c =
    first_left c.args.bits c.args.least c.bits_from-left.result c.ranges.bits.fits c.bits_from-left.ensures c.bits_from-left.type_inv
    (omega (arith, c.if-left-eq0.false))
