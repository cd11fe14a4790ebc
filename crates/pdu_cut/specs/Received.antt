-- What a receive buffer holds.
use Rattle.std.specs.Prelude.{ℕ, List}
use Rattle.pdu_cut.specs.declared.side.Side.{Side}

-- the side that receives, and the bytes that came to it and are not consumed, in their order
pub record Received : Type 0 where
  pub side : Side
  pub held : List ℕ
