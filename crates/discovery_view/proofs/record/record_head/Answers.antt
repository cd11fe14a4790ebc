use Rattle.std.proofs.Common.{refl}
use Rattle.discovery_view.proofs.record.record_head.Goals as goal

pub returns : goal.returns
returns c = rw (c.copy_from_slice.ensures.after, c.family_code.ensures, c.code.ensures, c.to_le_bytes-id.ensures) refl
