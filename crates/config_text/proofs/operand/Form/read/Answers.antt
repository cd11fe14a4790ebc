use Rattle.std.proofs.Common.{sym}
use Rattle.config_text.proofs.operand.Form.read.Goals as goal

pub returns-in_ok-read_uuid-in-Uuid-clause-some : goal.returns-in_ok-read_uuid-in-Uuid-clause-some
returns-in_ok-read_uuid-in-Uuid-clause-some c =
    record { word_is = c.in_ok-read_uuid-in-Uuid.ensures.some; form_is = sym c.in-Uuid.is; is_said = c.in_ok-read_uuid-in-Uuid.ensures.bytes }
