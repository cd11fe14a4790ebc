use Rattle.std.proofs.Common.{sym, arith}
use Rattle.std.proofs.lemmas.List.{take_all}
use Rattle.replay_words.proofs.notes.head_of.Goals as goal

pub returns-then-hex-lt-HEAD_DIGITS : goal.returns-then-hex-lt-HEAD_DIGITS
returns-then-hex-lt-HEAD_DIGITS c = sym (take_all 16384 c.args.hex.now (omega arith))
