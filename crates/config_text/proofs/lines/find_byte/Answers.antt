use Rattle.config_text.proofs.LineLemmas.{position_or_len-none}
use Rattle.config_text.proofs.lines.find_byte.Goals as goal
use Rattle.std.proofs.Common.{rules}

pub returns-in-None-clause-place : goal.returns-in-None-clause-place
returns-in-None-clause-place c = search (rules, position_or_len-none)
