use Rattle.std.proofs.Common.{append_assoc}
use Rattle.std.proofs.lemmas.Result.{IfOk-equal}
use Rattle.host_parts.proofs.commands.push_target_words.Goals as goal

pub returns-clause-words : goal.returns-clause-words
returns-clause-words c = IfOk-equal c.push_option-2.result _ _ _ c.push_option-2.ensures.words (simp (c.in_ok-push_option.ensures.words, c.in_ok-push_pair.ensures.words, append_assoc, c.from.ensures))
