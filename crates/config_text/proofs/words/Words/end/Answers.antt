use Rattle.std.proofs.Common.{◌≡◌, true, is_some, sym, arith}
use Rattle.std.proofs.lemmas.Grind.{common_steps}
use Rattle.std.proofs.lemmas.Result.{err_from_is_err_and}
use Rattle.config_text.proofs.WordLemmas.{end_absent}
use Rattle.config_text.proofs.words.Words.end.Goals as goal

pub returns-in_err-next_word-clause-fault : goal.returns-in_err-next_word-clause-fault
returns-in_err-next_word-clause-fault c =
    let p = err_from_is_err_and c.from_residual.result c.from_residual.ensures.1 in
    let more : is_some c.args.self.now.rest ≡ true = grind (arith, common_steps) in
    rw (p.1, p.2) (sym (end_absent c.args.self.now.rest _ _ _ more (sym c.in_err-next_word.ensures.fault)))
