use Rattle.std.proofs.lemmas.Result.{on_ok_weaker}
use Rattle.nvt_replay.proofs.ReplayLemmas.{is_stream_line}
use Rattle.target_programs.proofs.explained.run_heard.Goals as goal

pub returns-clause-ok : goal.returns-clause-ok
returns-clause-ok g c =
    on_ok_weaker c.line.result (λ played. is_stream_line c.args.line.now played.says played.is) c.line.ensures.played
