use Rattle.std.proofs.Common.{[], inl, refl}
use Rattle.std.proofs.KnownBytes.{Appends-nil}
use Rattle.std.proofs.lemmas.Result.{err_from_is_err_and}
use Rattle.nvt_replay.proofs.Cutting.{editing_cut, refusing_cut, replying_cut}
use Rattle.nvt_replay.proofs.Replying.{made_and_drained, refused_and_told}
use Rattle.nvt_replay.proofs.playback.Playback.edit.Goals as goal

pub returns-in_ok-edit_made-in-Ok-clause-played : goal.returns-in_ok-edit_made-in-Ok-clause-played
returns-in_ok-edit_made-in-Ok-clause-played g c =
    made_and_drained c.drain.result c.args.line.now c.args.self.now.connections c.edit.new.self c.drain.new.connections
    (g.W.Write.contents c.args.out.now) (g.W.Write.contents c.edit_made.new.out) (g.W.Write.contents c.drain.new.out)
    c.in-Ok.ensures.made c.in_ok-edit_made-in-Ok.ensures.printed c.drain.ensures.drained

pub returns-in-Err-Refused-clause-played : goal.returns-in-Err-Refused-clause-played
returns-in-Err-Refused-clause-played g c =
    refused_and_told c.refused_edit.result c.args.line.now c.args.self.now.connections c.edit.new.self c.in-Err-Refused.reply
    (g.W.Write.contents c.args.out.now) (g.W.Write.contents c.refused_edit.new.out)
    (rw c.in-Err-Refused.field-0-is at c.in-Err-Refused.ensures.refused) c.in-Err-Refused.ensures.err c.refused_edit.ensures.printed

pub returns-in_err-edit_made-in-Ok-clause-begun : goal.returns-in_err-edit_made-in-Ok-clause-begun
returns-in_err-edit_made-in-Ok-clause-begun g c =
    let p = err_from_is_err_and c.from_residual.result c.from_residual.ensures.1 in
    rw p.1 (replying_cut c.args.line.now c.args.self.now.connections c.edit.new.self
    (g.W.Write.contents c.args.out.now) (g.W.Write.contents c.edit_made.new.out) c.in-Ok.ensures.made c.in_err-edit_made-in-Ok.ensures.begun)

pub returns-in_ok-edit_made-in-Ok-clause-begun : goal.returns-in_ok-edit_made-in-Ok-clause-begun
returns-in_ok-edit_made-in-Ok-clause-begun g c =
    editing_cut c.drain.result c.args.line.now c.args.self.now.connections c.edit.new.self c.drain.new.connections
    (g.W.Write.contents c.args.out.now) (g.W.Write.contents c.edit_made.new.out) (g.W.Write.contents c.drain.new.out)
    c.in-Ok.ensures.made c.in_ok-edit_made-in-Ok.ensures.printed c.drain.ensures.begun

pub returns-in-Err-Refused-clause-begun : goal.returns-in-Err-Refused-clause-begun
returns-in-Err-Refused-clause-begun g c =
    refusing_cut c.refused_edit.result c.args.line.now c.args.self.now.connections c.edit.new.self c.in-Err-Refused.reply
    (g.W.Write.contents c.args.out.now) (g.W.Write.contents c.refused_edit.new.out)
    (rw c.in-Err-Refused.field-0-is at c.in-Err-Refused.ensures.refused) c.in-Err-Refused.ensures.err c.refused_edit.ensures.begun

pub returns-in-Err-Unread : goal.returns-in-Err-Unread
returns-in-Err-Unread g c = record {
  fault = tt;
  played = tt;
  begun = ([], Appends-nil (g.W.Write.contents c.args.out.now), inl (refl, c.in-Err-Unread.ensures.err));
}
