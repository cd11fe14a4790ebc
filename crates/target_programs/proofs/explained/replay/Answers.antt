use Rattle.std.proofs.Common.{◌||◌, inl}
use Rattle.target_programs.proofs.Lines.{fails_so}
use Rattle.target_programs.proofs.explained.replay.Goals as goal

pub returns-in-Ok-clause-fault : goal.returns-in-Ok-clause-fault
returns-in-Ok-clause-fault g c = fails_so (c.explain.new.playback.printer.writes.has_failed || c.explain.new.has_failed) c.args.edits.now c.args.stream.now c.args.units.now c.explain.result c.explain.ensures.fault

pub returns-in-Err-clause-fault : goal.returns-in-Err-clause-fault
returns-in-Err-clause-fault g c = inl c.in-Err.ensures.fault
