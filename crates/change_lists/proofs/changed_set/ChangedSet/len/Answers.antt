use Rattle.std.proofs.Common.{sym}
use Rattle.change_lists.proofs.Changed.{page_is_whole}
use Rattle.change_lists.proofs.changed_set.ChangedSet.len.Goals as goal

pub returns : goal.returns
returns c = sym (page_is_whole c.args.self.now)
