use Rattle.change_lists.proofs.active_lists.ActiveLists.put.Goals as goal

pub returns : goal.returns
returns c = rw (← c.self.view_is) c.put.ensures.put
