use Rattle.std.proofs.Common.{length}
use Rattle.change_lists.specs.ActiveView.{active_page}
use Rattle.admin_queue.proofs.Parts.{window_of, zeros_of}
use Rattle.admin_queue.proofs.payload.write_active.Goals as goal

pub returns-in-Some : goal.returns-in-Some
returns-in-Some c =
    rw c.in-Some.is (window_of c.window.new.out (active_page c.args.pages.now.active.now.shown c.args.controller.now.host.now c.in-Some.nqn c.args.above)
    (length c.args.out.now) 4096 (rw c.as_bytes-host.ensures at (rw c.as_bytes.ensures at c.window.ensures)) c.requires)

pub returns-in-None : goal.returns-in-None
returns-in-None c = rw c.in-None.is (zeros_of c.write_zeros.new.out (length c.args.out.now) 4096 c.write_zeros.ensures c.requires)
