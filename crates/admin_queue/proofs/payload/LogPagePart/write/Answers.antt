use Rattle.std.proofs.Common.{◌∙◌, ◌+◌, length, arith}
use Rattle.admin_queue.specs.Controller.{controller_in}
use Rattle.admin_queue.specs.Pages.{log_page_bytes, pages_in}
use Rattle.admin_queue.proofs.Parts.{window_past}
use Rattle.admin_queue.proofs.payload.LogPagePart.write.Goals as goal

pub returns-in-None : goal.returns-in-None
returns-in-None c =
    let page = log_page_bytes c.args.self.now.page (pages_in c.args.pages.now) (controller_in c.args.controller.now) in
    let at = c.args.self.now.offset + c.args.offset in
    c.write_zeros.ensures ∙ window_past page at (length c.args.out.now) (omega (arith, c.len.ensures))
