use Rattle.std.proofs.Common.{◌*◌, ◌∙◌, length}
use Rattle.admin_queue.specs.Controller.{controller_in}
use Rattle.admin_queue.specs.Pages.{log_page_bytes, pages_in}
use Rattle.nvt_fields.proofs.Windows.{length-window}
use Rattle.admin_queue.proofs.Parts.{window_within}
use Rattle.admin_queue.proofs.payload.Payload.write_part.Goals as goal

pub returns-in-LogPage-clause-part : goal.returns-in-LogPage-clause-part
returns-in-LogPage-clause-part c =
    let part = c.in-LogPage.part in
    let page = log_page_bytes part.page (pages_in c.args.pages.now) (controller_in c.args.controller.now) in
    rw c.in-LogPage.is (c.write.ensures ∙ window_within page part.offset (4 * part.dwords) c.args.offset (length c.args.out.now) (rw c.in-LogPage.is at c.requires))

pub returns-in-LogPage-clause-len : goal.returns-in-LogPage-clause-len
returns-in-LogPage-clause-len c =
    let part = c.in-LogPage.part in
    rw c.in-LogPage.is (length-window (log_page_bytes part.page (pages_in c.args.pages.now) (controller_in c.args.controller.now)) part.offset (4 * part.dwords))
