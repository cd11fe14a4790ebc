use Rattle.host_program.specs.Pages.{log_text}
use Rattle.host_program.proofs.Pages.{bad_page, prints_page}
use Rattle.host_program.proofs.access.print_page.Goals as goal

pub returns-in-Ok : goal.returns-in-Ok
returns-in-Ok g c = prints_page _ c.read.result c.args.page.now _ log_text _ _ _ c.read.ensures c.in-Ok.is c.print_log.ensures

pub returns-in-Err : goal.returns-in-Err
returns-in-Err g c = bad_page _ c.read.result c.args.page.now _ _ _ c.read.ensures c.in-Err.is
