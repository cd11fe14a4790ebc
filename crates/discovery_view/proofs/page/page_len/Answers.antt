use Rattle.std.proofs.Common.{arith}
use Rattle.discovery_view.proofs.Pages.{length_of_page, length_of_records}
use Rattle.discovery_view.proofs.page.page_len.Goals as goal

pub returns : goal.returns
returns g c = λ generation.
    let records = c.args.records.now.records in
    omega (arith, c.len.ensures.len, length_of_page generation records, length_of_records records c.len.ensures.ready.whole)
