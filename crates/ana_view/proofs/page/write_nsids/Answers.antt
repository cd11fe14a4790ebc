use Rattle.std.proofs.Common.{take, arith, length-take}
use Rattle.ana_view.proofs.Pages.{length-nsid_bytes}
use Rattle.ana_view.proofs.page.write_nsids.Goals as goal

pub overflow_add-next : goal.overflow_add-next
overflow_add-next c =
    let done = take c.loop-nsid.nsid-index c.args.nsids.now in
    omega (arith, c.loop-nsid.invariant.next, length-nsid_bytes done, length-take c.loop-nsid.nsid-index c.args.nsids.now, c.loop-nsid-test.true, c.requires.few, c.requires.place)
