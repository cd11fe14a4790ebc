use Rattle.std.proofs.Common.{◌≡◌, length, nat_lt, replicate, take, refl, ◌∙◌, arith, length-take, rules}
use Rattle.nvt_fields.proofs.Windows.{window_of_nothing}
use Rattle.change_lists.specs.ActiveList.{nsids_above}
use Rattle.change_lists.proofs.Pages.{length-kept, length-page}
use Rattle.change_lists.proofs.active_list.write_list.Goals as goal

pub loop-nsid-init : goal.loop-nsid-init
loop-nsid-init c =
    let n = length c.args.out.now in
    let zeros : c.fill.new.self ≡ replicate n 0 = search rules in
    record { len = refl; shown = zeros ∙ window_of_nothing 0 n }

pub overflow_add-at : goal.overflow_add-at
overflow_add-at c =
    let done = take c.loop-nsid.nsid-index c.args.nsids.now in
    let kept = nsids_above c.args.above done in
    omega (arith, c.loop-nsid-test.true, c.loop-nsid.invariant.len, length-page kept, length-kept (λ n. nat_lt c.args.above n) done, length-take c.loop-nsid.nsid-index c.args.nsids.now)
