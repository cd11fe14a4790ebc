use Rattle.std.proofs.Common.{◌≡◌, ◌+◌, ◌++◌, length, arith, append_assoc, length-append}
use Rattle.ana_view.specs.Counts.{count_in}
use Rattle.ana_view.specs.Group.{state_code}
use Rattle.ana_view.specs.Page.{descriptor_head}
use Rattle.ana_view.proofs.Pages.{length_of_head}
use Rattle.ana_view.proofs.page.write_group.Goals as goal

pub returns-else-groups_only : goal.returns-else-groups_only
returns-else-groups_only c = λ page len shown.
    let g = c.args.group.now in
    let count = count_in c.args.counts.now.groups g.id in
    let head = descriptor_head g.id (length g.nsids) count (state_code g.state) in
    let out = c.write_head-else-groups_only.new.out in
    let wide : length out ≡ length c.args.out.now = omega arith in
    let first = rw (c.nsids-nsids.ensures, ← wide) at (c.write_head-else-groups_only.ensures page len shown) in
    let so_far : length (page ++ head) ≡ c.args.at + 32 = omega (arith, length-append page head, length_of_head g.id (length g.nsids) count (state_code g.state), len) in
    let both = rw (wide, c.nsids-nsids.ensures) at (c.write_nsids.ensures (page ++ head) so_far first) in
    rw (c.if-groups_only.false, ← append_assoc) both
