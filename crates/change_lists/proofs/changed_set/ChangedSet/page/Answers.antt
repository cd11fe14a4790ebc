use Rattle.std.proofs.Common.{◌∷◌, [], length, ap, sym, ◌∙◌, arith}
use Rattle.change_lists.proofs.Changed.{page_shown, told_few, told_many}
use Rattle.change_lists.proofs.changed_set.ChangedSet.page.Goals as goal

pub write_nsids-requires : goal.write_nsids-requires
write_nsids-requires c = omega (arith, c.if-len-gt-ENTRIES_MAX.false, c.len.ensures, ap length c.iter.ensures.all)

pub returns-then-len-gt-ENTRIES_MAX : goal.returns-then-len-gt-ENTRIES_MAX
returns-then-len-gt-ENTRIES_MAX c =
    rw (← c.self.view_is) (
    page_shown c.self.inside.nsids (0xFFFFFFFF ∷ []) c.write_overflow.new.out c.args.offset (length c.args.out.now)
    (told_many c.self.inside.nsids (omega (arith, c.if-len-gt-ENTRIES_MAX.true, c.len.ensures))) c.write_overflow.ensures)

pub returns-else-len-gt-ENTRIES_MAX : goal.returns-else-len-gt-ENTRIES_MAX
returns-else-len-gt-ENTRIES_MAX c =
    rw (← c.self.view_is) (
    page_shown c.self.inside.nsids c.iter.result c.write_nsids.new.out c.args.offset (length c.args.out.now)
    (told_few c.self.inside.nsids (omega (arith, c.if-len-gt-ENTRIES_MAX.false, c.len.ensures)) ∙ sym c.iter.ensures.all) c.write_nsids.ensures)
