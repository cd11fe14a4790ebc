use Rattle.std.proofs.Common.{◌≡◌, refl}
use Rattle.host_link.specs.declared.fault.SessionFault.TheVariants.{Memory}
use Rattle.host_program.specs.Lines.{changed_line}
use Rattle.host_program.proofs.Printing.{is_starved, prints_line}
use Rattle.host_program.proofs.changes.print_changed.Goals as goal

pub returns-in-Ok-push_changed : goal.returns-in-Ok-push_changed
returns-in-Ok-push_changed g c =
    let same : c.in-Ok.list ≡ c.args.list.now = cc in
    prints_line c.push_changed.new.line.items _ (changed_line c.args.list.now) _ _ _
    (rw same at c.in-Ok-push_changed.ensures.line) c.new-line.ensures.items c.print.ensures.prints

pub returns : goal.returns
returns g c = is_starved _ Memory _ refl
