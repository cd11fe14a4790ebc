use Rattle.std.proofs.Common.{refl}
use Rattle.host_link.specs.declared.fault.SessionFault.TheVariants.{Memory}
use Rattle.host_program.specs.Lines.{change_line}
use Rattle.host_program.proofs.Printing.{is_starved, prints_line}
use Rattle.host_program.proofs.access.print_change.Goals as goal

pub returns-in-Ok : goal.returns-in-Ok
returns-in-Ok g c =
    prints_line c.push_change.new.line.items _ (change_line c.args.change c.args.groups) _ _ _ c.in-Ok.ensures c.new-line.ensures.items c.print.ensures.prints

pub returns : goal.returns
returns g c = is_starved _ Memory _ refl
