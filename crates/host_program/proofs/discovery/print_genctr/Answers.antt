use Rattle.std.proofs.Common.{refl}
use Rattle.host_link.specs.declared.fault.SessionFault.TheVariants.{Memory}
use Rattle.host_program.specs.Lines.{genctr_line}
use Rattle.host_program.proofs.Printing.{is_starved, prints_line}
use Rattle.host_program.proofs.discovery.print_genctr.Goals as goal

pub returns-in-Ok : goal.returns-in-Ok
returns-in-Ok g c =
    prints_line c.push_genctr.new.line.items _ (genctr_line c.args.genctr c.args.records) _ _ _ c.in-Ok.ensures c.new-line.ensures.items c.print.ensures.prints

pub returns : goal.returns
returns g c = is_starved _ Memory _ refl
