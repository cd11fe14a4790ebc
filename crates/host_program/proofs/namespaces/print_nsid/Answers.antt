use Rattle.std.proofs.Common.{refl}
use Rattle.host_link.specs.declared.fault.SessionFault.TheVariants.{Memory}
use Rattle.host_program.specs.Lines.{nsid_line}
use Rattle.host_program.proofs.Printing.{is_starved, prints_line}
use Rattle.host_program.proofs.namespaces.print_nsid.Goals as goal

pub returns-in-Ok : goal.returns-in-Ok
returns-in-Ok g c =
    prints_line c.push_nsid.new.line.items _ (nsid_line c.args.nsid) _ _ _ c.in-Ok.ensures c.new-line.ensures.items c.print.ensures.prints

pub returns : goal.returns
returns g c = is_starved _ Memory _ refl
