use Rattle.edit_lines.proofs.print.Printer.event.Goals as goal

pub returns-clause-printed : goal.returns-clause-printed
returns-clause-printed g c = c.text.ensures.printed

pub returns-clause-begun : goal.returns-clause-begun
returns-clause-begun g c = c.text.ensures.begun
