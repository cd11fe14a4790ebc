use Rattle.std.proofs.Common.{Ok, List, ap, subst, inl}
use Rattle.config_text.specs.EditLine.{IsEditOf}
use Rattle.config_text.specs.Operand.{values}
use Rattle.config_text.specs.declared.operand.Operand.{Operand}
use Rattle.config_text.proofs.EditLemmas.{line_from, no_line_fault, one_edit}
use Rattle.config_text.proofs.edit_line.read_edit.Goals as goal

pub returns-in_err-command-clause-only : goal.returns-in_err-command-clause-only
returns-in_err-command-clause-only c = λ edit is.
    let none = no_line_fault c.args.line.now edit is in
    let some = c.in_err-command.ensures.fault in
    absurd (cc)

said : goal.returns-in-Ok-clause-ok
said c =
    let built : IsEditOf c.in_ok-command.command (values c.in_ok-command.operands.items) c.in-Ok.edit =
    subst (λ (os : List Operand). IsEditOf c.in_ok-command.command (values os) c.in-Ok.edit) c.deref.ensures.0 c.in-Ok.ensures in
    line_from c.args.line.now c.in_ok-command.command (values c.in_ok-command.operands.items) c.in-Ok.edit c.in_ok-command.ensures.said built

pub returns-in-Ok-clause-ok : goal.returns-in-Ok-clause-ok
returns-in-Ok-clause-ok c = said c

pub returns-in-Ok-clause-only : goal.returns-in-Ok-clause-only
returns-in-Ok-clause-only c = λ edit is. inl (ap Ok (one_edit c.args.line.now c.in-Ok.edit edit (said c) is))
