-- Lines of edits that are made on a target, and those that are refused.
use Rattle.std.specs.Prelude.{◌≡◌, ℕ, List, Some, None, IsOk, Ok, Err}
use Rattle.config_lists.specs.declared.edit.Edit.{Edit}
use Rattle.config_lists.specs.declared.fault.EditFault.{EditFault}
use Rattle.config_lists.specs.declared.fault.EditFault.TheVariants as why
use Rattle.nvt_config.specs.Accept.{accept}
use Rattle.nvt_config.specs.Configuration.{Configuration}
use Rattle.config_text.specs.declared.fault.LineFault.{LineFault}
use Rattle.config_text.specs.declared.fault.LineFaultKind.{LineFaultKind}
use Rattle.config_text.specs.declared.fault.LineFaultKind.TheVariants as kind
use Rattle.config_text.specs.EditLine.{IsLineOf}
use Rattle.config_text.specs.Words.{line_fault}
use Rattle.target_core.specs.Transition.{Transition}
use Rattle.target_core.specs.Target.{TargetState}
use Rattle.target_history.specs.Event.{edited}
use Rattle.edit_lines.specs.declared.line.NotMade.{NotMade}
use Rattle.edit_lines.specs.declared.line.NotMade.TheVariants.{Refused, Unread, Memory}
use Rattle.edit_lines.specs.declared.reply.Reply.{Reply}
use Rattle.edit_lines.specs.declared.reply.Reply.TheVariants as reply

-- the reply to a line: its fault, or why the configuration refuses its edit
abbrev pub Refuses : Configuration → List ℕ → Reply → Type 0
Refuses c line (reply.Line fault) = line_fault line ≡ Some fault
Refuses c line (reply.Edit fault) = (edit : Edit) × IsLineOf line edit × (accept c edit ≡ Err fault)

-- that memory ran out is no reply
abbrev pub not_read_by : LineFault → LineFaultKind → NotMade
not_read_by fault kind.Memory = Unread
not_read_by fault _ = Refused (reply.Line fault)

-- a fault is the line's own, whenever it comes; a lack of memory is the moment's, and the line can be read again
abbrev pub not_read : LineFault → NotMade
not_read fault = not_read_by fault fault.kind

-- a refusal is the rule's, by the configuration; a lack of memory is the moment's, and the edit can be made again
abbrev pub not_made : EditFault → NotMade
not_made why.Memory = Memory
not_made fault = Refused (reply.Edit fault)

-- Why the edit of a line is not made. Memory comes last: a line that has a fault is refused for that, and an edit that was
-- read and that the configuration refuses is refused so.
abbrev pub IsRefused : Configuration → List ℕ → NotMade → Type 0
IsRefused c line (Refused reply) = Refuses c line reply
IsRefused c line Unread = line_fault line ≡ None
IsRefused c line Memory = (edit : Edit) × IsLineOf line edit × IsOk (accept c edit)

-- why an edit is not made
abbrev pub IsEditRefused : Configuration → Edit → NotMade → Type 0
IsEditRefused c edit (Refused (reply.Line fault)) = ⊥
IsEditRefused c edit (Refused (reply.Edit fault)) = accept c edit ≡ Err fault
IsEditRefused c edit Unread = ⊥
IsEditRefused c edit Memory = IsOk (accept c edit)

-- the line is that of an edit, which is accepted and made
pub record MakesLine (line : List ℕ) (old new : TargetState) : Type 0 where
  pub edit : Edit
  pub is_line : IsLineOf line edit
  pub accepted : accept old.config edit ≡ Ok new.config
  pub transition : Transition (edited edit) old new

-- the line is that of an edit, which the configuration accepts
abbrev pub AppliesLine : List ℕ → Configuration → Configuration → Type 0
AppliesLine line old new = (edit : Edit) × IsLineOf line edit × (accept old edit ≡ Ok new)
