-- The replies to lines of edits that are refused.
use Rattle.std.specs.Prelude.{ℕ, List}
use Rattle.config_lists.specs.Fault.{reply_of}
use Rattle.config_text.specs.Fault.{reply_of_line_fault}
use Rattle.edit_lines.specs.declared.reply.Reply.{Reply}
use Rattle.edit_lines.specs.declared.reply.Reply.TheVariants as reply

abbrev pub text_of_reply : Reply → List ℕ
text_of_reply (reply.Line fault) = reply_of_line_fault fault
text_of_reply (reply.Edit fault) = reply_of fault
