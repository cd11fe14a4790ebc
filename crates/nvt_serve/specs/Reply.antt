-- What is replied to a line.
use Rattle.std.specs.Prelude.{ℕ, List, Result, Ok, Err, codes}
use Rattle.config_lists.specs.declared.fault.EditFault.TheVariants as why
use Rattle.config_lists.specs.Fault.{reply_of}
use Rattle.edit_lines.specs.declared.line.NotMade.{NotMade}
use Rattle.edit_lines.specs.declared.line.NotMade.TheVariants.{Refused, Unread, Memory}
use Rattle.edit_lines.specs.Reply.{text_of_reply}

-- the reply to a line whose edit is not made
abbrev pub refusal_text : NotMade → List ℕ
refusal_text (Refused reply) = text_of_reply reply
refusal_text Unread = reply_of why.Memory
refusal_text Memory = reply_of why.Memory

-- .. or to one whose edit is made
abbrev pub ok_text : List ℕ
ok_text = codes "ok"

abbrev pub reply_to : Result (Unit {0}) NotMade → List ℕ
reply_to (Ok done) = ok_text
reply_to (Err why) = refusal_text why
