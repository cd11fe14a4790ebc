-- What a piece of a saved text leaves of the text and of the buffer.
use Rattle.std.specs.Prelude.{◌≡◌, ℕ, ◌+◌, ◌<◌, ◌⊎◌, List, [], ◌∷◌, ◌++◌, codes, length, Option, Some, None}
use Rattle.bytes.specs.Filled.{Filled}
use Rattle.config_lists.specs.declared.edit.Edit.{Edit}
use Rattle.nvt_config.specs.Configuration.{Configuration}
use Rattle.config_saved.specs.Saved.{saved_edits}
use Rattle.config_saved.specs.Text.{ended_line, text_of}
use Rattle.config_saved.specs.declared.saved_text.PieceEnd.{PieceEnd}
use Rattle.config_saved.specs.declared.saved_text.PieceEnd.TheVariants.{Whole, Full, Memory}

-- the bytes stand at the end, in what was spare room
abbrev pub Appends : Filled → Filled → List ℕ → Type 0
Appends old new bytes = (new.items ≡ old.items ++ bytes) × (new.spare + length bytes ≡ old.spare)

-- the first of the lines has no room
abbrev pub HasNoRoom : List Edit → ℕ → Type 0
HasNoRoom [] spare = ⊥
HasNoRoom (edit ∷ edits) spare = spare < length (ended_line edit)

-- why a piece ends where these are left, in so much spare room
abbrev pub Ends : PieceEnd → List Edit → ℕ → Type 0
Ends Whole left spare = left ≡ []
Ends Full left spare = HasNoRoom left spare
Ends Memory left spare = Unit {0}

-- The line of the first edit that was left is written, and those after it are left; or nothing is, and all are.
abbrev pub WritesLine : List Edit → List Edit → Filled → Filled → Option PieceEnd → Type 0
WritesLine left rest old new None = (edit : Edit) × (left ≡ edit ∷ rest) × Appends old new (ended_line edit)
WritesLine left rest old new (Some end) = (rest ≡ left) × (new ≡ old) × Ends end rest new.spare

-- The lines of the first edits that were left are written, and those after them are left.
abbrev pub WritesLines : List Edit → List Edit → Filled → Filled → PieceEnd → Type 0
WritesLines left rest old new end =
    (edits : List Edit) × (left ≡ edits ++ rest) × Appends old new (text_of edits) × Ends end rest new.spare

-- what is left of a reply: the edits whose lines are, and the last line while it is
pub record Reply : Type 0 where
  pub edits : List Edit
  pub last : List ℕ

-- those of a text, while one is left
abbrev pub edits_of_text : Option (List Edit) → List Edit
edits_of_text None = []
edits_of_text (Some edits) = edits

-- its bytes
abbrev pub reply_text : Reply → List ℕ
reply_text reply = text_of reply.edits ++ reply.last

-- the lines that make an equal configuration, and that they are all
abbrev pub shown : Configuration → Reply
shown c = record { edits = saved_edits c; last = codes "ok" ++ 10 ∷ [] }

abbrev pub refused : Reply
refused = record { edits = []; last = codes "refused Memory" ++ 10 ∷ [] }

-- the whole reply, where this configuration is known to stand
abbrev pub IsReplyTo : Option Configuration → Reply → Type 0
IsReplyTo None reply = reply ≡ refused
IsReplyTo (Some c) reply = (reply ≡ shown c) ⊎ (reply ≡ refused)

-- why a piece ends where this is left of a reply, in so much spare room
abbrev pub EndsReply : PieceEnd → Reply → ℕ → Type 0
EndsReply Whole reply spare = reply_text reply ≡ []
EndsReply Full reply spare = HasNoRoom reply.edits spare ⊎ ((reply.edits ≡ []) × (spare < length reply.last))
EndsReply Memory reply spare = Unit {0}

-- The line is written, and nothing is left of it; or nothing is, where it has no room.
abbrev pub WritesLast : List ℕ → List ℕ → Filled → Filled → PieceEnd → Type 0
WritesLast line rest old new Whole = (rest ≡ []) × Appends old new line
WritesLast line rest old new Full = (rest ≡ line) × (new ≡ old) × (old.spare < length line)
WritesLast line rest old new Memory = ⊥

-- The first bytes of the reply are written, up to the end of a line, and those after them are left.
abbrev pub WritesReply : Reply → Reply → Filled → Filled → PieceEnd → Type 0
WritesReply old new before after end =
    (bytes : List ℕ) × (reply_text old ≡ bytes ++ reply_text new) × Appends before after bytes × EndsReply end new after.spare
