-- A line more of a text that is written.
use Rattle.std.proofs.Common.{◌≡◌, ◌+◌, ◌++◌, ◌∷◌, [], List, length, ap, sym, ◌∙◌, arith}
use Rattle.std.proofs.lemmas.List.{append_assoc, append-nil, length-append}
use Rattle.bytes.specs.Filled.{Filled}
use Rattle.config_lists.specs.declared.edit.Edit.{Edit}
use Rattle.config_saved.specs.Pieces.{Appends}
use Rattle.config_saved.specs.Text.{ended_line, text_of}

text_of-last : (edits : List Edit) (edit : Edit) → text_of (edits ++ edit ∷ []) ≡ text_of edits ++ ended_line edit
text_of-last [] edit = append-nil (ended_line edit)
text_of-last (first ∷ edits) edit = ap (λ bytes. ended_line first ++ bytes) (text_of-last edits edit) ∙ sym (append_assoc (ended_line first) (text_of edits) (ended_line edit))

-- after the lines of some edits that of the next one is written
pub one_more_line : (all left rest edits : List Edit) (edit : Edit) (start old new : Filled) → all ≡ edits ++ left → Appends start old (text_of edits) → left ≡ edit ∷ rest → Appends old new (ended_line edit)
    → (written : List Edit) × (all ≡ written ++ rest) × Appends start new (text_of written)
one_more_line all left rest edits edit start old new is written next line =
    let more = text_of-last edits edit in
    let total : length (text_of (edits ++ edit ∷ [])) ≡ length (text_of edits) + length (ended_line edit) = ap length more ∙ length-append (text_of edits) (ended_line edit) in (
      edits ++ edit ∷ [],
      is ∙ (ap (λ l. edits ++ l) next ∙ sym (append_assoc edits (edit ∷ []) rest)),
      (
        line.0 ∙ (ap (λ l. l ++ ended_line edit) written.0 ∙ (append_assoc start.items (text_of edits) (ended_line edit) ∙ ap (λ l. start.items ++ l) (sym more))),
        omega (arith, total, written.1, line.1),
      ),
    )
