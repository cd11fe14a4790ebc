-- The text of a saved configuration.
use Rattle.std.specs.Prelude.{◌≡◌, ℕ, ◌+◌, ◌<◌, ◌≤◌, List, [], ◌∷◌, ◌++◌, length, flat_map, Result, Ok, Err}
use Rattle.std.specs.List.{AllByRecursion}
use Rattle.bytes.specs.Filled.{Filled}
use Rattle.config_text.specs.Lines.{lines_of}
use Rattle.config_lists.specs.declared.edit.Edit.{Edit}
use Rattle.nvt_config.specs.Configuration.{Configuration, disks_alone}
use Rattle.nvt_config.specs.Valid.{IsValid}
use Rattle.config_text.specs.EditLine.{IsLineOf, IsSayable, line_of}
use Rattle.config_saved.specs.Saved.{after_all, saved_edits}
use Rattle.config_saved.specs.declared.write.SaveFault.{SaveFault}
use Rattle.config_saved.specs.declared.write.SaveFault.TheVariants.{Full, Memory}

-- the edit's line, with its end
abbrev pub ended_line : Edit → List ℕ
ended_line edit = line_of edit ++ 10 ∷ []

-- the lines of edits, one after another
abbrev pub text_of : List Edit → List ℕ
text_of edits = flat_map ended_line edits

abbrev pub saved_text : Configuration → List ℕ
saved_text c = text_of (saved_edits c)

-- the lines are those of the edits, one of each
abbrev pub AreLinesOf : List (List ℕ) → List Edit → Type 0
AreLinesOf [] [] = Unit {0}
AreLinesOf [] (edit ∷ edits) = ⊥
AreLinesOf (line ∷ lines) [] = ⊥
AreLinesOf (line ∷ lines) (edit ∷ edits) = IsLineOf line edit × AreLinesOf lines edits

-- each of their values has a word: numbers are below 2^64, names are names, UUIDs have 16 bytes
abbrev pub AreSayable : List Edit → Type 0
AreSayable edits = AllByRecursion IsSayable edits

-- the lines of a saved text are those of the saved edits, so that each is read as its edit
abbrev pub SavedTextIsReadBack : Type 0
SavedTextIsReadBack = (c : Configuration) → IsValid c → AreSayable (saved_edits c) → AreLinesOf (lines_of (saved_text c)) (saved_edits c)

-- .. and the edits that are read of it give an equal configuration
abbrev pub SavedTextGivesEqual : Type 0
SavedTextGivesEqual = (c : Configuration) (edits : List Edit) → IsValid c → AreSayable (saved_edits c) → AreLinesOf (lines_of (saved_text c)) edits
    → after_all (disks_alone c.units) edits ≡ Ok c

-- The bytes stand at the end, in what was spare room. Only where that is too small is the buffer full; it is then as it
-- was, and so it is where no memory is.
abbrev pub AppendsOrNot : Filled → Filled → List ℕ → Result (Unit {0}) SaveFault → Type 0
AppendsOrNot old new bytes (Ok done) =
    (length bytes ≤ old.spare) × (new.items ≡ old.items ++ bytes) × (new.spare + length bytes ≡ old.spare)
AppendsOrNot old new bytes (Err Full) = (old.spare < length bytes) × (new ≡ old)
AppendsOrNot old new bytes (Err Memory) = new ≡ old
