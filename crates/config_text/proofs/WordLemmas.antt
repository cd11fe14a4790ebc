-- The words of a line, and their faults.
use Rattle.std.proofs.Common.{◌≡◌, ℕ, ◌+◌, ◌≤◌, ◌<◌, ◌==◌, Bool, true, false, if◌then◌else◌, Option, Some, None, is_some, List, [], ◌∷◌, find, ◌&&◌, count_by, length, length-drop, ◌-◌, take, drop, refl, sym, ap, ◌∙◌, arith}
use Rattle.std.specs.Str.{bytes_eq}
use Rattle.std.proofs.lemmas.Slice.Eq.{bytes_eq-Decides}
use Rattle.std.specs.List.{position_or_len}
use Rattle.std.proofs.lemmas.Grind.{common_steps}
use Rattle.std.proofs.lemmas.List.Splits.{length-slice_split, slice_split_first, slice_split_none}
use Rattle.std.proofs.lemmas.List.{take_all}
use Rattle.std.proofs.lemmas.List.Sums.{fails_before_first}
use Rattle.std.specs.Borrow.{Bor}
use Rattle.config_text.specs.Command.{command_from, commands, grammar_of, is_noun}
use Rattle.config_text.specs.Words.{absence, fault, forms_fault, verb_fault, word_fault, words, words_fault, words_in}
use Rattle.config_text.specs.declared.command.EditCommand.{EditCommand}
use Rattle.config_text.specs.declared.fault.LineFault.{LineFault}
use Rattle.config_text.specs.declared.fault.LineFaultKind.{LineFaultKind}
use Rattle.config_text.specs.declared.fault.LineFaultKind.TheVariants.{Empty, UnknownWord}

some_same : {X : Type 0} {a b : X} → Some a ≡ Some b → a ≡ b
some_same is = cc

both_true : (a b : Bool) → a && b ≡ true → (a ≡ true) × (b ≡ true)
both_true true b is = (refl, is)
both_true false b is = cc

abbrev is_space : ℕ → Bool
is_space b = b == 32

-- the first word, and what follows the space after it
pub words_split : (text : List ℕ) (n : ℕ) → n ≡ position_or_len is_space text → n < length text → words text ≡ take n text ∷ words (drop (n + 1) text)
words_split text n e lt = slice_split_first is_space text 0 (omega arith) ∙ ap (λ k. take k text ∷ words (drop (k + 1) text)) (sym e)

-- where no space is, the line is one word
pub words_whole : (text : List ℕ) (n : ℕ) → n ≡ position_or_len is_space text → length text ≤ n → words text ≡ text ∷ []
words_whole text n e le = slice_split_none is_space text (λ k d lt. fails_before_first is_space text k d (omega arith))

-- the same, with the rest as a slice of the line
pub words_split_at : (text : List ℕ) (n : ℕ) → n ≡ position_or_len is_space text → n < length text → words text ≡ take n text ∷ words (take (length text - (n + 1)) (drop (n + 1) text))
words_split_at text n e lt =
    let len : length (drop (n + 1) text) ≡ length text - (n + 1) = length-drop (n + 1) text in
    words_split text n e lt ∙ ap (λ rest. take n text ∷ words rest) (sym (take_all (length text - (n + 1)) (drop (n + 1) text) (omega arith)))

nonempty_is : (n : ℕ) → 0 < n → (n == 0) ≡ false
nonempty_is n lt = grind (arith, common_steps)

-- a word that has a byte and is allowed has no fault
pub word_passes : (column : ℕ) (word : List ℕ) (passes : Bool) (kind : LineFaultKind) (rest : Option LineFault) → 0 < length word → passes ≡ true → word_fault column word passes kind rest ≡ rest
word_passes column word passes kind rest lt passed = rw (nonempty_is (length word) lt, passed) refl

by_test : (n : ℕ) (b : Bool) → (n == 0) ≡ b → (column : ℕ) (f : LineFault) → (if n == 0 then fault column Empty else None) ≡ Some f → b ≡ true
by_test n true is column f e = refl
by_test n false is column f e = cc

-- a test that was passed
pub check_passed : (b : Bool) (f : LineFault) → None ≡ (if b then None else Some f) → b ≡ true
check_passed true f is = refl
check_passed false f is = cc

-- the first two words
pub verb_absent : (end column : ℕ) (ws rest : List (List ℕ)) (noun : List ℕ) (f : LineFault) → ws ≡ noun ∷ rest → 0 < length noun → is_noun noun ≡ true → column ≡ length noun + 1
    → absence end column rest ≡ Some f → words_fault end ws ≡ Some f
verb_absent end column ws rest noun f are lt passed place is =
    ap (words_fault end) are ∙ word_passes 0 noun (is_noun noun) UnknownWord (verb_fault end (length noun + 1) noun rest) lt passed
    ∙ ap (λ n. verb_fault end n noun rest) (sym place) ∙ absent end column rest is
  where
    absent : (end column : ℕ) (rest : List (List ℕ)) → absence end column rest ≡ Some f → verb_fault end column noun rest ≡ Some f
    absent end column [] is = is
    absent end column (verb ∷ rest) is = let empty : (length verb == 0) ≡ true = by_test (length verb) (length verb == 0) refl column f is in
        rw empty (rw empty at is)

by_first : {X : Type 0} (p : X → Bool) (y : X) (ys : List X) (x : X) → (find p ys ≡ Some x → p x ≡ true) → (b : Bool) → p y ≡ b → find p (y ∷ ys) ≡ Some x → p x ≡ true
by_first p y ys x later true passes is = let found : Some y ≡ Some x = rw passes at is in
    ap p (sym (some_same found)) ∙ passes
by_first p y ys x later false fails is = later (rw fails at is)

find_some : {X : Type 0} (p : X → Bool) (xs : List X) (x : X) → find p xs ≡ Some x → p x ≡ true
find_some p [] x is = cc
find_some p (y ∷ ys) x is = by_first p y ys x (find_some p ys x) (p y) refl is

pub command_words : (noun verb : List ℕ) (command : EditCommand) → command_from noun verb ≡ Some command → ((grammar_of command).noun ≡ noun) × ((grammar_of command).verb ≡ verb)
command_words noun verb command is =
    let passes = find_some (λ c. bytes_eq (grammar_of c).noun noun && bytes_eq (grammar_of c).verb verb) commands command is in
    let both = both_true (bytes_eq (grammar_of command).noun noun) (bytes_eq (grammar_of command).verb verb) passes in
    ((bytes_eq-Decides _ _).0 both.0, (bytes_eq-Decides _ _).0 both.1)

some_word : (ws : List (List ℕ)) (n : ℕ) → length ws ≡ n + 1 → (end column : ℕ) (f : LineFault) → absence end column ws ≡ Some f → forms_fault end column [] ws ≡ Some f
some_word [] n len end column f is = absurd (omega arith)
some_word (word ∷ ws) n len end column f is = let empty : (length word == 0) ≡ true = by_test (length word) (length word == 0) refl column f is in
    rw empty (rw empty at is)

-- a line that goes on behind an edit's end, with a space
pub end_absent : (rest : Option (Bor (List ℕ))) (end column : ℕ) (f : LineFault) → is_some rest ≡ true → absence end column (words_in rest) ≡ Some f → forms_fault end column [] (words_in rest) ≡ Some f
end_absent None end column f some is = cc
end_absent (Some text) end column f some is = some_word (words text.now) (count_by is_space text.now) (length-slice_split is_space text.now) end column f is
