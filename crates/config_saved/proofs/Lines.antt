-- The lines of saved edits: how long they are, and that no line end is in one.
use Rattle.std.proofs.Common.{◌≡◌, ◌+◌, ◌<◌, ◌≤◌, ◌^◌, ◌==◌, ◌++◌, ◌∷◌, [], ℕ, Bool, true, false, ◌&&◌, nat_eq, nat_lt, nat_le, if◌then◌else◌, is_none, Some, None, List, codes, length, get_or, refl, ap, sym, ◌∙◌, subst, arith, inl, inr, lit≤, lit<}
use Rattle.std.proofs.lemmas.Bool.{and_parts, both_ways, cases_Bool, cond-false, ltb-false, or_from, or_parts}
use Rattle.std.proofs.lemmas.Bool.Decides.{nat_tests}
use Rattle.std.proofs.lemmas.Fmt.{decimal_is_IsNumeral, length-decimal-le}
use Rattle.std.proofs.lemmas.Grind.{common_steps}
use Rattle.std.proofs.lemmas.List.{append_assoc, get_or_default, length-append}
use Rattle.std.proofs.lemmas.List.Folds.{list_all_at, list_any-append, list_any_none}
use Rattle.std.specs.Char.{is_ascii_graphic}
use Rattle.std.specs.Fmt.{decimal}
use Rattle.std.specs.Int.{IsInRange}
use Rattle.std.specs.Str.Parse.{AllDigits}
use Rattle.std.proofs.lemmas.Str.Parse.{digit_at}
use Rattle.std.specs.List.{AllByRecursion, list_all, list_any, onto_first, starts_with}
use Rattle.config_lists.specs.declared.group_state.AnaState.TheVariants.{Optimized, NonOptimized, Inaccessible, PersistentLoss, Change}
use Rattle.config_lists.specs.declared.namespace.Visibility.TheVariants.{All as SeenByAll, Named}
use Rattle.config_lists.specs.declared.port.Family.TheVariants.{Ipv4, Ipv6}
use Rattle.config_lists.specs.declared.subsystem.Access.TheVariants.{Open, Closed}
use Rattle.config_lists.specs.declared.edit.Edit.{Edit}
use Rattle.nvt_fields.specs.Name.{is_name}
use Rattle.nvt_fields.specs.declared.name.NqnFault.TheVariants.{TooLong, BadNqn}
use Rattle.config_text.specs.Lines.{lines_of}
use Rattle.config_text.specs.Operand.{IsSaid, Value, access, family, name, number, state, text, uuid, visibility, word_of}
use Rattle.config_text.specs.Word.{uuid_word}
use Rattle.uuid.specs.Text.{digit_place, hex_digit, is_hyphen_place, nibble}
use Rattle.uuid.proofs.TextLemmas.{by_index_at, by_index_length}
use Rattle.config_text.specs.EditLine.{IsLineOf, IsSayable, command_of, line_of, values_of}
use Rattle.config_text.specs.Output.{head_of, spaced}
use Rattle.config_text.proofs.WriteLemmas.{line_is}
use Rattle.config_saved.specs.Text.{AreLinesOf, text_of}

-- ---- how long a line is

-- as many bytes as the word of a value has at most
abbrev pub most_of : Value → ℕ
most_of (number n) = 20
most_of (name bytes) = 223
most_of (text bytes) = 256
most_of (uuid bytes) = 36
most_of (family f) = 4
most_of (access a) = 6
most_of (visibility v) = 5
most_of (state s) = 15

-- where it is a text, no longer than that
abbrev pub IsShort : Value → Type 0
IsShort (text bytes) = length bytes ≤ 256
IsShort _ = Unit {0}

name_fits : (long named : Bool) → is_none (if long then Some TooLong else if named then None else Some BadNqn) ≡ true → (long ≡ false) × (named ≡ true)
name_fits true named is = cc
name_fits false true is = (refl, refl)
name_fits false false is = cc

length-uuid_word : (bytes : List ℕ) → length (uuid_word bytes) ≡ 36
length-uuid_word bytes = by_index_length 36 (λ k. if is_hyphen_place k then 45 else hex_digit 97 (nibble bytes (digit_place k)))

short_word : (v : Value) → IsSaid v → IsShort v → length (word_of v) ≤ most_of v
short_word (number n) said short = length-decimal-le 20 n (lit< tt) (omega arith) said
short_word (name bytes) said short = ltb-false 223 (length bytes) (name_fits (nat_lt 223 (length bytes)) (is_name bytes) said).0
short_word (text bytes) said short = short
short_word (uuid bytes) said short = omega (arith, length-uuid_word bytes)
short_word (family Ipv4) said short = lit≤ tt
short_word (family Ipv6) said short = lit≤ tt
short_word (access Open) said short = lit≤ tt
short_word (access Closed) said short = lit≤ tt
short_word (visibility SeenByAll) said short = lit≤ tt
short_word (visibility Named) said short = lit≤ tt
short_word (state Optimized) said short = lit≤ tt
short_word (state NonOptimized) said short = lit≤ tt
short_word (state Inaccessible) said short = lit≤ tt
short_word (state PersistentLoss) said short = lit≤ tt
short_word (state Change) said short = lit≤ tt

-- .. and all of these words, each with a space
abbrev pub most_of_all : List Value → ℕ
most_of_all [] = 0
most_of_all (v ∷ vs) = 1 + most_of v + most_of_all vs

length-spaced : (vs : List Value) → AllByRecursion IsSaid vs → AllByRecursion IsShort vs → length (spaced vs) ≤ most_of_all vs
length-spaced [] said short = lit≤ tt
length-spaced (v ∷ vs) said short =
    let first : length (word_of v) ≤ most_of v = short_word v said.0 short.0 in
    let others : length (spaced vs) ≤ most_of_all vs = length-spaced vs said.1 short.1 in
    omega (arith, length-append (32 ∷ word_of v) (spaced vs))

-- ---- no line end is in it

abbrev pub has_end : List ℕ → Bool
has_end bytes = list_any (λ b. b == 10) bytes

graphic : (b : ℕ) → is_ascii_graphic b ≡ true → (b == 10) ≡ false
graphic b is = grind (arith, common_steps)

graphic_no_end : (word : List ℕ) → list_all is_ascii_graphic word ≡ true → has_end word ≡ false
graphic_no_end word all =
    list_any_none (λ b. b == 10) word (λ k d below.
    let b : ℕ = get_or word k d in
    elim (cases_Bool (is_ascii_graphic b)) [
      | inl is ↦ graphic b is
      | inr other ↦ absurd (both_ways (list_all is_ascii_graphic word) (list_all_at is_ascii_graphic word k d below other) all)
    ])

digit_no_end : (d : ℕ) → (hex_digit 97 d == 10) ≡ false
digit_no_end d = grind (arith, nat_tests)

place_no_end : (v : Bool) (d : ℕ) → ((if v then 45 else hex_digit 97 d) == 10) ≡ false
place_no_end true d = refl
place_no_end false d = digit_no_end d

number_no_end : (n : ℕ) → n < 2 ^ 64 → has_end (decimal n) ≡ false
number_no_end n small =
    list_any_none (λ b. b == 10) (decimal n) (λ k d below.
    let all : AllDigits 10 (decimal n) = (decimal_is_IsNumeral n small).0.1 in
    let range : IsInRange 48 57 (get_or (decimal n) k 0) = digit_at (decimal n) k all below in
    ap (λ b. b == 10) (get_or_default (decimal n) k d 0 below) ∙ in_range_no_end (get_or (decimal n) k 0) range) where
      in_range_no_end : (b : ℕ) → IsInRange 48 57 b → (b == 10) ≡ false
      in_range_no_end b range = grind (arith, common_steps)

uuid_no_end : (bytes : List ℕ) → has_end (uuid_word bytes) ≡ false
uuid_no_end bytes =
    let text : ℕ → ℕ = λ k. if is_hyphen_place k then 45 else hex_digit 97 (nibble bytes (digit_place k)) in
    list_any_none (λ b. b == 10) (uuid_word bytes) (λ k d below.
    let within : k < 36 = omega (arith, length-uuid_word bytes) in
    ap (λ b. b == 10) (by_index_at 36 text k d within) ∙ place_no_end (is_hyphen_place k) (nibble bytes (digit_place k)))

word_no_end : (v : Value) → IsSaid v → has_end (word_of v) ≡ false
word_no_end (number n) said = number_no_end n said
word_no_end (name bytes) said =
    let named = (name_fits (nat_lt 223 (length bytes)) (is_name bytes) said).1 in
    let both = and_parts (nat_le 5 (length bytes)) (starts_with nat_eq bytes (codes "nqn.") && list_all is_ascii_graphic bytes) named in
    graphic_no_end bytes (and_parts (starts_with nat_eq bytes (codes "nqn.")) (list_all is_ascii_graphic bytes) both.1).1
word_no_end (text bytes) said = graphic_no_end bytes (and_parts (nat_lt 0 (length bytes)) (list_all is_ascii_graphic bytes) said).1
word_no_end (uuid bytes) said = uuid_no_end bytes
word_no_end (family Ipv4) said = refl
word_no_end (family Ipv6) said = refl
word_no_end (access Open) said = refl
word_no_end (access Closed) said = refl
word_no_end (visibility SeenByAll) said = refl
word_no_end (visibility Named) said = refl
word_no_end (state Optimized) said = refl
word_no_end (state NonOptimized) said = refl
word_no_end (state Inaccessible) said = refl
word_no_end (state PersistentLoss) said = refl
word_no_end (state Change) said = refl

both_no_end : (a b : List ℕ) → has_end a ≡ false → has_end b ≡ false → has_end (a ++ b) ≡ false
both_no_end a b first second = list_any-append (λ b. b == 10) a b ∙ or_from (has_end a) (has_end b) first second

spaced_no_end : (vs : List Value) → AllByRecursion IsSaid vs → has_end (spaced vs) ≡ false
spaced_no_end [] said = refl
spaced_no_end (v ∷ vs) said = both_no_end (32 ∷ word_of v) (spaced vs) (word_no_end v said.0) (spaced_no_end vs said.1)

-- ---- an edit whose line is no longer than a line may be

pub record HasShortLine (e : Edit) : Type 0 where
  pub texts : AllByRecursion IsShort (values_of e)
  pub most : length (head_of (command_of e)) + most_of_all (values_of e) ≤ 1024
  pub head : has_end (head_of (command_of e)) ≡ false

line_of-short : (e : Edit) → IsSayable e → HasShortLine e → length (line_of e) ≤ 1024
line_of-short e sayable short =
    let others : length (spaced (values_of e)) ≤ most_of_all (values_of e) = length-spaced (values_of e) sayable short.texts in
    omega (arith, ap length (line_is e), length-append (head_of (command_of e)) (spaced (values_of e)), short.most)

line_of-no_end : (e : Edit) → IsSayable e → HasShortLine e → has_end (line_of e) ≡ false
line_of-no_end e sayable short =
    ap has_end (line_is e) ∙ both_no_end (head_of (command_of e)) (spaced (values_of e)) short.head (spaced_no_end (values_of e) sayable)

-- ---- the lines of a text

-- a line with its end is the first
lines_of-ended : (line rest : List ℕ) → has_end line ≡ false → lines_of (line ++ 10 ∷ rest) ≡ line ∷ lines_of rest
lines_of-ended [] rest none = refl
lines_of-ended (b ∷ line) rest none =
    let parts = or_parts (b == 10) (has_end line) none in
    cond-false (b == 10) ([] ∷ lines_of (line ++ 10 ∷ rest)) (onto_first b (lines_of (line ++ 10 ∷ rest))) parts.0
    ∙ ap (onto_first b) (lines_of-ended line rest parts.1)

-- the lines of a text are those of its edits
pub lines_of-text_of : (edits : List Edit) → AllByRecursion IsSayable edits → AllByRecursion HasShortLine edits → AreLinesOf (lines_of (text_of edits)) edits
lines_of-text_of [] sayable short = tt
lines_of-text_of (e ∷ edits) sayable short =
    let first : lines_of (text_of (e ∷ edits)) ≡ line_of e ∷ lines_of (text_of edits) =
    ap lines_of (append_assoc (line_of e) (10 ∷ []) (text_of edits)) ∙ lines_of-ended (line_of e) (text_of edits) (line_of-no_end e sayable.0 short.0) in
    let is : IsLineOf (line_of e) e = record { sayable = sayable.0; is_line = refl; short = line_of-short e sayable.0 short.0 } in
    subst (λ ls. AreLinesOf ls (e ∷ edits)) (sym first) (is, lines_of-text_of edits sayable.1 short.1)
