-- The values that a line says, each by one word.
use Rattle.std.specs.Prelude.{◌≡◌, ℕ, ◌^◌, ◌<◌, Bool, IsTrue, List, length, All, map}
use Rattle.std.specs.Fmt.{decimal}
use Rattle.config_lists.specs.declared.group_state.AnaState.{AnaState}
use Rattle.config_lists.specs.declared.namespace.Visibility.{Visibility}
use Rattle.config_lists.specs.declared.port.Family.{Family}
use Rattle.config_lists.specs.declared.subsystem.Access.{Access}
use Rattle.config_text.specs.Number.{is_number}
use Rattle.config_text.specs.Word.{access_word, family_word, is_access, is_family, is_name_word, is_state, is_text_word, is_uuid_word, is_visibility, state_word, uuid_word, visibility_word}
use Rattle.config_text.specs.declared.fault.LineFaultKind.{LineFaultKind}
use Rattle.config_text.specs.declared.fault.LineFaultKind.TheVariants.{BadNumber, BadNqn, BadUuid, BadWord}
use Rattle.config_text.specs.declared.operand.Form.{Form}
use Rattle.config_text.specs.declared.operand.Form.TheVariants as form
use Rattle.config_text.specs.declared.operand.Operand.{Operand}
use Rattle.config_text.specs.declared.operand.Operand.TheVariants.{Number, Name, Text, Uuid, Family as FamilyOf, Access as AccessOf, Visibility as VisibilityOf, State}

-- a value, apart from where its bytes lie
pub data Value : Type 0 where
  number : ℕ → Value
  name : List ℕ → Value
  text : List ℕ → Value
  uuid : List ℕ → Value
  family : Family → Value
  access : Access → Value
  visibility : Visibility → Value
  state : AnaState → Value

-- its one word
abbrev pub word_of : Value → List ℕ
word_of (number n) = decimal n
word_of (name bytes) = bytes
word_of (text bytes) = bytes
word_of (uuid bytes) = uuid_word bytes
word_of (family f) = family_word f
word_of (access a) = access_word a
word_of (visibility v) = visibility_word v
word_of (state s) = state_word s

-- what its word has to be
abbrev pub form_of : Value → Form
form_of (number n) = form.Number
form_of (name bytes) = form.Name
form_of (text bytes) = form.Text
form_of (uuid bytes) = form.Uuid
form_of (family f) = form.Family
form_of (access a) = form.Access
form_of (visibility v) = form.Visibility
form_of (state s) = form.State

-- whether it has a word: numbers are below 2^64, names are names, texts are words, a UUID has 16 bytes
abbrev pub IsSaid : Value → Type 0
IsSaid (number n) = n < 2 ^ 64
IsSaid (name bytes) = IsTrue (is_name_word bytes)
IsSaid (text bytes) = IsTrue (is_text_word bytes)
IsSaid (uuid bytes) = (length bytes ≡ 16) × All (λ b. b < 256) bytes
IsSaid (family f) = Unit {0}
IsSaid (access a) = Unit {0}
IsSaid (visibility v) = Unit {0}
IsSaid (state s) = Unit {0}

abbrev pub allows : Form → List ℕ → Bool
allows form.Number word = is_number word
allows form.Name word = is_name_word word
allows form.Text word = is_text_word word
allows form.Uuid word = is_uuid_word word
allows form.Family word = is_family word
allows form.Access word = is_access word
allows form.Visibility word = is_visibility word
allows form.State word = is_state word

-- the fault of a word that is not of the form
abbrev pub kind_of : Form → LineFaultKind
kind_of form.Number = BadNumber
kind_of form.Name = BadNqn
kind_of form.Text = BadWord
kind_of form.Uuid = BadUuid
kind_of form.Family = BadWord
kind_of form.Access = BadWord
kind_of form.Visibility = BadWord
kind_of form.State = BadWord

-- what an operand of the code says
abbrev pub value_of : Operand → Value
value_of (Number n) = number n
value_of (Name bytes) = name bytes.now
value_of (Text bytes) = text bytes.now
value_of (Uuid bytes) = uuid bytes
value_of (FamilyOf f) = family f
value_of (AccessOf a) = access a
value_of (VisibilityOf v) = visibility v
value_of (State s) = state s

abbrev pub values : List Operand → List Value
values operands = map value_of operands

-- the word says the operand, which is of the form
pub record Reads (form : Form) (word : List ℕ) (operand : Operand) : Type 0 where
  pub word_is : word ≡ word_of (value_of operand)
  pub form_is : form_of (value_of operand) ≡ form
  pub is_said : IsSaid (value_of operand)
