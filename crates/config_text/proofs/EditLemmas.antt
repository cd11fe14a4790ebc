-- Each edit has one line, and a line is that of one edit.
use Rattle.std.proofs.Common.{◌≡◌, ℕ, ◌+◌, ◌≤◌, ◌==◌, true, false, nat_lt, if◌then◌else◌, is_some, Some, None, unwrap_or, List, [], ◌∷◌, length, get_or, map, codes, refl, sym, subst, ap, ◌∙◌, arith}
use Rattle.std.specs.Str.{bytes_eq}
use Rattle.std.specs.Str.Parse.{digits_value}
use Rattle.std.specs.List.{AllByRecursion, join_with_byte}
use Rattle.std.proofs.lemmas.Fmt.{decimal_nonempty, digits_value-decimal}
use Rattle.std.proofs.lemmas.Grind.{common_steps}
use Rattle.std.proofs.lemmas.List.{get_or_default}
use Rattle.std.proofs.lemmas.List.Splits.{join_with_byte-slice_split, slice_split_at, slice_split_none}
use Rattle.config_lists.specs.declared.edit.Edit.{Edit}
use Rattle.config_lists.specs.declared.edit.Edit.TheVariants as edit
use Rattle.config_lists.specs.declared.edit.Endpoint.{Endpoint}
use Rattle.config_lists.specs.declared.edit.NewNamespace.{NewNamespace}
use Rattle.config_lists.specs.declared.group_state.AnaState.{AnaState}
use Rattle.config_lists.specs.declared.group_state.AnaState.TheVariants.{Optimized, NonOptimized, Inaccessible, PersistentLoss, Change}
use Rattle.config_lists.specs.declared.namespace.Visibility.{Visibility}
use Rattle.config_lists.specs.declared.namespace.Visibility.TheVariants.{All, Named}
use Rattle.config_lists.specs.declared.port.Family.{Family}
use Rattle.config_lists.specs.declared.port.Family.TheVariants.{Ipv4, Ipv6}
use Rattle.config_lists.specs.declared.subsystem.Access.{Access}
use Rattle.config_lists.specs.declared.subsystem.Access.TheVariants.{Open, Closed}
use Rattle.config_text.specs.Command.{command_from, grammar_of, is_noun}
use Rattle.config_text.specs.EditLine.{IsEditOf, IsLineOf, IsSayable, command_of, line_of, values_of, words_of}
use Rattle.config_text.specs.Said.{IsSaidBy}
use Rattle.config_text.specs.Operand.{IsSaid, Value, access, allows, family, form_of, kind_of, name, number, state, text, uuid, visibility, word_of}
use Rattle.config_text.specs.Words.{command_fault, forms_fault, line_fault, verb_fault, words, words_fault}
use Rattle.config_text.specs.declared.command.EditCommand.{EditCommand}
use Rattle.config_text.specs.declared.command.EditCommand.TheVariants as command
use Rattle.config_text.specs.declared.fault.LineFaultKind.TheVariants.{UnknownWord}
use Rattle.config_text.specs.declared.operand.Form.{Form}
use Rattle.config_text.specs.declared.operand.Form.TheVariants as form
use Rattle.config_text.proofs.NumberLemmas.{is_number-decimal, no_space, own}
use Rattle.config_text.proofs.UuidLemmas.{is_uuid_word-uuid_word, uuid_back, uuid_is_word}
use Rattle.config_text.proofs.PlainWords.{IsWord, name_is_word, plain_word, is_plain, text_is_word}
use Rattle.config_text.proofs.WordLemmas.{word_passes}
use Rattle.uuid.specs.Text.{parsed}

-- words that are joined by spaces are split there again
pub words-join : (word : List ℕ) (ws : List (List ℕ)) → AllByRecursion IsWord (word ∷ ws) → words (join_with_byte 32 (word ∷ ws)) ≡ word ∷ ws
words-join word [] all = slice_split_none (λ b. b == 32) word (all.0).no_space
words-join word (next ∷ ws) all = slice_split_at (λ b. b == 32) word 32 (join_with_byte 32 (next ∷ ws)) (all.0).no_space refl ∙ ap (λ l. word ∷ l) (words-join next ws all.1)

-- the two words that a command begins with are plain, the first is known, and no other command begins with both
record HasWords (c : EditCommand) : Type 0 where
  noun : is_plain (grammar_of c).noun ≡ true
  verb : is_plain (grammar_of c).verb ≡ true
  known_noun : is_noun (grammar_of c).noun ≡ true
  known : command_from (grammar_of c).noun (grammar_of c).verb ≡ Some c

has_words : (c : EditCommand) → HasWords c
has_words command.SubsystemAdd = record { noun = refl; verb = refl; known_noun = refl; known = refl }
has_words command.SubsystemSet = record { noun = refl; verb = refl; known_noun = refl; known = refl }
has_words command.SubsystemDel = record { noun = refl; verb = refl; known_noun = refl; known = refl }
has_words command.NamespaceAdd = record { noun = refl; verb = refl; known_noun = refl; known = refl }
has_words command.NamespaceSize = record { noun = refl; verb = refl; known_noun = refl; known = refl }
has_words command.NamespaceGroup = record { noun = refl; verb = refl; known_noun = refl; known = refl }
has_words command.NamespaceDel = record { noun = refl; verb = refl; known_noun = refl; known = refl }
has_words command.NamespaceView = record { noun = refl; verb = refl; known_noun = refl; known = refl }
has_words command.NamespaceShow = record { noun = refl; verb = refl; known_noun = refl; known = refl }
has_words command.NamespaceHide = record { noun = refl; verb = refl; known_noun = refl; known = refl }
has_words command.PortAdd = record { noun = refl; verb = refl; known_noun = refl; known = refl }
has_words command.PortSet = record { noun = refl; verb = refl; known_noun = refl; known = refl }
has_words command.PortDel = record { noun = refl; verb = refl; known_noun = refl; known = refl }
has_words command.LinkAdd = record { noun = refl; verb = refl; known_noun = refl; known = refl }
has_words command.LinkDel = record { noun = refl; verb = refl; known_noun = refl; known = refl }
has_words command.HostAdd = record { noun = refl; verb = refl; known_noun = refl; known = refl }
has_words command.HostDel = record { noun = refl; verb = refl; known_noun = refl; known = refl }
has_words command.AllowAdd = record { noun = refl; verb = refl; known_noun = refl; known = refl }
has_words command.AllowDel = record { noun = refl; verb = refl; known_noun = refl; known = refl }
has_words command.AnaSet = record { noun = refl; verb = refl; known_noun = refl; known = refl }
has_words command.ReferralAdd = record { noun = refl; verb = refl; known_noun = refl; known = refl }
has_words command.ReferralSet = record { noun = refl; verb = refl; known_noun = refl; known = refl }
has_words command.ReferralDel = record { noun = refl; verb = refl; known_noun = refl; known = refl }

-- what the values of an edit are, each by its place
abbrev bytes_of : Value → List ℕ
bytes_of (number x) = []
bytes_of (name x) = x
bytes_of (text x) = x
bytes_of (uuid x) = x
bytes_of (family x) = []
bytes_of (access x) = []
bytes_of (visibility x) = []
bytes_of (state x) = []

abbrev number_of : Value → ℕ
number_of (number x) = x
number_of (name x) = 0
number_of (text x) = 0
number_of (uuid x) = 0
number_of (family x) = 0
number_of (access x) = 0
number_of (visibility x) = 0
number_of (state x) = 0

abbrev family_of : Value → Family
family_of (number x) = Ipv4
family_of (name x) = Ipv4
family_of (text x) = Ipv4
family_of (uuid x) = Ipv4
family_of (family x) = x
family_of (access x) = Ipv4
family_of (visibility x) = Ipv4
family_of (state x) = Ipv4

abbrev access_of : Value → Access
access_of (number x) = Open
access_of (name x) = Open
access_of (text x) = Open
access_of (uuid x) = Open
access_of (family x) = Open
access_of (access x) = x
access_of (visibility x) = Open
access_of (state x) = Open

abbrev visibility_of : Value → Visibility
visibility_of (number x) = All
visibility_of (name x) = All
visibility_of (text x) = All
visibility_of (uuid x) = All
visibility_of (family x) = All
visibility_of (access x) = All
visibility_of (visibility x) = x
visibility_of (state x) = All

abbrev state_of : Value → AnaState
state_of (number x) = Change
state_of (name x) = Change
state_of (text x) = Change
state_of (uuid x) = Change
state_of (family x) = Change
state_of (access x) = Change
state_of (visibility x) = Change
state_of (state x) = x

abbrev at : List Value → ℕ → Value
at vs i = get_or vs i (number 0)

abbrev endpoint_of : List Value → Endpoint
endpoint_of vs = record { id = number_of (at vs 0); family = family_of (at vs 1); address = bytes_of (at vs 2); service = number_of (at vs 3) }

abbrev namespace_of : List Value → NewNamespace
namespace_of vs = record { subsystem = bytes_of (at vs 0); nsid = number_of (at vs 1); disk = number_of (at vs 2); blocks = number_of (at vs 3); block_size = number_of (at vs 4); uuid = bytes_of (at vs 5); group = number_of (at vs 6) }

-- the edit of a command and values
abbrev edit_of : EditCommand → List Value → Edit
edit_of command.SubsystemAdd vs = edit.SubsystemAdd (bytes_of (at vs 0)) (bytes_of (at vs 1)) (access_of (at vs 2))
edit_of command.SubsystemSet vs = edit.SubsystemSet (bytes_of (at vs 0)) (access_of (at vs 1))
edit_of command.SubsystemDel vs = edit.SubsystemDel (bytes_of (at vs 0))
edit_of command.NamespaceAdd vs = edit.NamespaceAdd (namespace_of vs)
edit_of command.NamespaceSize vs = edit.NamespaceSize (bytes_of (at vs 0)) (number_of (at vs 1)) (number_of (at vs 2))
edit_of command.NamespaceGroup vs = edit.NamespaceGroup (bytes_of (at vs 0)) (number_of (at vs 1)) (number_of (at vs 2))
edit_of command.NamespaceDel vs = edit.NamespaceDel (bytes_of (at vs 0)) (number_of (at vs 1))
edit_of command.NamespaceView vs = edit.NamespaceView (bytes_of (at vs 0)) (number_of (at vs 1)) (visibility_of (at vs 2))
edit_of command.NamespaceShow vs = edit.NamespaceShow (bytes_of (at vs 0)) (number_of (at vs 1)) (bytes_of (at vs 2))
edit_of command.NamespaceHide vs = edit.NamespaceHide (bytes_of (at vs 0)) (number_of (at vs 1)) (bytes_of (at vs 2))
edit_of command.PortAdd vs = edit.PortAdd (endpoint_of vs)
edit_of command.PortSet vs = edit.PortSet (endpoint_of vs)
edit_of command.PortDel vs = edit.PortDel (number_of (at vs 0))
edit_of command.LinkAdd vs = edit.LinkAdd (number_of (at vs 0)) (bytes_of (at vs 1))
edit_of command.LinkDel vs = edit.LinkDel (number_of (at vs 0)) (bytes_of (at vs 1))
edit_of command.HostAdd vs = edit.HostAdd (bytes_of (at vs 0))
edit_of command.HostDel vs = edit.HostDel (bytes_of (at vs 0))
edit_of command.AllowAdd vs = edit.AllowAdd (bytes_of (at vs 0)) (bytes_of (at vs 1))
edit_of command.AllowDel vs = edit.AllowDel (bytes_of (at vs 0)) (bytes_of (at vs 1))
edit_of command.AnaSet vs = edit.AnaSet (number_of (at vs 0)) (bytes_of (at vs 1)) (number_of (at vs 2)) (state_of (at vs 3))
edit_of command.ReferralAdd vs = edit.ReferralAdd (endpoint_of vs)
edit_of command.ReferralSet vs = edit.ReferralSet (endpoint_of vs)
edit_of command.ReferralDel vs = edit.ReferralDel (number_of (at vs 0))

-- the values of an edit have the forms of its command, and with it they are that edit
record IsOfCommand (e : Edit) : Type 0 where
  forms : map form_of (values_of e) ≡ (grammar_of (command_of e)).forms
  back : edit_of (command_of e) (values_of e) ≡ e

of_command : (e : Edit) → IsOfCommand e
of_command (edit.SubsystemAdd n s a) = record { forms = refl; back = refl }
of_command (edit.SubsystemSet n a) = record { forms = refl; back = refl }
of_command (edit.SubsystemDel n) = record { forms = refl; back = refl }
of_command (edit.NamespaceAdd n) = record { forms = refl; back = refl }
of_command (edit.NamespaceSize s n b) = record { forms = refl; back = refl }
of_command (edit.NamespaceGroup s n g) = record { forms = refl; back = refl }
of_command (edit.NamespaceDel s n) = record { forms = refl; back = refl }
of_command (edit.NamespaceView s n v) = record { forms = refl; back = refl }
of_command (edit.NamespaceShow s n h) = record { forms = refl; back = refl }
of_command (edit.NamespaceHide s n h) = record { forms = refl; back = refl }
of_command (edit.PortAdd e) = record { forms = refl; back = refl }
of_command (edit.PortSet e) = record { forms = refl; back = refl }
of_command (edit.PortDel i) = record { forms = refl; back = refl }
of_command (edit.LinkAdd p s) = record { forms = refl; back = refl }
of_command (edit.LinkDel p s) = record { forms = refl; back = refl }
of_command (edit.HostAdd n) = record { forms = refl; back = refl }
of_command (edit.HostDel n) = record { forms = refl; back = refl }
of_command (edit.AllowAdd s h) = record { forms = refl; back = refl }
of_command (edit.AllowDel s h) = record { forms = refl; back = refl }
of_command (edit.AnaSet p s g t) = record { forms = refl; back = refl }
of_command (edit.ReferralAdd e) = record { forms = refl; back = refl }
of_command (edit.ReferralSet e) = record { forms = refl; back = refl }
of_command (edit.ReferralDel i) = record { forms = refl; back = refl }

-- the value that a word of a form says
abbrev value_from : Form → List ℕ → Value
value_from form.Number w = number (digits_value 10 w)
value_from form.Name w = name w
value_from form.Text w = text w
value_from form.Uuid w = uuid (unwrap_or (parsed w) [])
value_from form.Family w = family (if bytes_eq w (codes "ipv4") then Ipv4 else Ipv6)
value_from form.Access w = access (if bytes_eq w (codes "open") then Open else Closed)
value_from form.Visibility w = visibility (if bytes_eq w (codes "all") then All else Named)
value_from form.State w = state
    (if bytes_eq w (codes "optimized") then Optimized
    else if bytes_eq w (codes "non-optimized") then NonOptimized
    else if bytes_eq w (codes "inaccessible") then Inaccessible
    else if bytes_eq w (codes "persistent-loss") then PersistentLoss else Change)

value_back : (v : Value) → IsSaid v → value_from (form_of v) (word_of v) ≡ v
value_back (number n) said = ap number (digits_value-decimal own n said)
value_back (name bytes) said = refl
value_back (text bytes) said = refl
value_back (uuid bytes) said = ap uuid (uuid_back bytes said)
value_back (family Ipv4) said = refl
value_back (family Ipv6) said = refl
value_back (access Open) said = refl
value_back (access Closed) said = refl
value_back (visibility All) said = refl
value_back (visibility Named) said = refl
value_back (state Optimized) said = refl
value_back (state NonOptimized) said = refl
value_back (state Inaccessible) said = refl
value_back (state PersistentLoss) said = refl
value_back (state Change) said = refl

abbrev values_from : List Form → List (List ℕ) → List Value
values_from [] ws = []
values_from (f ∷ fs) [] = []
values_from (f ∷ fs) (w ∷ ws) = value_from f w ∷ values_from fs ws

values_back : (vs : List Value) → AllByRecursion IsSaid vs → values_from (map form_of vs) (map word_of vs) ≡ vs
values_back [] all = refl
values_back (v ∷ vs) all = ap (λ x. x ∷ values_from (map form_of vs) (map word_of vs)) (value_back v all.0) ∙ ap (λ l. v ∷ l) (values_back vs all.1)

-- the word of a value is a word of its form
word_allowed : (v : Value) → IsSaid v → allows (form_of v) (word_of v) ≡ true
word_allowed (number n) said = is_number-decimal n said
word_allowed (name bytes) said = said
word_allowed (text bytes) said = said
word_allowed (uuid bytes) said = is_uuid_word-uuid_word bytes said
word_allowed (family Ipv4) said = refl
word_allowed (family Ipv6) said = refl
word_allowed (access Open) said = refl
word_allowed (access Closed) said = refl
word_allowed (visibility All) said = refl
word_allowed (visibility Named) said = refl
word_allowed (state Optimized) said = refl
word_allowed (state NonOptimized) said = refl
word_allowed (state Inaccessible) said = refl
word_allowed (state PersistentLoss) said = refl
word_allowed (state Change) said = refl

value_word : (v : Value) → IsSaid v → IsWord (word_of v)
value_word (number n) said = record {
  nonempty = decimal_nonempty n said;
  no_space = λ k d lt. ap (λ b. b == 32) (get_or_default (word_of (number n)) k d 0 lt) ∙ no_space (word_of (number n)) n k (refl, said) lt;
}
value_word (name bytes) said = name_is_word bytes said
value_word (text bytes) said = text_is_word bytes said
value_word (uuid bytes) said = uuid_is_word bytes
value_word (family Ipv4) said = plain_word (codes "ipv4") refl
value_word (family Ipv6) said = plain_word (codes "ipv6") refl
value_word (access Open) said = plain_word (codes "open") refl
value_word (access Closed) said = plain_word (codes "closed") refl
value_word (visibility All) said = plain_word (codes "all") refl
value_word (visibility Named) said = plain_word (codes "named") refl
value_word (state Optimized) said = plain_word (codes "optimized") refl
value_word (state NonOptimized) said = plain_word (codes "non-optimized") refl
value_word (state Inaccessible) said = plain_word (codes "inaccessible") refl
value_word (state PersistentLoss) said = plain_word (codes "persistent-loss") refl
value_word (state Change) said = plain_word (codes "change") refl

value_words : (vs : List Value) → AllByRecursion IsSaid vs → AllByRecursion IsWord (map word_of vs)
value_words [] all = tt
value_words (v ∷ vs) all = (value_word v all.0, value_words vs all.1)

-- the words of an edit's line
pub words-line_of : (e : Edit) → IsSayable e → words (line_of e) ≡ words_of e
words-line_of e sayable =
    let c = command_of e in
    words-join (grammar_of c).noun ((grammar_of c).verb ∷ map word_of (values_of e)) (plain_word _ (has_words c).noun, (plain_word _ (has_words c).verb, value_words (values_of e) sayable))

no_forms_fault : (end column : ℕ) (vs : List Value) → AllByRecursion IsSaid vs → forms_fault end column (map form_of vs) (map word_of vs) ≡ None
no_forms_fault end column [] all = refl
no_forms_fault end column (v ∷ vs) all =
    let next : ℕ = column + length (word_of v) + 1 in
    word_passes column (word_of v) (allows (form_of v) (word_of v)) (kind_of (form_of v)) (forms_fault end next (map form_of vs) (map word_of vs)) (value_word v all.0).nonempty (word_allowed v all.0)
    ∙ no_forms_fault end next vs all.1

no_words_fault : (end : ℕ) (e : Edit) → IsSayable e → words_fault end (words_of e) ≡ None
no_words_fault end e sayable =
    let c = command_of e in
    let noun : List ℕ = (grammar_of c).noun in
    let verb : List ℕ = (grammar_of c).verb in
    let ws : List (List ℕ) = map word_of (values_of e) in
    let second : ℕ = length noun + 1 in
    let third : ℕ = second + length verb + 1 in
    word_passes 0 noun (is_noun noun) UnknownWord (verb_fault end second noun (verb ∷ ws)) (plain_word noun (has_words c).noun).nonempty (has_words c).known_noun
    ∙ word_passes second verb (is_some (command_from noun verb)) UnknownWord (command_fault end third (command_from noun verb) ws) (plain_word verb (has_words c).verb).nonempty (ap is_some (has_words c).known)
    ∙ ap (λ o. command_fault end third o ws) (has_words c).known
    ∙ ap (λ fs. forms_fault end third fs ws) (sym (of_command e).forms)
    ∙ no_forms_fault end third (values_of e) sayable

not_longer : (n : ℕ) → n ≤ 1024 → nat_lt 1024 n ≡ false
not_longer n short = grind (arith, common_steps)

-- the line of an edit has no fault
pub line_fault-line_of : (e : Edit) → IsSayable e → length (line_of e) ≤ 1024 → line_fault (line_of e) ≡ None
line_fault-line_of e sayable short =
    rw (not_longer (length (line_of e)) short) (ap (words_fault (length (line_of e))) (words-line_of e sayable) ∙ no_words_fault (length (line_of e)) e sayable)

pub no_line_fault : (line : List ℕ) (e : Edit) → IsLineOf line e → line_fault line ≡ None
no_line_fault line e is = ap line_fault is.is_line ∙ line_fault-line_of e is.sayable (subst (λ (l : List ℕ). length l ≤ 1024) is.is_line is.short)

cons_same : {X : Type 0} {x y : X} {xs ys : List X} → x ∷ xs ≡ y ∷ ys → (x ≡ y) × (xs ≡ ys)
cons_same is = (cc, cc)

some_same : {X : Type 0} {x y : X} → Some x ≡ Some y → x ≡ y
some_same is = cc

-- an edit, by its command and the words of its values
decode : (e : Edit) → IsSayable e → edit_of (command_of e) (values_from (grammar_of (command_of e)).forms (map word_of (values_of e))) ≡ e
decode e sayable =
    ap (λ fs. edit_of (command_of e) (values_from fs (map word_of (values_of e)))) (sym (of_command e).forms)
    ∙ ap (edit_of (command_of e)) (values_back (values_of e) sayable) ∙ (of_command e).back

same_edit : (e f : Edit) → IsSayable e → IsSayable f → words_of e ≡ words_of f → e ≡ f
same_edit e f said_e said_f is =
    let noun = cons_same is in
    let verb = cons_same noun.1 in
    let same : command_of e ≡ command_of f = some_same (sym (has_words (command_of e)).known ∙ ap (λ w. command_from w (grammar_of (command_of e)).verb) noun.0
    ∙ ap (λ w. command_from (grammar_of (command_of f)).noun w) verb.0 ∙ (has_words (command_of f)).known) in
    sym (decode e said_e) ∙ ap (λ c. edit_of c (values_from (grammar_of c).forms (map word_of (values_of e)))) same
    ∙ ap (λ ws. edit_of (command_of f) (values_from (grammar_of (command_of f)).forms ws)) verb.1 ∙ decode f said_f

-- two edits have two lines
pub one_edit : (line : List ℕ) (e f : Edit) → IsLineOf line e → IsLineOf line f → e ≡ f
one_edit line e f is_e is_f =
    same_edit e f is_e.sayable is_f.sayable (sym (words-line_of e is_e.sayable) ∙ ap words (sym is_e.is_line ∙ is_f.is_line) ∙ words-line_of f is_f.sayable)

-- what a line without a fault says is the edit that is made of it
pub line_from : (line : List ℕ) (c : EditCommand) (vs : List Value) (e : Edit) → IsSaidBy line c vs → IsEditOf c vs e → IsLineOf line e
line_from line c vs e said is = record {
  sayable = subst (AllByRecursion IsSaid) (sym is.values_are) said.said;
  is_line = sym (join_with_byte-slice_split 32 line) ∙ ap (join_with_byte 32) said.words_are
      ∙ ap (λ k. join_with_byte 32 ((grammar_of k).noun ∷ (grammar_of k).verb ∷ map word_of vs)) (sym is.command_is)
      ∙ ap (λ l. join_with_byte 32 ((grammar_of (command_of e)).noun ∷ (grammar_of (command_of e)).verb ∷ map word_of l)) (sym is.values_are);
  short = said.short;
}
