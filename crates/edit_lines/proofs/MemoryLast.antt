-- That memory ran out is no fault of a line, and no rule's refusal.
use Rattle.std.proofs.Common.{◌≡◌, ℕ, ◌+◌, ◌==◌, Bool, true, false, List, [], ◌∷◌, length, Option, Some, None, Err, refl, sym, ap, ◌∙◌, subst, inl, inr}
use Rattle.std.specs.Prelude.{if◌then◌else◌, is_some, nat_lt}
use Rattle.std.proofs.lemmas.Bool.{cases_Bool, false≢true}
use Rattle.config_lists.specs.declared.edit.Edit.{Edit}
use Rattle.config_lists.specs.declared.edit.Edit.TheVariants.{SubsystemAdd, SubsystemSet, SubsystemDel, NamespaceAdd, NamespaceSize, NamespaceGroup, NamespaceDel, NamespaceView, NamespaceShow, NamespaceHide, PortAdd, PortSet, PortDel, LinkAdd, LinkDel, HostAdd, HostDel, AllowAdd, AllowDel, AnaSet, ReferralAdd, ReferralSet, ReferralDel}
use Rattle.config_lists.specs.declared.fault.EditFault.{EditFault}
use Rattle.config_lists.specs.declared.fault.EditFault.TheVariants as why
use Rattle.nvt_config.specs.Accept.{Refusal, accept, effect, refusals, unless_refused}
use Rattle.nvt_config.specs.Configuration.{Configuration}
use Rattle.config_text.specs.Command.{command_from, grammar_of, is_noun}
use Rattle.config_text.specs.Operand.{allows, kind_of}
use Rattle.config_text.specs.declared.command.EditCommand.{EditCommand}
use Rattle.config_text.specs.declared.fault.LineFault.{LineFault}
use Rattle.config_text.specs.declared.fault.LineFaultKind.{LineFaultKind}
use Rattle.config_text.specs.declared.fault.LineFaultKind.TheVariants as kind
use Rattle.config_text.specs.declared.operand.Form.{Form}
use Rattle.config_text.specs.declared.operand.Form.TheVariants as form
use Rattle.config_text.specs.Words.{command_fault, fault, forms_fault, line_fault, verb_fault, word_fault, words, words_fault}

-- ---- lines

abbrev wants : LineFaultKind → Bool
wants kind.Memory = true
wants _ = false

-- it is a fault of a word, or none
abbrev IsOwn : Option LineFault → Type 0
IsOwn None = Unit {0}
IsOwn (Some f) = wants f.kind ≡ false

own_word : (column : ℕ) (word : List ℕ) (passes : Bool) (k : LineFaultKind) (rest : Option LineFault) → wants k ≡ false → IsOwn rest
    → IsOwn (word_fault column word passes k rest)
own_word column word passes k rest own of_rest = by (length word == 0) passes where
  by : (empty passing : Bool) → IsOwn (if empty then fault column kind.Empty else if passing then rest else fault column k)
  by true passing = refl
  by false true = of_rest
  by false false = own

own_form : (f : Form) → wants (kind_of f) ≡ false
own_form form.Number = refl
own_form form.Name = refl
own_form form.Text = refl
own_form form.Uuid = refl
own_form form.Family = refl
own_form form.Access = refl
own_form form.Visibility = refl
own_form form.State = refl

own_forms : (end column : ℕ) (forms : List Form) (ws : List (List ℕ)) → IsOwn (forms_fault end column forms ws)
own_forms end column [] [] = tt
own_forms end column [] (w ∷ ws) = own_word column w false kind.Extra None refl tt
own_forms end column (f ∷ forms) [] = refl
own_forms end column (f ∷ forms) (w ∷ ws) =
    own_word column w (allows f w) (kind_of f) (forms_fault end (column + length w + 1) forms ws) (own_form f)
    (own_forms end (column + length w + 1) forms ws)

own_command : (end column : ℕ) (o : Option EditCommand) (ws : List (List ℕ)) → IsOwn (command_fault end column o ws)
own_command end column None ws = tt
own_command end column (Some command) ws = own_forms end column (grammar_of command).forms ws

own_verb : (end column : ℕ) (noun : List ℕ) (ws : List (List ℕ)) → IsOwn (verb_fault end column noun ws)
own_verb end column noun [] = refl
own_verb end column noun (w ∷ ws) =
    own_word column w (is_some (command_from noun w)) kind.UnknownWord (command_fault end (column + length w + 1) (command_from noun w) ws) refl
    (own_command end (column + length w + 1) (command_from noun w) ws)

own_words : (end : ℕ) (ws : List (List ℕ)) → IsOwn (words_fault end ws)
own_words end [] = refl
own_words end (w ∷ ws) =
    own_word 0 w (is_noun w) kind.UnknownWord (verb_fault end (length w + 1) w ws) refl (own_verb end (length w + 1) w ws)

own_line : (line : List ℕ) → IsOwn (line_fault line)
own_line line = by (nat_lt 1024 (length line)) where
  by : (long : Bool) → IsOwn (if long then fault 0 kind.TooLong else words_fault (length line) (words line))
  by true = refl
  by false = own_words (length line) (words line)

pub no_line_wants_memory : (line : List ℕ) (f : LineFault) → line_fault line ≡ Some f → f.kind ≡ kind.Memory → ⊥
no_line_wants_memory line f is same =
    let own : wants f.kind ≡ false = subst IsOwn is (own_line line) in
    false≢true (sym own ∙ ap wants same)

-- ---- edits

abbrev is_memory : EditFault → Bool
is_memory why.Memory = true
is_memory _ = false

abbrev are_rules : List Refusal → Bool
are_rules [] = true
are_rules (r ∷ rs) = if is_memory r.1 then false else are_rules rs

all_are_rules : (c : Configuration) (edit : Edit) → are_rules (refusals c edit) ≡ true
all_are_rules c (SubsystemAdd nqn serial who) = refl
all_are_rules c (SubsystemSet nqn who) = refl
all_are_rules c (SubsystemDel nqn) = refl
all_are_rules c (NamespaceAdd n) = refl
all_are_rules c (NamespaceSize nqn nsid blocks) = refl
all_are_rules c (NamespaceGroup nqn nsid group) = refl
all_are_rules c (NamespaceDel nqn nsid) = refl
all_are_rules c (NamespaceView nqn nsid who) = refl
all_are_rules c (NamespaceShow nqn nsid host) = refl
all_are_rules c (NamespaceHide nqn nsid host) = refl
all_are_rules c (PortAdd e) = refl
all_are_rules c (PortSet e) = refl
all_are_rules c (PortDel id) = refl
all_are_rules c (LinkAdd port nqn) = refl
all_are_rules c (LinkDel port nqn) = refl
all_are_rules c (HostAdd nqn) = refl
all_are_rules c (HostDel nqn) = refl
all_are_rules c (AllowAdd nqn host) = refl
all_are_rules c (AllowDel nqn host) = refl
all_are_rules c (AnaSet port nqn group s) = refl
all_are_rules c (ReferralAdd e) = refl
all_are_rules c (ReferralSet e) = refl
all_are_rules c (ReferralDel id) = refl

none_wants : (rs : List Refusal) (next : Configuration) → are_rules rs ≡ true → unless_refused rs next ≡ Err why.Memory → ⊥
none_wants [] next are is = cc
none_wants ((true, f) ∷ rs) next are is =
    let same : f ≡ why.Memory = cc in
    false≢true (sym (ap (λ (r : EditFault). if is_memory r then false else are_rules rs) same) ∙ are)
none_wants ((false, f) ∷ rs) next are is =
    elim (cases_Bool (is_memory f)) [
      | inl wanting ↦ absurd (false≢true (rw wanting at are))
      | inr other ↦ none_wants rs next (rw other at are) is
    ]

pub no_rule_wants_memory : (c : Configuration) (edit : Edit) → accept c edit ≡ Err why.Memory → ⊥
no_rule_wants_memory c edit is = none_wants (refusals c edit) (effect c edit) (all_are_rules c edit) is
