-- The commands: the first two words of a line, and what has to follow them.
use Rattle.std.specs.Prelude.{ℕ, Bool, ◌&&◌, List, [], ◌∷◌, codes, Option, find}
use Rattle.std.specs.List.{list_any}
use Rattle.std.specs.Str.{bytes_eq}
use Rattle.config_text.specs.declared.command.EditCommand.{EditCommand}
use Rattle.config_text.specs.declared.command.EditCommand.TheVariants.{SubsystemAdd, SubsystemSet, SubsystemDel, NamespaceAdd, NamespaceSize, NamespaceGroup, NamespaceDel, NamespaceView, NamespaceShow, NamespaceHide, PortAdd, PortSet, PortDel, LinkAdd, LinkDel, HostAdd, HostDel, AllowAdd, AllowDel, AnaSet, ReferralAdd, ReferralSet, ReferralDel}
use Rattle.config_text.specs.declared.operand.Form.{Form}
use Rattle.config_text.specs.declared.operand.Form.TheVariants.{Number, Name, Text, Uuid, Family, Access, Visibility, State}

-- the two words that a command begins with, and the forms of the words after them
pub record Grammar : Type 0 where
  pub noun : List ℕ
  pub verb : List ℕ
  pub forms : List Form

abbrev endpoint : List Form
endpoint = Number ∷ Family ∷ Text ∷ Number ∷ []

abbrev pub grammar_of : EditCommand → Grammar
grammar_of SubsystemAdd = record { noun = codes "subsys"; verb = codes "add"; forms = Name ∷ Text ∷ Access ∷ [] }
grammar_of SubsystemSet = record { noun = codes "subsys"; verb = codes "set"; forms = Name ∷ Access ∷ [] }
grammar_of SubsystemDel = record { noun = codes "subsys"; verb = codes "del"; forms = Name ∷ [] }
grammar_of NamespaceAdd = record { noun = codes "ns"; verb = codes "add"; forms = Name ∷ Number ∷ Number ∷ Number ∷ Number ∷ Uuid ∷ Number ∷ [] }
grammar_of NamespaceSize = record { noun = codes "ns"; verb = codes "size"; forms = Name ∷ Number ∷ Number ∷ [] }
grammar_of NamespaceGroup = record { noun = codes "ns"; verb = codes "group"; forms = Name ∷ Number ∷ Number ∷ [] }
grammar_of NamespaceDel = record { noun = codes "ns"; verb = codes "del"; forms = Name ∷ Number ∷ [] }
grammar_of NamespaceView = record { noun = codes "ns"; verb = codes "view"; forms = Name ∷ Number ∷ Visibility ∷ [] }
grammar_of NamespaceShow = record { noun = codes "ns"; verb = codes "show"; forms = Name ∷ Number ∷ Name ∷ [] }
grammar_of NamespaceHide = record { noun = codes "ns"; verb = codes "hide"; forms = Name ∷ Number ∷ Name ∷ [] }
grammar_of PortAdd = record { noun = codes "port"; verb = codes "add"; forms = endpoint }
grammar_of PortSet = record { noun = codes "port"; verb = codes "set"; forms = endpoint }
grammar_of PortDel = record { noun = codes "port"; verb = codes "del"; forms = Number ∷ [] }
grammar_of LinkAdd = record { noun = codes "link"; verb = codes "add"; forms = Number ∷ Name ∷ [] }
grammar_of LinkDel = record { noun = codes "link"; verb = codes "del"; forms = Number ∷ Name ∷ [] }
grammar_of HostAdd = record { noun = codes "host"; verb = codes "add"; forms = Name ∷ [] }
grammar_of HostDel = record { noun = codes "host"; verb = codes "del"; forms = Name ∷ [] }
grammar_of AllowAdd = record { noun = codes "allow"; verb = codes "add"; forms = Name ∷ Name ∷ [] }
grammar_of AllowDel = record { noun = codes "allow"; verb = codes "del"; forms = Name ∷ Name ∷ [] }
grammar_of AnaSet = record { noun = codes "ana"; verb = codes "set"; forms = Number ∷ Name ∷ Number ∷ State ∷ [] }
grammar_of ReferralAdd = record { noun = codes "ref"; verb = codes "add"; forms = endpoint }
grammar_of ReferralSet = record { noun = codes "ref"; verb = codes "set"; forms = endpoint }
grammar_of ReferralDel = record { noun = codes "ref"; verb = codes "del"; forms = Number ∷ [] }

abbrev pub commands : List EditCommand
commands =
    SubsystemAdd ∷ SubsystemSet ∷ SubsystemDel
    ∷ NamespaceAdd ∷ NamespaceSize ∷ NamespaceGroup ∷ NamespaceDel
    ∷ NamespaceView ∷ NamespaceShow ∷ NamespaceHide
    ∷ PortAdd ∷ PortSet ∷ PortDel ∷ LinkAdd ∷ LinkDel ∷ HostAdd ∷ HostDel ∷ AllowAdd ∷ AllowDel
    ∷ AnaSet ∷ ReferralAdd ∷ ReferralSet ∷ ReferralDel ∷ []

-- whether a command begins with the word
abbrev pub is_noun : List ℕ → Bool
is_noun word = list_any (λ command. bytes_eq (grammar_of command).noun word) commands

-- the command that begins with the two words
abbrev pub command_from : List ℕ → List ℕ → Option EditCommand
command_from noun verb =
    find (λ command. bytes_eq (grammar_of command).noun noun && bytes_eq (grammar_of command).verb verb) commands
