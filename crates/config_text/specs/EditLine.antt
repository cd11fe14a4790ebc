-- The one line of each edit.
use Rattle.std.specs.Prelude.{◌≡◌, ℕ, ◌≤◌, List, [], ◌∷◌, length}
use Rattle.std.specs.List.{AllByRecursion, join_with_byte}
use Rattle.config_lists.specs.declared.edit.Edit.{Edit}
use Rattle.config_lists.specs.declared.edit.Edit.TheVariants as edit
use Rattle.config_lists.specs.declared.edit.Endpoint.{Endpoint}
use Rattle.config_lists.specs.declared.edit.NewNamespace.{NewNamespace}
use Rattle.config_text.specs.Operand.{IsSaid, Value, access, family, name, number, state, text, uuid, visibility}
use Rattle.config_text.specs.Said.{said_words}
use Rattle.config_text.specs.declared.command.EditCommand.{EditCommand}
use Rattle.config_text.specs.declared.command.EditCommand.TheVariants.{SubsystemAdd, SubsystemSet, SubsystemDel, NamespaceAdd, NamespaceSize, NamespaceGroup, NamespaceDel, NamespaceView, NamespaceShow, NamespaceHide, PortAdd, PortSet, PortDel, LinkAdd, LinkDel, HostAdd, HostDel, AllowAdd, AllowDel, AnaSet, ReferralAdd, ReferralSet, ReferralDel}

-- what the first two words of its line name; by `lines_are_read_back` no line is that of two edits
abbrev pub command_of : Edit → EditCommand
command_of (edit.SubsystemAdd n s a) = SubsystemAdd
command_of (edit.SubsystemSet n a) = SubsystemSet
command_of (edit.SubsystemDel n) = SubsystemDel
command_of (edit.NamespaceAdd n) = NamespaceAdd
command_of (edit.NamespaceSize s n b) = NamespaceSize
command_of (edit.NamespaceGroup s n g) = NamespaceGroup
command_of (edit.NamespaceDel s n) = NamespaceDel
command_of (edit.NamespaceView s n v) = NamespaceView
command_of (edit.NamespaceShow s n h) = NamespaceShow
command_of (edit.NamespaceHide s n h) = NamespaceHide
command_of (edit.PortAdd e) = PortAdd
command_of (edit.PortSet e) = PortSet
command_of (edit.PortDel i) = PortDel
command_of (edit.LinkAdd p s) = LinkAdd
command_of (edit.LinkDel p s) = LinkDel
command_of (edit.HostAdd n) = HostAdd
command_of (edit.HostDel n) = HostDel
command_of (edit.AllowAdd s h) = AllowAdd
command_of (edit.AllowDel s h) = AllowDel
command_of (edit.AnaSet p s g t) = AnaSet
command_of (edit.ReferralAdd e) = ReferralAdd
command_of (edit.ReferralSet e) = ReferralSet
command_of (edit.ReferralDel i) = ReferralDel

abbrev pub namespace_values : NewNamespace → List Value
namespace_values n =
    name n.subsystem ∷ number n.nsid ∷ number n.disk ∷ number n.blocks ∷ number n.block_size ∷ uuid n.uuid ∷ number n.group ∷ []

abbrev pub endpoint_values : Endpoint → List Value
endpoint_values e = number e.id ∷ family e.family ∷ text e.address ∷ number e.service ∷ []

-- what the words after the first two say, in order
abbrev pub values_of : Edit → List Value
values_of (edit.SubsystemAdd nqn serial who) = name nqn ∷ text serial ∷ access who ∷ []
values_of (edit.SubsystemSet nqn who) = name nqn ∷ access who ∷ []
values_of (edit.SubsystemDel nqn) = name nqn ∷ []
values_of (edit.NamespaceAdd new) = namespace_values new
values_of (edit.NamespaceSize subsystem nsid blocks) = name subsystem ∷ number nsid ∷ number blocks ∷ []
values_of (edit.NamespaceGroup subsystem nsid group) = name subsystem ∷ number nsid ∷ number group ∷ []
values_of (edit.NamespaceDel subsystem nsid) = name subsystem ∷ number nsid ∷ []
values_of (edit.NamespaceView subsystem nsid who) = name subsystem ∷ number nsid ∷ visibility who ∷ []
values_of (edit.NamespaceShow subsystem nsid host) = name subsystem ∷ number nsid ∷ name host ∷ []
values_of (edit.NamespaceHide subsystem nsid host) = name subsystem ∷ number nsid ∷ name host ∷ []
values_of (edit.PortAdd endpoint) = endpoint_values endpoint
values_of (edit.PortSet endpoint) = endpoint_values endpoint
values_of (edit.PortDel id) = number id ∷ []
values_of (edit.LinkAdd port subsystem) = number port ∷ name subsystem ∷ []
values_of (edit.LinkDel port subsystem) = number port ∷ name subsystem ∷ []
values_of (edit.HostAdd nqn) = name nqn ∷ []
values_of (edit.HostDel nqn) = name nqn ∷ []
values_of (edit.AllowAdd subsystem host) = name subsystem ∷ name host ∷ []
values_of (edit.AllowDel subsystem host) = name subsystem ∷ name host ∷ []
values_of (edit.AnaSet port subsystem group s) = number port ∷ name subsystem ∷ number group ∷ state s ∷ []
values_of (edit.ReferralAdd endpoint) = endpoint_values endpoint
values_of (edit.ReferralSet endpoint) = endpoint_values endpoint
values_of (edit.ReferralDel id) = number id ∷ []

-- the edit is of this command and says these values
pub record IsEditOf (command : EditCommand) (values : List Value) (e : Edit) : Type 0 where
  pub command_is : command_of e ≡ command
  pub values_are : values_of e ≡ values

abbrev pub words_of : Edit → List (List ℕ)
words_of e = said_words (command_of e) (values_of e)

-- its words, with one space between
abbrev pub line_of : Edit → List ℕ
line_of e = join_with_byte 32 (words_of e)

-- each of its values has a word
abbrev pub IsSayable : Edit → Type 0
IsSayable e = AllByRecursion IsSaid (values_of e)

-- whether the line is the edit's
pub record IsLineOf (line : List ℕ) (e : Edit) : Type 0 where
  pub sayable : IsSayable e
  pub is_line : line ≡ line_of e
  pub short : length line ≤ 1024
