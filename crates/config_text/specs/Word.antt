-- The words of a line: what may stand in one for each kind of value.
use Rattle.std.specs.Prelude.{ℕ, Bool, false, ◌&&◌, ◌||◌, nat_lt, List, length, codes, is_none}
use Rattle.std.specs.Char.{is_ascii_graphic}
use Rattle.std.specs.List.{list_all}
use Rattle.std.specs.Option.{option_map_or}
use Rattle.std.specs.Str.{bytes_eq}
use Rattle.config_lists.specs.declared.group_state.AnaState.{AnaState}
use Rattle.config_lists.specs.declared.group_state.AnaState.TheVariants.{Optimized, NonOptimized, Inaccessible, PersistentLoss, Change}
use Rattle.config_lists.specs.declared.namespace.Visibility.{Visibility}
use Rattle.config_lists.specs.declared.namespace.Visibility.TheVariants.{All, Named}
use Rattle.config_lists.specs.declared.port.Family.{Family}
use Rattle.config_lists.specs.declared.port.Family.TheVariants.{Ipv4, Ipv6}
use Rattle.config_lists.specs.declared.subsystem.Access.{Access}
use Rattle.config_lists.specs.declared.subsystem.Access.TheVariants.{Open, Closed}
use Rattle.nvt_fields.specs.Name.{fault_of}
use Rattle.uuid.specs.Text.{hyphenated_text, lower, parsed}

-- the one word for a family of addresses in a line: `read_family` takes it back, and no other word
abbrev pub family_word : Family → List ℕ
family_word Ipv4 = codes "ipv4"
family_word Ipv6 = codes "ipv6"

-- how the operator says that a subsystem is for each host, or for those alone that it allows
abbrev pub access_word : Access → List ℕ
access_word Open = codes "open"
access_word Closed = codes "closed"

-- how the operator says that a namespace is for each host, or for those alone that it is shown to
abbrev pub visibility_word : Visibility → List ℕ
visibility_word All = codes "all"
visibility_word Named = codes "named"

-- the standard's names of the ANA states, in lower case and hyphenated, so that each is one word of a line
abbrev pub state_word : AnaState → List ℕ
state_word Optimized = codes "optimized"
state_word NonOptimized = codes "non-optimized"
state_word Inaccessible = codes "inaccessible"
state_word PersistentLoss = codes "persistent-loss"
state_word Change = codes "change"

abbrev pub is_family : List ℕ → Bool
is_family word = bytes_eq word (codes "ipv4") || bytes_eq word (codes "ipv6")

abbrev pub is_access : List ℕ → Bool
is_access word = bytes_eq word (codes "open") || bytes_eq word (codes "closed")

abbrev pub is_visibility : List ℕ → Bool
is_visibility word = bytes_eq word (codes "all") || bytes_eq word (codes "named")

abbrev pub is_state : List ℕ → Bool
is_state word =
    bytes_eq word (codes "optimized") || (bytes_eq word (codes "non-optimized")
    || (bytes_eq word (codes "inaccessible") || (bytes_eq word (codes "persistent-loss")
    || bytes_eq word (codes "change"))))

-- 5 to 223 bytes that begin with `nqn.`, each from 21h to 7Eh
abbrev pub is_name_word : List ℕ → Bool
is_name_word word = is_none (fault_of word)

-- a byte or more, each from 21h to 7Eh: no space is among them
abbrev pub is_text_word : List ℕ → Bool
is_text_word word = nat_lt 0 (length word) && list_all is_ascii_graphic word

-- the one text of a UUID: 36 characters, hyphenated, in lower case
abbrev pub uuid_word : List ℕ → List ℕ
uuid_word uuid = hyphenated_text lower uuid

-- whether the word is that text of the UUID that it says
abbrev pub is_uuid_word : List ℕ → Bool
is_uuid_word word = option_map_or (λ uuid. bytes_eq (uuid_word uuid) word) (parsed word) false
