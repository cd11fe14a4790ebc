-- What the command `list` does.
use Rattle.std.specs.Prelude.{◌≡◌, ◌⊎◌, ◌==◌, ℕ, List, [], ◌∷◌, length, Option, Some, None, Result, Ok, Err, flat_map, if◌then◌else◌}
use Rattle.std.specs.Io.KnownBytes.{Appends}
use Rattle.std.specs.List.{last_or}
use Rattle.host_pages.specs.NsList.{nsids_listed}
use Rattle.host_link.specs.declared.fault.SessionFault.{SessionFault}
use Rattle.host_link.specs.Commands.{identify}
use Rattle.host_link.specs.Conversation.{Conversation}
use Rattle.host_link.specs.Link.{LinkState}
use Rattle.host_program.specs.declared.peers.Peers.{Peers}
use Rattle.host_program.specs.Asking.{Asks, OpensAdmin, payload_of}
use Rattle.host_program.specs.Lines.{nsid_line}
use Rattle.host_program.specs.Printed.{AppendsFront, Behind, IsOfWriting}

-- the namespaces of a list, one a line
abbrev pub list_text : List ℕ → List ℕ
list_text nsids = flat_map nsid_line nsids

-- others may follow a list of 1,024 identifiers, above the last of them
abbrev pub follows : List ℕ → Option ℕ
follows nsids = if length nsids == 1024 then last_or None nsids else None

-- ---- one list

-- its namespaces are printed, and the answer is above which identifier others may follow; after a fault a beginning is
abbrev pub PrintsList : List ℕ → Result (Option ℕ) SessionFault → Option (List ℕ) → Option (List ℕ) → Type 0
PrintsList nsids (Ok above) old new = (above ≡ follows nsids) × Appends old new (list_text nsids)
PrintsList nsids (Err fault) old new = IsOfWriting fault × AppendsFront old new (list_text nsids)

abbrev pub ListBehind : Result (List ℕ) SessionFault → Result (Option ℕ) SessionFault → Option (List ℕ) → Option (List ℕ) → Type 0
ListBehind (Ok page) result old new = PrintsList (nsids_listed page) result old new
ListBehind (Err fault) result old new = (result ≡ Err fault) × (new ≡ old)

-- the list above an identifier is read, and printed
pub record TellsAbove (above : ℕ) (result : Result (Option ℕ) SessionFault) (queue after : Conversation) (old new : Option (List ℕ)) : Type 0 where
  pub page : Result (List ℕ) SessionFault
  pub asks : Asks payload_of (identify 2 above) page queue after
  pub prints : ListBehind page result old new

-- ---- all lists

-- such lists, one after the other, the newest first, with what stands above the last one
abbrev pub above_in : List ℕ → ℕ
above_in [] = 0
above_in (above ∷ rest) = above

abbrev pub AreTold : List ℕ → Conversation → Conversation → Option (List ℕ) → Option (List ℕ) → Type 0
AreTold [] queue after old new = (after ≡ queue) × (new ≡ old)
AreTold (above ∷ rest) queue after old new = (mid : Conversation) × (printed : Option (List ℕ)) × AreTold rest queue mid old printed
    × TellsAbove (above_in rest) (Ok (Some above)) mid after printed new

-- one behind which nothing follows, or that ends in a fault
abbrev pub ending : Result (Unit {0}) SessionFault → Result (Option ℕ) SessionFault
ending (Ok done) = Ok None
ending (Err fault) = Err fault

-- lists are read and printed until nothing follows, or so many were that these are all identifiers
pub record TellsNamespaces (queue : Conversation) (result : Result (Unit {0}) SessionFault) (old new : Option (List ℕ)) : Type 0 where
  pub above : List ℕ
  pub stands : Conversation
  pub printed : Option (List ℕ)
  pub before : AreTold above queue stands old printed
  pub after : Conversation
  pub ends : ((length above ≡ 4194304) × (result ≡ Ok tt) × (new ≡ printed)) ⊎ TellsAbove (above_in above) (ending result) stands after printed new

pub record Lists (peers : Peers) (turns : ℕ) (link : LinkState) (result : Result (Unit {0}) SessionFault) (old new : Option (List ℕ)) : Type 0 where
  pub opened : Result Conversation SessionFault
  pub opens : OpensAdmin peers link turns opened
  pub tells : Behind opened result old new (λ q. TellsNamespaces q result old new)
