-- What the commands `ana` and `changed` do.
use Rattle.std.specs.Prelude.{◌≡◌, ℕ, ◌==◌, ◌++◌, Bool, true, false, List, Option, Some, None, Result, Err, flat_map}
use Rattle.host_pages.specs.AnaLog as ana
use Rattle.host_link.specs.declared.fault.SessionFault.{SessionFault}
use Rattle.host_link.specs.declared.fault.SessionFault.TheVariants.{BadPage}
use Rattle.host_link.specs.Commands.{event_request, get_log_page, set_features}
use Rattle.host_link.specs.Conversation.{Conversation}
use Rattle.host_link.specs.Link.{LinkState}
use Rattle.host_program.specs.declared.peers.Peers.{Peers}
use Rattle.host_program.specs.Asking.{Asks, OpensAdmin, payload_of, result_of}
use Rattle.host_program.specs.Lines.{change_line, changed_line, group_line}
use Rattle.host_program.specs.Printed.{Behind, Prints}

-- a page that is not one is a fault of the command, which prints nothing
pub record IsBadPage (result : Result (Unit {0}) SessionFault) (old new : Option (List ℕ)) : Type 0 where
  pub bad : result ≡ Err BadPage
  pub nothing : new ≡ old

-- the text of a page is printed, unless this is wrong with it
abbrev pub PrintsPage : {F : Type 0} → Option F → List ℕ → Result (Unit {0}) SessionFault → Option (List ℕ) → Option (List ℕ) → Type 0
PrintsPage None text result old new = Prints text result old new
PrintsPage (Some why) text result old new = IsBadPage result old new

-- ---- ana

-- the change count and the number of groups, and a line for each group
abbrev pub log_text : List ℕ → List ℕ
log_text page = change_line (ana.change_of page) (ana.group_count page) ++ flat_map group_line (ana.groups_of page)

-- the first 4,096 bytes of the log page are read, and its groups printed
pub record TellsGroups (queue : Conversation) (result : Result (Unit {0}) SessionFault) (old new : Option (List ℕ)) : Type 0 where
  pub page : Result (List ℕ) SessionFault
  pub stands : Conversation
  pub asks : Asks payload_of (get_log_page 12 0 4096) page queue stands
  pub prints : Behind page result old new (λ p. PrintsPage (ana.fault_of p) (log_text p) result old new)

pub record ShowsAna (peers : Peers) (turns : ℕ) (link : LinkState) (result : Result (Unit {0}) SessionFault) (old new : Option (List ℕ)) : Type 0 where
  pub opened : Result Conversation SessionFault
  pub opens : OpensAdmin peers link turns opened
  pub tells : Behind opened result old new (λ q. TellsGroups q result old new)

-- ---- changed

-- the list is read, and its namespaces printed, or that it overflowed
pub record TellsList (queue : Conversation) (result : Result (Unit {0}) SessionFault) (old new : Option (List ℕ)) : Type 0 where
  pub page : Result (List ℕ) SessionFault
  pub stands : Conversation
  pub asks : Asks payload_of (get_log_page 4 0 4096) page queue stands
  pub prints : Behind page result old new (λ p. Prints (changed_line p) result old new)

-- the event is a notice that a namespace attribute changed, of log page 04h; no other bit of the result is set
abbrev pub is_change : ℕ → Bool
is_change event = event == 262146

abbrev pub TellsWhere : Bool → Conversation → Result (Unit {0}) SessionFault → Option (List ℕ) → Option (List ℕ) → Type 0
TellsWhere true queue result old new = TellsList queue result old new
TellsWhere false queue result old new = IsBadPage result old new

-- an event is waited for
pub record AwaitsChange (queue : Conversation) (result : Result (Unit {0}) SessionFault) (old new : Option (List ℕ)) : Type 0 where
  pub event : Result ℕ SessionFault
  pub stands : Conversation
  pub asks : Asks result_of event_request event queue stands
  pub tells : Behind event result old new (λ e. TellsWhere (is_change e) stands result old new)

-- .. once namespace attribute notices are asked for
pub record TellsChange (queue : Conversation) (result : Result (Unit {0}) SessionFault) (old new : Option (List ℕ)) : Type 0 where
  pub set : Result ℕ SessionFault
  pub stands : Conversation
  pub asks : Asks result_of (set_features 11 256) set queue stands
  pub awaits : Behind set result old new (λ s. AwaitsChange stands result old new)

pub record ShowsChanged (peers : Peers) (turns : ℕ) (link : LinkState) (result : Result (Unit {0}) SessionFault) (old new : Option (List ℕ)) : Type 0 where
  pub opened : Result Conversation SessionFault
  pub opens : OpensAdmin peers link turns opened
  pub tells : Behind opened result old new (λ q. TellsChange q result old new)
