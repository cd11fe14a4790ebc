-- What the command `discover` does.
use Rattle.std.specs.Prelude.{◌≡◌, ◌⊎◌, ℕ, zero, suc, List, [], ◌++◌, Option, Result, Ok, Err, codes, flat_map}
use Rattle.host_pages.specs.declared.fault.DiscoverFault.{DiscoverFault}
use Rattle.host_pages.specs.declared.get_log.GetLog.{GetLog}
use Rattle.host_pages.specs.declared.progress.Progress.{Progress}
use Rattle.host_pages.specs.declared.progress.Progress.TheVariants.{Asking, Done}
use Rattle.host_pages.specs.Discover.{Answers, DiscoverState, asked, asks, settled}
use Rattle.host_pages.specs.DiscoveryPage.{genctr_of, record_count, records_of}
use Rattle.host_driver.specs.Command.{Command}
use Rattle.host_link.specs.declared.fault.SessionFault.{SessionFault}
use Rattle.host_link.specs.declared.fault.SessionFault.TheVariants.{Memory, Status}
use Rattle.host_link.specs.Commands.{get_log_page}
use Rattle.host_link.specs.Conversation.{Conversation}
use Rattle.host_link.specs.Link.{LinkState}
use Rattle.host_program.specs.declared.fault.CommandFault.{CommandFault}
use Rattle.host_program.specs.declared.fault.CommandFault.TheVariants.{Session}
use Rattle.host_program.specs.declared.peers.Peers.{Peers}
use Rattle.host_program.specs.Asking.{Asks, OpensAdmin, payload_of}
use Rattle.host_program.specs.Fault.{of_reading, of_session}
use Rattle.host_program.specs.Lines.{genctr_line, record_line}
use Rattle.host_program.specs.Printed.{Behind, Prints}

-- ---- the page

abbrev pub read_of : GetLog → Command
read_of r = get_log_page 112 r.offset r.len

-- A fault of a read is told where it is a status; any other ends the command.
abbrev pub RefusedBy : SessionFault → DiscoverState → Result Progress CommandFault → DiscoverState → Type 0
RefusedBy (Status s) d result e = (told : Result Progress DiscoverFault) × Answers (Err s) d told e × (result ≡ of_reading told)
RefusedBy f d result e = (result ≡ Err (Session f)) × (e ≡ d)

-- what comes of a read is told to what reads the page
abbrev pub TakenBy : Result (List ℕ) SessionFault → DiscoverState → Result Progress CommandFault → DiscoverState → Type 0
TakenBy (Ok bytes) d result e = (told : Result Progress DiscoverFault) × Answers (Ok bytes) d told e × (result ≡ of_reading told)
TakenBy (Err f) d result e = RefusedBy f d result e

-- what is asked for next is read
pub record ReadsPart (d : DiscoverState) (result : Result Progress CommandFault) (e : DiscoverState) (old new : Conversation) : Type 0 where
  pub answer : Result (List ℕ) SessionFault
  pub asks : Asks payload_of (read_of (asked d)) answer old new
  pub taken : TakenBy answer d result e

-- so many parts were read, behind each of which there was more to read
abbrev pub AreRead : ℕ → DiscoverState → DiscoverState → Conversation → Conversation → Type 0
AreRead zero d e old new = (e ≡ d) × (new ≡ old)
AreRead (suc n) d e old new = (f : DiscoverState) × (mid : Conversation) × AreRead n d f old mid × ReadsPart f (Ok Asking) e mid new

-- behind the last one there is none, or it is not to be had
abbrev pub IsLast : Result Progress CommandFault → Result (Unit {0}) CommandFault → Type 0
IsLast (Ok Done) result = result ≡ Ok tt
IsLast (Ok Asking) result = ⊥
IsLast (Err f) result = result ≡ Err f

pub record ReadsPage (d : DiscoverState) (result : Result (Unit {0}) CommandFault) (e : DiscoverState) (old new : Conversation) : Type 0 where
  pub parts : ℕ
  pub before : DiscoverState
  pub stands : Conversation
  pub are_read : AreRead parts d before old stands
  pub told : Result Progress CommandFault
  pub last : ReadsPart before told e stands new
  pub ends : IsLast told result

-- ---- the command

-- the generation and the number of records, and a line for each record
abbrev pub page_text : List ℕ → List ℕ
page_text page = genctr_line (genctr_of page) (record_count page) ++ flat_map record_line (records_of page)

-- a text is printed, with a fault of writing as that of the command
pub record PrintsAll (text : List ℕ) (result : Result (Unit {0}) CommandFault) (old new : Option (List ℕ)) : Type 0 where
  pub printed : Result (Unit {0}) SessionFault
  pub prints : Prints text printed old new
  pub is : result ≡ of_session printed

-- the page that is there is printed
pub record PrintsHad (e : DiscoverState) (result : Result (Unit {0}) CommandFault) (old new : Option (List ℕ)) : Type 0 where
  pub page : List ℕ
  pub had : e ≡ settled page
  pub prints : PrintsAll (page_text page) result old new

pub record TellsRecords (queue : Conversation) (result : Result (Unit {0}) CommandFault) (old new : Option (List ℕ)) : Type 0 where
  pub read : Result (Unit {0}) CommandFault
  pub page : DiscoverState
  pub stands : Conversation
  pub reads : ReadsPage (asks 0 []) read page queue stands
  pub prints : Behind read result old new (λ done. PrintsHad page result old new)

pub record ShowsRecords (peers : Peers) (turns : ℕ) (link : LinkState) (result : Result (Unit {0}) CommandFault) (old new : Option (List ℕ)) : Type 0 where
  pub opened : Result Conversation SessionFault
  pub opens : OpensAdmin peers link turns opened
  pub tells : Behind (of_session opened) result old new (λ q. TellsRecords q result old new)

-- the name of the discovery subsystem (Base 2.0, section 4.5)
abbrev pub discovery_name : List ℕ
discovery_name = codes "nqn.2014-08.org.nvmexpress.discovery"

-- that subsystem is asked, as this host
pub record DiscoversAs (host : List ℕ) (turns : ℕ) (link : LinkState) (result : Result (Unit {0}) CommandFault) (old new : Option (List ℕ)) : Type 0 where
  pub peers : Peers
  pub subsystem : peers.subsystem ≡ discovery_name
  pub named : peers.host ≡ host
  pub shows : ShowsRecords peers turns link result old new

-- .. or there is no memory for their names
abbrev pub Discovers : List ℕ → ℕ → LinkState → Result (Unit {0}) CommandFault → Option (List ℕ) → Option (List ℕ) → Type 0
Discovers host turns link result old new = ((result ≡ Err (Session Memory)) × (new ≡ old)) ⊎ DiscoversAs host turns link result old new
