-- What the commands `read` and `write` do.
use Rattle.std.specs.Prelude.{◌≡◌, ◌⊎◌, ℕ, ◌*◌, List, replicate, Option, Result, Err}
use Rattle.host_link.specs.declared.blocks.Blocks.{Blocks}
use Rattle.host_link.specs.declared.fault.SessionFault.{SessionFault}
use Rattle.host_link.specs.declared.fault.SessionFault.TheVariants.{Memory}
use Rattle.host_driver.specs.Command.{Command}
use Rattle.host_link.specs.Commands.{read, write}
use Rattle.host_link.specs.Conversation.{Conversation}
use Rattle.host_link.specs.Link.{LinkState}
use Rattle.host_link.specs.Session.{Connects}
use Rattle.host_program.specs.declared.peers.Peers.{Peers}
use Rattle.host_program.specs.declared.writing.Fill.{Fill}
use Rattle.host_program.specs.Asking.{Asks, AsksBlockLen, OpensAdmin, payload_of, result_of}
use Rattle.host_program.specs.Peers.{io_queue}
use Rattle.host_program.specs.Printed.{Behind, Prints, blocks_text, ok_line}

abbrev pub Printed : Type 0
Printed = Option (List ℕ)

-- ---- read

-- blocks are read over an I/O queue, and each printed in hex, one a line
pub record TellsBlocks (blocks : Blocks) (len : ℕ) (queue : Conversation) (result : Result (Unit {0}) SessionFault) (old new : Printed) : Type 0 where
  pub bytes : Result (List ℕ) SessionFault
  pub stands : Conversation
  pub asks : Asks payload_of (read blocks len) bytes queue stands
  pub prints : Behind bytes result old new (λ b. Prints (blocks_text len b) result old new)

-- .. which is opened over this link, within the turns that the admin queue left
pub record ReadsOver (peers : Peers) (blocks : Blocks) (len : ℕ) (link : LinkState) (admin : Conversation) (result : Result (Unit {0}) SessionFault)
    (old new : Printed) : Type 0 where
  pub queue : Result Conversation SessionFault
  pub connects : Connects (io_queue peers admin.cntlid 8192) link admin.turns queue
  pub tells : Behind queue result old new (λ q. TellsBlocks blocks len q result old new)

-- .. once the admin queue said how long they are
pub record ReadsBeside (peers : Peers) (blocks : Blocks) (link : LinkState) (admin : Conversation) (result : Result (Unit {0}) SessionFault)
    (old new : Printed) : Type 0 where
  pub len : Result ℕ SessionFault
  pub stands : Conversation
  pub asks : AsksBlockLen blocks.nsid len admin stands
  pub reads : Behind len result old new (λ n. ReadsOver peers blocks n link stands result old new)

-- blocks are read over two links to one controller, and printed
pub record Reads (peers : Peers) (blocks : Blocks) (turns : ℕ) (admin io : LinkState) (result : Result (Unit {0}) SessionFault) (old new : Printed) : Type 0 where
  pub opened : Result Conversation SessionFault
  pub opens : OpensAdmin peers admin turns opened
  pub reads : Behind opened result old new (λ a. ReadsBeside peers blocks io a result old new)

-- ---- write

-- the Write of blocks, each byte of which is this one
abbrev pub filling : Fill → ℕ → Command
filling fill len = write fill.blocks (replicate (fill.blocks.count * len) fill.byte)

-- it is executed over an I/O queue, and `ok` printed
pub record WritesBlocks (fill : Fill) (len : ℕ) (queue : Conversation) (result : Result (Unit {0}) SessionFault) (old new : Printed) : Type 0 where
  pub done : Result ℕ SessionFault
  pub stands : Conversation
  pub asks : Asks result_of (filling fill len) done queue stands
  pub prints : Behind done result old new (λ d. Prints ok_line result old new)

-- .. or there is no memory for its data
pub record IsStarved (result : Result (Unit {0}) SessionFault) (old new : Printed) : Type 0 where
  pub memory : result ≡ Err Memory
  pub nothing : new ≡ old

-- .. over an I/O queue that is opened over this link, within the turns that the admin queue left
pub record WritesOver (peers : Peers) (fill : Fill) (len : ℕ) (link : LinkState) (admin : Conversation) (result : Result (Unit {0}) SessionFault)
    (old new : Printed) : Type 0 where
  pub queue : Result Conversation SessionFault
  pub connects : Connects (io_queue peers admin.cntlid 8192) link admin.turns queue
  pub writes : Behind queue result old new (λ q. IsStarved result old new ⊎ WritesBlocks fill len q result old new)

-- .. once the admin queue said how long they are
pub record WritesBeside (peers : Peers) (fill : Fill) (link : LinkState) (admin : Conversation) (result : Result (Unit {0}) SessionFault)
    (old new : Printed) : Type 0 where
  pub len : Result ℕ SessionFault
  pub stands : Conversation
  pub asks : AsksBlockLen fill.blocks.nsid len admin stands
  pub writes : Behind len result old new (λ n. WritesOver peers fill n link stands result old new)

-- blocks are written over two links to one controller
pub record Writes (peers : Peers) (fill : Fill) (turns : ℕ) (admin io : LinkState) (result : Result (Unit {0}) SessionFault) (old new : Printed) : Type 0 where
  pub opened : Result Conversation SessionFault
  pub opens : OpensAdmin peers admin turns opened
  pub writes : Behind opened result old new (λ a. WritesBeside peers fill io a result old new)
