-- The commands of a host, as its queue takes them.
use Rattle.std.specs.Prelude.{ℕ, ◌+◌, ◌-◌, ◌*◌, ◌/◌, ◌%◌, ◌^◌, List, [], ◌∷◌}
use Rattle.host_driver.specs.Command.{Command}
use Rattle.host_link.specs.declared.blocks.Blocks.{Blocks}
use Rattle.host_link.specs.declared.commands.ControllerProperty.{ControllerProperty}
use Rattle.host_link.specs.declared.commands.ControllerProperty.TheVariants.{ControllerConfiguration, ControllerStatus}

-- a command without data to send
abbrev pub with_dwords : ℕ → ℕ → List ℕ → ℕ → Command
with_dwords opcode nsid cdw into = record { opcode = opcode; nsid = nsid; cdw = cdw; out = []; into = into }

-- these and zeros are command dwords 10 to 15
abbrev pub four : ℕ → ℕ → ℕ → ℕ → List ℕ
four d10 d11 d12 d13 = d10 ∷ d11 ∷ d12 ∷ d13 ∷ 0 ∷ 0 ∷ []

-- ---- Fabrics commands: opcode 7Fh, with their type for an identifier of a namespace

-- the standard has CC at 14h and CSTS at 1Ch
abbrev pub offset_of : ControllerProperty → ℕ
offset_of ControllerConfiguration = 20
offset_of ControllerStatus = 28

-- ATTRIB 0 names a property of 4 bytes: its offset is CDW11, and its value CDW12
abbrev pub property_set : ControllerProperty → ℕ → Command
property_set property value = with_dwords 127 0 (four 0 (offset_of property) value 0) 0

-- ATTRIB 0 names a property of 4 bytes: its value comes as the completion's result, so that no data are wanted
abbrev pub property_get : ControllerProperty → Command
property_get property = with_dwords 127 4 (four 0 (offset_of property) 0 0) 0

-- ---- admin commands

-- each data structure of Identify has 4,096 bytes, whatever CNS asks for
abbrev pub identify : ℕ → ℕ → Command
identify cns nsid = with_dwords 6 nsid (four cns 0 0 0) 4096

-- the number of dwords is 0's based, and RAE is 0
abbrev pub get_log_page : ℕ → ℕ → ℕ → Command
get_log_page lid offset len =
    with_dwords 2 0 (four (lid + (len / 4 - 1) * 65536) 0 (offset % 2 ^ 32) (offset / 2 ^ 32)) len

-- SV, bit 31 of CDW10, is 0: a target refuses to save a feature
abbrev pub set_features : ℕ → ℕ → Command
set_features fid value = with_dwords 9 0 (four fid value 0 0) 0

-- it asks for no kind of event: its completion tells whichever comes next
abbrev pub event_request : Command
event_request = with_dwords 12 0 (four 0 0 0 0) 0

-- ---- I/O commands

-- the first block, and the number of blocks, 0's based
abbrev pub dwords_of : Blocks → List ℕ
dwords_of b = four (b.lba % 2 ^ 32) (b.lba / 2 ^ 32) (b.count - 1) 0

-- by `answers_are_whole` a Read that succeeds brings exactly as many bytes as it wants
abbrev pub read : Blocks → ℕ → Command
read b block_len = with_dwords 2 b.nsid (dwords_of b) (b.count * block_len)

-- the data are as long as the blocks: a target refuses any other length
abbrev pub write : Blocks → List ℕ → Command
write b bytes = record { opcode = 1; nsid = b.nsid; cdw = dwords_of b; out = bytes; into = 0 }
