-- What the fields of a command say that its name does not, of the entry that a capsule brings.
use Rattle.std.specs.Prelude.{ℕ, ◌+◌, ◌*◌, ◌==◌, nat_lt, List, [], ◌++◌, codes, length, slice_range, if◌then◌else◌}
use Rattle.std.specs.Fmt.{decimal}
use Rattle.nvt_fields.specs.Field.{field_at}
use Rattle.pdu_codec.specs.Sqe.{block_command_of, connect_of, entry_in, get_log_page_of, nsid_of}
use Rattle.pdu_codec.specs.declared.command.BlockCommand.{BlockCommand}
use Rattle.pdu_codec.specs.declared.command.Connect.{Connect}
use Rattle.pdu_codec.specs.declared.command.GetLogPage.{GetLogPage}
use Rattle.pdu_words.specs.declared.command.Command.{Command}
use Rattle.pdu_words.specs.declared.command.Command.TheVariants as command
use Rattle.pdu_words.specs.Words.{event_configuration, hex_words}

-- the size of the submission queue, 0's based, and the Keep Alive Timeout, in ms
abbrev pub queue_words : Connect → List ℕ
queue_words connect = codes ": SQSIZE " ++ decimal connect.sqsize ++ codes ", KATO " ++ decimal connect.kato

abbrev pub value_words : ℕ → List ℕ
value_words value = codes ": value " ++ hex_words value

-- from which byte on how many are read, and whether the event is retained
abbrev pub retain_words : GetLogPage → List ℕ
retain_words read = if read.rae then codes ", RAE" else []

abbrev pub read_words : GetLogPage → List ℕ
read_words read =
    codes ": offset " ++ decimal read.offset ++ codes ", length " ++ decimal (4 * (read.numd + 1)) ++ retain_words read

abbrev pub namespace_words : ℕ → List ℕ
namespace_words nsid = codes ": NSID " ++ decimal nsid

-- the command to abort: SQID is bits 15:0 of CDW10, and CID 31:16 (Base 2.0, section 5.1)
abbrev pub aborted_words : ℕ → ℕ → List ℕ
aborted_words sqid cid = codes ": SQID " ++ decimal sqid ++ codes ", CID " ++ decimal cid

-- the kinds of events have names already
abbrev pub set_words : ℕ → ℕ → List ℕ
set_words fid value = if fid == event_configuration then [] else value_words value

-- the first block, how many there are, and whether they are to be on the medium
abbrev pub access_words : BlockCommand → List ℕ
access_words asked = if asked.fua then codes ", FUA" else []

abbrev pub blocks_words : ℕ → BlockCommand → List ℕ
blocks_words nsid asked =
    namespace_words nsid ++ codes ", LBA " ++ decimal asked.first ++ codes ", blocks " ++ decimal asked.blocks ++ access_words asked

abbrev pub field_words : Command → List ℕ → List ℕ
field_words (command.Connect qid) entry = queue_words (connect_of entry)
field_words (command.PropertySet offset value) entry = value_words value
field_words (command.GetLogPage lid offset) entry = read_words (get_log_page_of entry)
field_words (command.Identify cns) entry = namespace_words (nsid_of entry)
field_words command.Abort entry = aborted_words (field_at 2 40 entry) (field_at 2 42 entry)
field_words (command.SetFeatures fid value) entry = set_words fid value
field_words command.Flush entry = namespace_words (nsid_of entry)
field_words command.Write entry = blocks_words (nsid_of entry) (block_command_of entry)
field_words command.Read entry = blocks_words (nsid_of entry) (block_command_of entry)
field_words command.Compare entry = blocks_words (nsid_of entry) (block_command_of entry)
field_words command.WriteZeroes entry = blocks_words (nsid_of entry) (block_command_of entry)
field_words _ entry = []

-- of a capsule with its whole header
abbrev pub capsule_words : Command → List ℕ → List ℕ
capsule_words c bytes = if nat_lt (length bytes) 72 then [] else field_words c (entry_in (slice_range bytes 0 72))
