-- Statuses and the word of a completion that has one (Base 2.0, section 3.3.3.2.1).
use Rattle.std.specs.Prelude.{ℕ, ◌+◌, ◌*◌, ◌%◌, ◌^◌, true, false, if◌then◌else◌}
use Rattle.nvt_fields.specs.declared.status.Status.{Status}

-- the code in bits 8:1, its type in bits 11:9, do-not-retry in bit 15
abbrev pub word_of : Status → ℕ
word_of s = s.sc * 2 ^ 1 + s.sct % 2 ^ 3 * 2 ^ 9 + (if s.dnr then 2 ^ 15 else 0)

abbrev pub success : Status
success = record { sct = 0; sc = 0x00; dnr = false }

-- a generic error, and one of the command's own
abbrev pub generic : ℕ → Status
generic sc = record { sct = 0; sc = sc; dnr = true }

abbrev pub command_specific : ℕ → Status
command_specific sc = record { sct = 1; sc = sc; dnr = true }

abbrev pub invalid_opcode : Status
invalid_opcode = generic 0x01

abbrev pub invalid_field : Status
invalid_field = generic 0x02

abbrev pub command_id_conflict : Status
command_id_conflict = generic 0x03

abbrev pub invalid_namespace_or_format : Status
invalid_namespace_or_format = generic 0x0B

abbrev pub command_sequence_error : Status
command_sequence_error = generic 0x0C

abbrev pub data_sgl_length_invalid : Status
data_sgl_length_invalid = generic 0x0F

abbrev pub sgl_type_invalid : Status
sgl_type_invalid = generic 0x11

abbrev pub sgl_offset_invalid : Status
sgl_offset_invalid = generic 0x16

abbrev pub lba_out_of_range : Status
lba_out_of_range = generic 0x80

abbrev pub asynchronous_event_request_limit_exceeded : Status
asynchronous_event_request_limit_exceeded = command_specific 0x05

abbrev pub invalid_log_page : Status
invalid_log_page = command_specific 0x09

abbrev pub feature_not_saveable : Status
feature_not_saveable = command_specific 0x0D

abbrev pub incompatible_format : Status
incompatible_format = command_specific 0x80

abbrev pub connect_controller_busy : Status
connect_controller_busy = command_specific 0x81

abbrev pub connect_invalid_parameters : Status
connect_invalid_parameters = command_specific 0x82

abbrev pub connect_invalid_host : Status
connect_invalid_host = command_specific 0x84

-- an error of the medium or the data
abbrev pub media : ℕ → Status
media sc = record { sct = 2; sc = sc; dnr = true }

abbrev pub write_fault : Status
write_fault = media 0x80

abbrev pub unrecovered_read_error : Status
unrecovered_read_error = media 0x81

abbrev pub compare_failure : Status
compare_failure = media 0x85

-- an error of the path, which a host may retry
abbrev pub path : ℕ → Status
path sc = record { sct = 3; sc = sc; dnr = false }

abbrev pub ana_persistent_loss : Status
ana_persistent_loss = path 0x01

abbrev pub ana_inaccessible : Status
ana_inaccessible = path 0x02

abbrev pub ana_transition : Status
ana_transition = path 0x03
