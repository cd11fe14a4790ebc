-- Names that the standards give to numbers.
use Rattle.std.specs.Prelude.{ℕ, ◌==◌, List, codes, Option, Some, None, if◌then◌else◌}
use Rattle.nvt_fields.specs.declared.status.Status.{Status}

-- the status codes of each type (Base 2.0, section 3.3.3.2.1)
unfoldable pub generic_name : ℕ → Option (List ℕ)
generic_name sc =
    if sc == 0x00 then Some (codes "success") else
    if sc == 0x01 then Some (codes "invalid command opcode") else
    if sc == 0x02 then Some (codes "invalid field in command") else
    if sc == 0x03 then Some (codes "command ID conflict") else
    if sc == 0x06 then Some (codes "internal error") else
    if sc == 0x0B then Some (codes "invalid namespace or format") else
    if sc == 0x0C then Some (codes "command sequence error") else
    if sc == 0x0F then Some (codes "data SGL length invalid") else
    if sc == 0x11 then Some (codes "SGL descriptor type invalid") else
    if sc == 0x16 then Some (codes "SGL offset invalid") else
    if sc == 0x80 then Some (codes "LBA out of range") else
    None

-- .. of one command, those of Connect among them (Base 2.0, section 6.3)
unfoldable pub command_specific_name : ℕ → Option (List ℕ)
command_specific_name sc =
    if sc == 0x05 then Some (codes "asynchronous event request limit exceeded") else
    if sc == 0x09 then Some (codes "invalid log page") else
    if sc == 0x0D then Some (codes "feature identifier not saveable") else
    if sc == 0x80 then Some (codes "connect incompatible format") else
    if sc == 0x81 then Some (codes "connect controller busy") else
    if sc == 0x82 then Some (codes "connect invalid parameters") else
    if sc == 0x84 then Some (codes "connect invalid host") else
    None

-- .. of media and data integrity
unfoldable pub media_name : ℕ → Option (List ℕ)
media_name sc =
    if sc == 0x80 then Some (codes "write fault") else
    if sc == 0x81 then Some (codes "unrecovered read error") else
    if sc == 0x85 then Some (codes "compare failure") else
    None

-- .. of the path
unfoldable pub path_name : ℕ → Option (List ℕ)
path_name sc =
    if sc == 0x01 then Some (codes "asymmetric access persistent loss") else
    if sc == 0x02 then Some (codes "asymmetric access inaccessible") else
    if sc == 0x03 then Some (codes "asymmetric access transition") else
    None

-- by the type of the status
abbrev pub status_name : Status → Option (List ℕ)
status_name status =
    if status.sct == 0 then generic_name status.sc else
    if status.sct == 1 then command_specific_name status.sc else
    if status.sct == 2 then media_name status.sc else
    if status.sct == 3 then path_name status.sc else
    None

-- the fatal error statuses (TCP Transport 1.0, section 3.6)
unfoldable pub fatal_error_name : ℕ → Option (List ℕ)
fatal_error_name fes =
    if fes == 1 then Some (codes "invalid header field") else
    if fes == 2 then Some (codes "sequence error") else
    if fes == 3 then Some (codes "header digest error") else
    if fes == 4 then Some (codes "data out of range") else
    if fes == 5 then Some (codes "limit exceeded") else
    if fes == 6 then Some (codes "unsupported parameter") else
    None

-- the properties, by their offsets (Base 2.0, section 3.1.3)
unfoldable pub property_name : ℕ → Option (List ℕ)
property_name offset =
    if offset == 0x00 then Some (codes "CAP") else
    if offset == 0x08 then Some (codes "VS") else
    if offset == 0x14 then Some (codes "CC") else
    if offset == 0x1C then Some (codes "CSTS") else
    if offset == 0x20 then Some (codes "NSSR") else
    if offset == 0x68 then Some (codes "CRTO") else
    None

-- what Identify returns, by CNS (Base 2.0, section 5.17)
unfoldable pub identify_name : ℕ → Option (List ℕ)
identify_name cns =
    if cns == 0x00 then Some (codes "Identify Namespace") else
    if cns == 0x01 then Some (codes "Identify Controller") else
    if cns == 0x02 then Some (codes "Active Namespace ID list") else
    if cns == 0x03 then Some (codes "Namespace Identification Descriptor list") else
    None

-- the log pages (Base 2.0, section 5.16)
unfoldable pub log_page_name : ℕ → Option (List ℕ)
log_page_name lid =
    if lid == 0x04 then Some (codes "changed namespace list") else
    if lid == 0x0C then Some (codes "ANA log") else
    if lid == 0x70 then Some (codes "discovery log") else
    None

-- the notices, by their Asynchronous Event Information (Base 2.0, section 5.2.1)
unfoldable pub notice_name : ℕ → Option (List ℕ)
notice_name information =
    if information == 0x00 then Some (codes "namespace attribute changed") else
    if information == 0x03 then Some (codes "asymmetric namespace access change") else
    if information == 0xF0 then Some (codes "discovery log page change") else
    None

-- the states of Asymmetric Namespace Access (Base 2.0, section 8.1.1)
unfoldable pub ana_state_name : ℕ → Option (List ℕ)
ana_state_name state =
    if state == 0x1 then Some (codes "optimized") else
    if state == 0x2 then Some (codes "non-optimized") else
    if state == 0x3 then Some (codes "inaccessible") else
    if state == 0x4 then Some (codes "persistent loss") else
    if state == 0xF then Some (codes "change") else
    None
