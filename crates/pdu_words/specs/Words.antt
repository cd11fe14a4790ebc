-- The words of a PDU: one line, without its end.
use Rattle.std.specs.Prelude.{ℕ, ◌==◌, ◌&&◌, ◌||◌, ◌%◌, ◌/◌, ◌^◌, Bool, true, nat_lt, List, [], ◌++◌, codes, Option, Some, None, if◌then◌else◌}
use Rattle.std.specs.Fmt.{decimal, digits}
use Rattle.nvt_fields.specs.declared.status.Status.{Status}
use Rattle.pdu_codec.specs.declared.data_head.DataHead.{DataHead}
use Rattle.pdu_codec.specs.declared.initialize.IcReq.{IcReq}
use Rattle.pdu_codec.specs.declared.initialize.IcResp.{IcResp}
use Rattle.pdu_codec.specs.declared.r2t.R2t.{R2t}
use Rattle.pdu_codec.specs.declared.termination.TermReq.{TermReq}
use Rattle.pdu_words.specs.declared.command.Command.{Command}
use Rattle.pdu_words.specs.declared.command.Command.TheVariants as command
use Rattle.pdu_words.specs.declared.explanation.ResponseFields.{ResponseFields}
use Rattle.pdu_words.specs.declared.explanation.Explanation.{Explanation}
use Rattle.pdu_words.specs.declared.explanation.Explanation.TheVariants as explanation
use Rattle.pdu_words.specs.Names.{fatal_error_name, identify_name, log_page_name, notice_name, property_name, status_name}

-- ---- numbers in hex, with an `h` behind them

abbrev pub hex_words : ℕ → List ℕ
hex_words n = digits 16 true n ++ codes "h"

-- of a byte both digits
abbrev pub byte_words : ℕ → List ℕ
byte_words n = digits 16 true (n / 16) ++ digits 16 true (n % 16) ++ codes "h"

-- a name, and a number of one byte
abbrev pub numbered_words : List ℕ → ℕ → List ℕ
numbered_words name n = name ++ codes " " ++ byte_words n

-- ---- commands

abbrev pub connect_words : ℕ → List ℕ
connect_words qid = if qid == 0 then codes "Connect" else codes "Connect QID " ++ decimal qid

-- a property has its name, or its offset
abbrev pub property_words_by : Option (List ℕ) → ℕ → List ℕ
property_words_by None offset = hex_words offset
property_words_by (Some name) offset = name

abbrev pub property_words : ℕ → List ℕ
property_words offset = property_words_by (property_name offset) offset

-- the kinds of events that Asynchronous Event Configuration enables: bit 8 is namespaces, 11 Asymmetric Namespace
-- Access and 31 the discovery log page (Base 2.0, section 5.27.1.8)
abbrev pub kinds_by : Bool → Bool → Bool → List ℕ
kinds_by namespaces ana discovery =
    if namespaces then
    (if ana
    then (if discovery then codes "events of namespaces, ANA, discovery" else codes "events of namespaces, ANA")
    else (if discovery then codes "events of namespaces, discovery" else codes "events of namespaces"))
    else
    (if ana
    then (if discovery then codes "events of ANA, discovery" else codes "events of ANA")
    else (if discovery then codes "events of discovery" else codes "no events"))

-- other bits have no words: they enable nothing at the target
abbrev pub kinds_words : ℕ → List ℕ
kinds_words value = kinds_by (value / 2 ^ 8 % 2 == 1) (value / 2 ^ 11 % 2 == 1) (value / 2 ^ 31 % 2 == 1)

-- the feature Asynchronous Event Configuration
abbrev pub event_configuration : ℕ
event_configuration = 0x0B

abbrev pub set_features_words : ℕ → ℕ → List ℕ
set_features_words fid value =
    if fid == event_configuration then codes "Set Features 0Bh: " ++ kinds_words value else numbered_words (codes "Set Features") fid

abbrev pub command_words : Command → List ℕ
command_words (command.Connect qid) = connect_words qid
command_words (command.PropertyGet offset) = codes "Property Get " ++ property_words offset
command_words (command.PropertySet offset value) = codes "Property Set " ++ property_words offset
command_words (command.Fabrics fctype) = numbered_words (codes "Fabrics command") fctype
command_words (command.GetLogPage lid offset) = numbered_words (codes "Get Log Page") lid
command_words (command.Identify cns) = numbered_words (codes "Identify") cns
command_words command.Abort = codes "Abort"
command_words (command.SetFeatures fid value) = set_features_words fid value
command_words (command.GetFeatures fid select) = numbered_words (codes "Get Features") fid
command_words command.AsynchronousEventRequest = codes "Asynchronous Event Request"
command_words command.KeepAlive = codes "Keep Alive"
command_words (command.Admin opcode) = numbered_words (codes "admin command") opcode
command_words command.Flush = codes "Flush"
command_words command.Write = codes "Write"
command_words command.Read = codes "Read"
command_words command.Compare = codes "Compare"
command_words command.WriteZeroes = codes "Write Zeroes"
command_words (command.Io opcode) = numbered_words (codes "I/O command") opcode

-- the command that a PDU belongs to, where it is known
abbrev pub named_words : Option Command → List ℕ
named_words None = []
named_words (Some c) = codes " (" ++ command_words c ++ codes ")"

-- ---- what the data that a command returns are

abbrev pub log_page_words_by : Option (List ℕ) → ℕ → ℕ → List ℕ
log_page_words_by None lid offset = codes " (Get Log Page " ++ byte_words lid ++ codes ", offset " ++ decimal offset ++ codes ")"
log_page_words_by (Some name) lid offset = codes " (Get Log Page: " ++ name ++ codes ", offset " ++ decimal offset ++ codes ")"

abbrev pub identify_words_by : Option (List ℕ) → ℕ → List ℕ
identify_words_by None cns = named_words (Some (command.Identify cns))
identify_words_by (Some name) cns = codes " (" ++ name ++ codes ")"

abbrev pub content_words : Option Command → List ℕ
content_words (Some (command.GetLogPage lid offset)) = log_page_words_by (log_page_name lid) lid offset
content_words (Some (command.Identify cns)) = identify_words_by (identify_name cns) cns
content_words other = named_words other

-- ---- responses

-- a status has its name, or its type and code
abbrev pub status_words_by : Option (List ℕ) → Status → List ℕ
status_words_by None status = codes "SCT " ++ decimal status.sct ++ codes " SC " ++ byte_words status.sc
status_words_by (Some name) status = name

abbrev pub status_words : Status → List ℕ
status_words status = status_words_by (status_name status) status

-- Do Not Retry says that the same command would fail again
abbrev pub retry_words : Status → List ℕ
retry_words status = if status.dnr then codes ", DNR" else []

abbrev pub result_words : ℕ → List ℕ
result_words result = if result == 0 then [] else codes ", result " ++ hex_words result

-- Bit 16 of a Connect's result says whether the parameter that is invalid is in its data, and bits 15:0 its offset,
-- or the identifier of the controller (Base 2.0, section 6.3).
abbrev pub place_words : ℕ → List ℕ
place_words result = if result / 0x10000 % 2 == 1 then codes "data" else codes "command"

abbrev pub connect_result_words : ResponseFields → List ℕ
connect_result_words completion =
    if completion.status.sct == 0 && completion.status.sc == 0x00
    then codes ", CNTLID " ++ decimal (completion.result % 0x10000) else
    if completion.status.sct == 1 && completion.status.sc == 0x82
    then codes ", at byte " ++ decimal (completion.result % 0x10000) ++ codes " of the " ++ place_words completion.result else
    result_words completion.result

-- the answer of a Connect
abbrev pub connect_answer_words : ResponseFields → List ℕ
connect_answer_words completion = status_words completion.status ++ connect_result_words completion

-- Successful Completion: with any other status the result is not what the command defines
abbrev pub succeeds : Status → Bool
succeeds status = status.sct == 0 && status.sc == 0x00

-- the event that a request tells: type 2, in bits 2:0, is a notice, and bits 15:8 say which (Base 2.0, section 5.2.1)
unfoldable pub event_name : ResponseFields → Option (List ℕ)
event_name completion =
    if succeeds completion.status && completion.result % 8 == 2 then notice_name (completion.result / 0x100 % 0x100) else None

-- .. and the log page that the host is to read, in bits 23:16
unfoldable pub log_to_read : ℕ → ℕ
log_to_read result = result / 0x10000 % 0x100

unfoldable pub notice_words : List ℕ → ℕ → List ℕ
notice_words name log = codes ", " ++ name ++ codes ", read log " ++ byte_words log

abbrev pub event_words_by : Option (List ℕ) → ℕ → List ℕ
event_words_by None result = result_words result
event_words_by (Some name) result = notice_words name (log_to_read result)

-- Select 0 to 2 ask for the value of a feature (Base 2.0, section 5.15)
abbrev pub feature_words : ResponseFields → ℕ → ℕ → List ℕ
feature_words completion fid select =
    if succeeds completion.status && fid == event_configuration && nat_lt select 3
    then codes ", " ++ kinds_words completion.result else result_words completion.result

-- the result, by the command that it is of
abbrev pub answer_words : ResponseFields → Option Command → List ℕ
answer_words completion (Some (command.Connect qid)) = connect_result_words completion
answer_words completion (Some command.AsynchronousEventRequest) = event_words_by (event_name completion) completion.result
answer_words completion (Some (command.GetFeatures fid select)) = feature_words completion fid select
answer_words completion other = result_words completion.result

abbrev pub completion_words : ResponseFields → Option Command → List ℕ
completion_words completion known =
    codes "CapsuleResp CID " ++ decimal completion.cid ++ codes " SQHD " ++ decimal completion.sqhd ++ codes " "
    ++ status_words completion.status ++ retry_words completion.status ++ answer_words completion known ++ named_words known

-- ---- the other PDUs

abbrev pub ic_req_words : IcReq → List ℕ
ic_req_words request =
    codes "ICReq PFV " ++ decimal request.pfv ++ codes " HPDA " ++ decimal request.hpda
    ++ codes " DGST " ++ decimal request.dgst ++ codes " MAXR2T " ++ decimal request.maxr2t

abbrev pub ic_resp_words : IcResp → List ℕ
ic_resp_words response =
    codes "ICResp PFV " ++ decimal response.pfv ++ codes " CPDA " ++ decimal response.cpda ++ codes " MAXH2CDATA " ++ decimal response.maxh2cdata

-- a fatal error status has its name, or its number
abbrev pub fatal_error_words_by : Option (List ℕ) → ℕ → List ℕ
fatal_error_words_by None fes = codes " FES " ++ decimal fes
fatal_error_words_by (Some name) fes = codes " " ++ name

abbrev pub fatal_error_words : ℕ → List ℕ
fatal_error_words fes = fatal_error_words_by (fatal_error_name fes) fes

-- FEI is the offset of a field with an invalid header field and an unsupported parameter
abbrev pub information_words : TermReq → List ℕ
information_words request =
    if request.fes == 1 || request.fes == 6 then codes ", at byte " ++ decimal request.fei else
    if request.fei == 0 then [] else codes ", FEI " ++ decimal request.fei

abbrev pub termination_words : List ℕ → TermReq → List ℕ
termination_words name request = name ++ fatal_error_words request.fes ++ information_words request

abbrev pub flag_words : DataHead → List ℕ
flag_words head =
    if head.last_pdu then (if head.success then codes ", last, success" else codes ", last") else
    if head.success then codes ", success" else []

-- where the data stand, and how many they are
abbrev pub data_words : DataHead → List ℕ
data_words head = codes " offset " ++ decimal head.datao ++ codes " length " ++ decimal head.datal ++ flag_words head

-- those that a host sends name the R2T that asked for them
abbrev pub h2c_data_words : DataHead → List ℕ
h2c_data_words head = codes "H2CData CID " ++ decimal head.cccid ++ codes " TTAG " ++ decimal head.ttag ++ data_words head

abbrev pub c2h_data_words : DataHead → List ℕ
c2h_data_words head = codes "C2HData CID " ++ decimal head.cccid ++ data_words head

abbrev pub r2t_words : R2t → List ℕ
r2t_words request =
    codes "R2T CID " ++ decimal request.cccid ++ codes " TTAG " ++ decimal request.ttag ++ codes " offset " ++ decimal request.r2to ++ codes " length " ++ decimal request.r2tl

abbrev pub words_of : Explanation → List ℕ
words_of (explanation.IcReq request) = ic_req_words request
words_of (explanation.IcResp response) = ic_resp_words response
words_of (explanation.H2cTermReq request) = termination_words (codes "H2CTermReq") request
words_of (explanation.C2hTermReq request) = termination_words (codes "C2HTermReq") request
words_of (explanation.CapsuleCmd cid known) = codes "CapsuleCmd CID " ++ decimal cid ++ named_words known
words_of (explanation.CapsuleResp completion known) = completion_words completion known
words_of (explanation.H2cData head known) = h2c_data_words head ++ named_words known
words_of (explanation.C2hData head known) = c2h_data_words head ++ content_words known
words_of (explanation.R2t request known) = r2t_words request ++ named_words known
words_of explanation.NoPdu = codes "no PDU"
