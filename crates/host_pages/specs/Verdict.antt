-- What an answer makes of a try that has read this much of the page: nothing yet, or its header and records behind it.
use Rattle.std.specs.Prelude.{◌≡◌, ◌⊎◌, ◌≤◌, ℕ, ◌-◌, ◌%◌, Bool, not, ◌==◌, ◌&&◌, nat_lt, List, [], ◌∷◌, length, min, Option, Some, None, Result, Ok, Err, if◌then◌else◌}
use Rattle.std.specs.Borrow.{Bor}
use Rattle.nvt_fields.specs.declared.status.Status.{Status}
use Rattle.host_pages.specs.declared.bad_page.BadPage.{BadPage}
use Rattle.host_pages.specs.declared.bad_page.BadPage.TheVariants as bad
use Rattle.host_pages.specs.DiscoveryPage.{genctr_of, header_fault, record_count, record_format, record_place}
use Rattle.host_pages.specs.declared.fault.DiscoverFault.TheVariants.{BadPage as bad_page, Refused}
use Rattle.host_pages.specs.declared.get_log.GetLog.{GetLog}
use Rattle.host_pages.specs.declared.verdict.Verdict.{Verdict}
use Rattle.host_pages.specs.declared.verdict.Verdict.TheVariants.{Ends, Fails, GoesOn, Settles}
use Rattle.host_pages.specs.Reads.{header_read}

-- what a read is answered with: bytes, or a status
abbrev pub Given : Type 0
Given = Result (List ℕ) Status

abbrev pub given : Result (Bor (List ℕ)) Status → Given
given (Ok bytes) = Ok bytes.now
given (Err s) = Err s

-- a header and maybe records behind it
pub record IsHeaded (read : List ℕ) : Type 0 where
  pub long : 1024 ≤ length read
  pub whole : length read % 1024 ≡ 0
  pub format : record_format read ≡ 0
  pub few : record_count read ≤ 1024
  pub most : length read ≤ record_place (record_count read)

-- nothing was read yet, or that
abbrev pub IsBegun : List ℕ → Type 0
IsBegun read = (read ≡ []) ⊎ IsHeaded read

-- how many bytes of records are left behind what was read
abbrev pub left_of : List ℕ → ℕ
left_of [] = 0
left_of (b ∷ read) = record_place (record_count (b ∷ read)) - length (b ∷ read)

-- the next read: of records while some are left, at most 32,768 bytes at a time, and else of the header
abbrev pub asked_of : List ℕ → GetLog
asked_of read = if nat_lt 0 (left_of read) then record { offset = length read; len = min 32768 (left_of read) } else header_read

-- ---- records

-- Invalid Field in Command, as of a place behind the end of the page
abbrev pub is_past_end : Status → Bool
is_past_end s = s.sct == 0 && s.sc == 2

-- a status as of a place behind the page's end says that the page became shorter: the try fails, and another is made
abbrev pub records_verdict : ℕ → Given → Verdict
records_verdict len (Ok bytes) = if length bytes == len then GoesOn else Ends (bad_page bad.OtherLength)
records_verdict len (Err s) = if is_past_end s then Fails else Ends (Refused s)

-- ---- headers

-- what is wrong with bytes first, if they are no header
abbrev pub answer_fault : List ℕ → Option BadPage
answer_fault bytes = if not (length bytes == 1024) then Some bad.OtherLength else header_fault bytes

-- by `pages_are_of_one_moment` the records that were read between two such headers are of one moment
abbrev pub are_alike : List ℕ → List ℕ → Bool
are_alike a b = genctr_of a == genctr_of b && record_count a == record_count b

-- the first header is followed by records; the second one is compared with it
abbrev pub compared : List ℕ → List ℕ → Verdict
compared [] header = GoesOn
compared (b ∷ read) header = if are_alike (b ∷ read) header then Settles else Fails

abbrev pub header_by : Option BadPage → List ℕ → List ℕ → Verdict
header_by (Some fault) read header = Ends (bad_page fault)
header_by None read header = compared read header

-- no page ends before its header, so that each refusal of a header ends the reading
abbrev pub header_verdict : List ℕ → Given → Verdict
header_verdict read (Ok header) = header_by (answer_fault header) read header
header_verdict read (Err s) = Ends (Refused s)

-- ---- either

abbrev pub verdict : List ℕ → Given → Verdict
verdict read a = if nat_lt 0 (left_of read) then records_verdict (min 32768 (left_of read)) a else header_verdict read a
