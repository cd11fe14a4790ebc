-- The discovery log page (Base 2.0, section 5.16.1.23).
use Rattle.std.specs.Prelude.{◌≡◌, ℕ, ◌+◌, ◌*◌, ◌==◌, not, nat_lt, List, length, map, slice_range, Option, Some, None, if◌then◌else◌}
use Rattle.std.specs.List.{range_with_len}
use Rattle.nvt_fields.specs.Field.{field_at}
use Rattle.host_pages.specs.declared.bad_page.BadPage.{BadPage}
use Rattle.host_pages.specs.declared.bad_page.BadPage.TheVariants.{OtherFormat, TooManyRecords, TooShort}

-- ---- the header, of 1,024 bytes: GENCTR, NUMREC and RECFMT

-- GENCTR moves with each change of the records, so that a host sees whether they changed while it read
abbrev pub genctr_of : List ℕ → ℕ
genctr_of page = field_at 8 0 page

-- NUMREC as the controller tells it: whether so many records are there is for `fault_of` to say
abbrev pub record_count : List ℕ → ℕ
record_count page = field_at 8 8 page

abbrev pub record_format : List ℕ → ℕ
record_format page = field_at 2 16 page

-- ---- the records behind it, of 1,024 bytes each

-- where the record of that number stands, from 0 on
abbrev pub record_place : ℕ → ℕ
record_place n = 1024 + n * 1024

abbrev pub record_at : List ℕ → ℕ → List ℕ
record_at page n = slice_range page (record_place n) (record_place n + 1024)

-- so many from a number on
unfoldable pub records_from : List ℕ → ℕ → ℕ → List (List ℕ)
records_from page first count = map (record_at page) (range_with_len first count)

-- by `records_are_joined` the header and these, one after another, are the page, but for what stands behind them
abbrev pub records_of : List ℕ → List (List ℕ)
records_of page = records_from page 0 (record_count page)

-- ---- what is a page

-- what is wrong with a header first: it is of another format than 0, or counts more than 1,024 records
abbrev pub header_fault : List ℕ → Option BadPage
header_fault header =
    if not (record_format header == 0) then Some OtherFormat else
    if nat_lt 1024 (record_count header) then Some TooManyRecords else None

-- what is wrong with bytes first, if they are no page: they are shorter than the records that they count, or have such
-- a header
abbrev pub fault_of : List ℕ → Option BadPage
fault_of bytes = if nat_lt (length bytes) (record_place (record_count bytes)) then Some TooShort else header_fault bytes

abbrev pub IsDiscoveryPage : List ℕ → Type 0
IsDiscoveryPage page = fault_of page ≡ None
