-- The reads of a try, in their order (Base 2.0, section 5.16.1.23).
use Rattle.std.specs.Prelude.{ℕ, ◌+◌, ◌-◌, ◌*◌, ◌/◌, List, [], ◌∷◌, ◌++◌, map, min}
use Rattle.std.specs.List.{range_with_len}
use Rattle.host_pages.specs.declared.get_log.GetLog.{GetLog}

-- the header, before the records and again after them
abbrev pub header_read : GetLog
header_read = record { offset = 0; len = 1024 }

-- the read of that number, from 0 on, of so many records: 32 of them, or as many as are left
abbrev pub records_read : ℕ → ℕ → GetLog
records_read records n = record { offset = 1024 + n * 32768; len = 1024 * min 32 (records - n * 32) }

-- as many as hold all of them
abbrev pub records_reads : ℕ → List GetLog
records_reads records = map (records_read records) (range_with_len 0 ((records + 31) / 32))

-- where the page has so many records
abbrev pub reads_of : ℕ → List GetLog
reads_of records = header_read ∷ (records_reads records ++ header_read ∷ [])
