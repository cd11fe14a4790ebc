-- The discovery log page (Base 2.0, section 5.16.1.23).
use Rattle.std.specs.Prelude.{ℕ, List, ◌++◌, length, replicate}
use Rattle.std.specs.Int.{w64, to_le_bytes}
use Rattle.std.specs.List.{flat_map}
use Rattle.discovery_view.specs.Record.{Parts, record_of}

-- a header of 1,024 bytes, with GENCTR, NUMREC and RECFMT 0, and the records after it
unfoldable pub discovery_page : ℕ → List Parts → List ℕ
discovery_page generation records =
    to_le_bytes w64 generation ++ to_le_bytes w64 (length records) ++ replicate 1008 0 ++ flat_map record_of records
