-- How a record notes a call: its kind, an offset, and bytes or a count.
use Rattle.std.specs.Prelude.{ℕ, zero, suc, List, slice_index}
use Rattle.file_disk.specs.Call.{Call, read, unread, written, unwritten, synced, unsynced}

-- the kind, the offset, a count, and bytes
abbrev pub Note : Type 0
Note = ℕ × ℕ × ℕ × List ℕ

abbrev pub note_of : List ℕ → List ℕ → Note
note_of numbers bytes = (slice_index numbers 0, slice_index numbers 1, slice_index numbers 2, bytes)

abbrev pub call_by : ℕ → ℕ → ℕ → List ℕ → Call
call_by zero offset count bytes = read offset bytes
call_by (suc zero) offset count bytes = unread offset count
call_by (suc (suc zero)) offset count bytes = written offset bytes
call_by (suc (suc (suc zero))) offset count bytes = unwritten offset count
call_by (suc (suc (suc (suc zero)))) offset count bytes = synced
call_by (suc (suc (suc (suc (suc more))))) offset count bytes = unsynced

abbrev pub call_of : Note → Call
call_of note = call_by note.0 note.1 note.2 note.3
