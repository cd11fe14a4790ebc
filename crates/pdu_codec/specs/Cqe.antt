-- A completion queue entry as it is read (Base 2.0, section 3.3.3.2).
use Rattle.std.specs.Prelude.{◌≡◌, ℕ, ◌/◌, ◌%◌, ◌^◌, ◌<◌, nat_le, List, slice_range}
use Rattle.nvt_fields.specs.Field.{field_at}
use Rattle.nvt_fields.specs.Status.{word_of}
use Rattle.nvt_fields.specs.declared.status.Status.{Status}

-- the entry of a response: what follows the common header in its 24 bytes
abbrev pub completion_in : List ℕ → List ℕ
completion_in header = slice_range header 8 24

-- dwords 0 and 1, which each command defines for itself: a CNTLID, the value of a property, a kind of event
abbrev pub result_of : List ℕ → ℕ
result_of entry = field_at 8 0 entry

-- how far the controller has come in the submission queue, going round behind its size
abbrev pub sqhd_of : List ℕ → ℕ
sqhd_of entry = field_at 2 8 entry

abbrev pub completed_cid_of : List ℕ → ℕ
completed_cid_of entry = field_at 2 12 entry

-- the code in bits 8:1, its type in bits 11:9, do-not-retry in bit 15
abbrev pub status_of_word : ℕ → Status
status_of_word word = record {
  sct = word / 2 ^ 9 % 2 ^ 3;
  sc = word / 2 ^ 1 % 2 ^ 8;
  dnr = nat_le (2 ^ 15) word;
}

-- each word has a status, whatever controller sent it: the phase tag, CRD and More are not looked at
abbrev pub status_of : List ℕ → Status
status_of entry = status_of_word (field_at 2 14 entry)

-- each status of a known type is that of its word
abbrev pub StatusesAreReadBack : Type 0
StatusesAreReadBack = (s : Status) → s.sct < 2 ^ 3 → s.sc < 2 ^ 8 → status_of_word (word_of s) ≡ s
