-- One transfer: the data of a command that comes in H2CData (TCP Transport 1.0, section 3.3).
use Rattle.std.specs.Prelude.{ℕ, ◌+◌, ◌==◌, nat_lt, not, ◌||◌, Bool, List, [], ◌++◌, length, Option, Some, None, Result, Ok, Err, if◌then◌else◌, refl}
use Rattle.std.specs.Coded.{Coded, code_by, coded×, coded_ℕ, coded_list}
use Rattle.data_transfer.specs.declared.fault.DataFault.{DataFault}
use Rattle.data_transfer.specs.declared.fault.DataFault.TheVariants.{UnknownTag, OtherCommand, LengthMismatch, TooLong, OutOfRange}
use Rattle.data_transfer.specs.declared.transfer.Progress.{Progress}
use Rattle.data_transfer.specs.declared.transfer.Progress.TheVariants as progress

-- what is kept of a transfer
pub record Part (C : Type 0) : Type 0 where
  -- the command's identifier, and what its caller wants back with the data
  pub cid : ℕ
  pub command : C
  -- the number of bytes that its R2T asked for
  pub asked : ℕ
  -- the data of its H2CData so far, joined
  pub bytes : List ℕ

-- what an H2CData says and carries
pub record H2cData : Type 0 where
  -- CCCID
  pub cid : ℕ
  -- DATAO
  pub offset : ℕ
  -- DATAL
  pub datal : ℕ
  -- the bytes from PDO to PLEN
  pub bytes : List ℕ

abbrev pub h2c_data : ℕ → ℕ → ℕ → List ℕ → H2cData
h2c_data cid offset datal bytes = record { cid = cid; offset = offset; datal = datal; bytes = bytes }

-- how far a transfer has come with so many of the bytes that were asked for
abbrev pub progress_at : ℕ → ℕ → Progress
progress_at len asked = if len == asked then progress.Whole else progress.More

-- an answer, unless there is a fault
abbrev pub answer_unless : Option DataFault → Progress → Result Progress DataFault
answer_unless None answer = Ok answer
answer_unless (Some fault) answer = Err fault

module _ {C : Type 0} where
  abbrev pub part_code : Coded C → Coded (Part C)
  part_code code =
      code_by
      (ℕ × (C × (ℕ × List ℕ)))
      (coded× coded_ℕ (coded× code (coded× coded_ℕ (coded_list coded_ℕ))))
      (λ p. (p.cid, (p.command, (p.asked, p.bytes))))
      (λ p. record { cid = p.0; command = p.1.0; asked = p.1.1.0; bytes = p.1.1.1 })
      (λ _. refl)

  -- a transfer as its R2T begins it
  abbrev pub begun : ℕ → C → ℕ → Part C
  begun cid command asked = record { cid = cid; command = command; asked = asked; bytes = [] }

  -- all that its R2T asked for has come
  abbrev pub is_whole : Part C → Bool
  is_whole part = length part.bytes == part.asked

  -- with the data of one more H2CData
  abbrev pub with_data : List ℕ → Part C → Part C
  with_data bytes part = record part { bytes = part.bytes ++ bytes }

  -- an H2CData of a transfer that is there is refused for the first of these
  abbrev pub part_fault : Part C → H2cData → Option DataFault
  part_fault part pdu =
      if not (pdu.cid == part.cid) then Some OtherCommand else
      if not (pdu.datal == length pdu.bytes) then Some LengthMismatch else
      if nat_lt 16384 pdu.datal then Some TooLong else
      if not (pdu.offset == length part.bytes) || nat_lt part.asked (pdu.offset + pdu.datal) then Some OutOfRange else None

  -- how far a transfer has come
  abbrev pub progress_of : Part C → Progress
  progress_of part = progress_at (length part.bytes) part.asked

  -- what an H2CData is answered, by what stands under its tag
  abbrev pub data_answer : Option (Part C) → H2cData → Result Progress DataFault
  data_answer None pdu = Err UnknownTag
  data_answer (Some part) pdu = answer_unless (part_fault part pdu) (progress_of (with_data pdu.bytes part))

  -- and what stands there after it: a fault changes nothing
  abbrev pub part_after : Option DataFault → H2cData → Part C → Part C
  part_after None pdu part = with_data pdu.bytes part
  part_after (Some fault) pdu part = part

  abbrev pub data_after : Option (Part C) → H2cData → Option (Part C)
  data_after None pdu = None
  data_after (Some part) pdu = Some (part_after (part_fault part pdu) pdu part)

  -- the transfer that is handed out, which has to be whole
  abbrev pub whole_in : Option (Part C) → Option (Part C)
  whole_in None = None
  whole_in (Some part) = if is_whole part then Some part else None

  -- and what is left where it stood
  abbrev pub left_in : Option (Part C) → Option (Part C)
  left_in None = None
  left_in (Some part) = if is_whole part then None else Some part
