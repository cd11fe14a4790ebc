-- A reply's data, in the pieces in which they go to the host (TCP Transport 1.0, section 3.3).
use Rattle.std.specs.Prelude.{◌≡◌, ℕ, ◌+◌, ◌*◌, ◌/◌, List, [], ◌++◌, length, slice_range, Option, Some, None, if◌then◌else◌}
use Rattle.std.specs.List.{flat_map}
use Rattle.block_store.specs.Faults.{Strays}
use Rattle.block_store.specs.Stored.{Stored}
use Rattle.data_transfer.specs.declared.piece.Piece.{Piece}
use Rattle.data_transfer.specs.Pieces.{piece_count, pieces}
use Rattle.nvt_fields.specs.declared.status.Status.{Status}
use Rattle.pdu_codec.specs.C2hData.{c2h_data}
use Rattle.io_queue.specs.declared.operation.Extent.{Extent}
use Rattle.io_queue.specs.declared.reply.DataFormat.{DataFormat}
use Rattle.io_queue.specs.Act.{CountsBy, IsOfRead, IsOther, DiskOutcome, extent_bytes, is_fault, read_in, read_status}

-- a C2HData in the place of a piece, with this payload
abbrev pub pdu_with : DataFormat → Piece → List ℕ → List ℕ
pdu_with format p payload =
    c2h_data (record { cid = format.cid; offset = p.offset; last = p.last; hpda = format.hpda; payload = payload })

-- the C2HData of one piece of these bytes
abbrev pub piece_pdu : DataFormat → List ℕ → Piece → List ℕ
piece_pdu format bytes p = pdu_with format p (slice_range bytes p.offset (p.offset + p.len))

-- .. and those of all of them
abbrev pub data_pdus : DataFormat → List ℕ → List ℕ
data_pdus format bytes = flat_map (piece_pdu format bytes) (pieces (length bytes))

-- the data of a reply, where it has data
abbrev pub returned_pdus : DataFormat → Option (List ℕ) → List ℕ
returned_pdus format None = []
returned_pdus format (Some bytes) = data_pdus format bytes

-- the room for so many bytes of data in pieces, with a head of at most 128 bytes before each
abbrev pub data_room : ℕ → ℕ
data_room len = 128 * piece_count len + len

-- the data that a Read returns, by the bytes that were read: none where the disk failed
abbrev pub read_by : DiskOutcome → List ℕ → Option (List ℕ)
read_by m bytes = if is_fault m then None else Some bytes

-- the bytes that were read of an extent stand behind the output, or, where the disk failed to read them, none
pub record AppendsRead (format : DataFormat) (e : Extent) (old new : Stored) (output appended : List ℕ) (status : Status) : Type 0 where
  pub disk_outcome : DiskOutcome
  pub of_read : IsOfRead e.units disk_outcome
  pub finds : IsOther disk_outcome (extent_bytes e old)
  pub answer : status ≡ read_status disk_outcome
  pub sends : appended ≡ output ++ returned_pdus format (read_by disk_outcome (read_in disk_outcome e old.contents))
  pub contents : new.contents ≡ old.contents
  pub counts : CountsBy disk_outcome old new

-- What was read of an extent stands behind the output, as data of this form. It is the extent's bytes, or others, which
-- the count of strays tells.
pub record AppendsFound (form : List ℕ → List ℕ) (e : Extent) (old new : Stored) (output appended : List ℕ) : Type 0 where
  pub bytes : List ℕ
  pub long : length bytes ≡ 512 * e.units
  pub sends : appended ≡ output ++ form bytes
  pub strays : Strays bytes (extent_bytes e old) old.strays new.strays

-- ---- one piece

-- the units of an extent that a piece of its bytes has
abbrev pub part_of : Extent → Piece → Extent
part_of e p = record { disk = e.disk; first = e.first + p.offset / 512; units = p.len / 512 }
