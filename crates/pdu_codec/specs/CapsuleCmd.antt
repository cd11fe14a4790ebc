-- A command in its capsule (TCP Transport 1.0, section 3.6).
use Rattle.std.specs.Prelude.{ℕ, ◌+◌, ◌-◌, ◌*◌, ◌==◌, List, ◌++◌, length, replicate, if◌then◌else◌}
use Rattle.std.specs.Int.{next_multiple_of}
use Rattle.nvt_fields.specs.declared.pdu_type.PduType.TheVariants as types
use Rattle.pdu_codec.specs.declared.sqe_fields.SqeFields.{SqeFields}
use Rattle.pdu_codec.specs.CommonHeader.{common_header}
use Rattle.pdu_codec.specs.SqeFields.{sqe_entry}

-- Where the data of a capsule begins: after the header of 72 bytes, at a multiple of the controller's
-- alignment. CPDA is in units of 4 bytes, and 0 stands for one of them.
abbrev pub capsule_data_offset : ℕ → ℕ
capsule_data_offset cpda = next_multiple_of 72 ((cpda + 1) * 4)

-- A capsule without data ends with its entry, and has PDO 0.
abbrev pub capsule_without_data : SqeFields → List ℕ
capsule_without_data sqe = common_header types.CapsuleCmd 0 72 0 72 ++ sqe_entry sqe

-- Zeros stand between the entry and the data.
abbrev pub capsule_with_data : SqeFields → ℕ → List ℕ → List ℕ
capsule_with_data sqe cpda payload =
    let pdo = capsule_data_offset cpda in
    common_header types.CapsuleCmd 0 72 pdo (pdo + length payload) ++ sqe_entry sqe ++ replicate (pdo - 72) 0 ++ payload

abbrev pub capsule_cmd : SqeFields → ℕ → List ℕ → List ℕ
capsule_cmd sqe cpda payload =
    if length payload == 0 then capsule_without_data sqe else capsule_with_data sqe cpda payload
