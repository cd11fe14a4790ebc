-- What a Connect asks for (Base 2.0, section 6.3), and where its data is.
use Rattle.std.specs.Prelude.{◌≡◌, ℕ, ◌+◌, Bool, true, false, not, ◌==◌, nat_lt, List, length, slice_range}
use Rattle.nvt_fields.specs.Name.{IsName, up_to_zero}
use Rattle.nvt_fields.specs.Status.{sgl_type_invalid, data_sgl_length_invalid, sgl_offset_invalid}
use Rattle.pdu_codec.specs.declared.sgl.Sgl.{Sgl}
use Rattle.pdu_codec.specs.declared.sgl.SglType.{SglType}
use Rattle.pdu_codec.specs.declared.sgl.SglType.TheVariants.{CapsuleOffset, Transport, Other}
use Rattle.pdu_codec.specs.ConnectData.{connect_data_len, cntlid_of, hostid_of, hostnqn_of, subnqn_of}
use Rattle.pdu_codec.specs.Sqe.{connect_of, sgl1_of}
use Rattle.fabrics_connect.specs.Refusal.{Verdict, passed, refusal_of, refuse}

-- the submission queue entry, 64 bytes, and the data in the capsule
pub record Command : Type 0 where
  pub entry : List ℕ
  pub payload : List ℕ

abbrev pub is_capsule_offset : SglType → Bool
is_capsule_offset CapsuleOffset = true
is_capsule_offset Transport = false
is_capsule_offset Other = false

-- the data has to be in the capsule, whole
unfoldable pub data_verdict : Sgl → List ℕ → Verdict
data_verdict sgl payload =
    refuse (not (is_capsule_offset sgl.sgl_type)) (refusal_of sgl_type_invalid) (
    refuse (not (sgl.len == connect_data_len)) (refusal_of data_sgl_length_invalid) (
    refuse (nat_lt (length payload) (sgl.address + sgl.len)) (refusal_of sgl_offset_invalid) (
    passed)))

-- .. and is where its descriptor says
abbrev pub data_at : Sgl → List ℕ → List ℕ
data_at sgl payload = slice_range payload sgl.address (sgl.address + connect_data_len)

-- What a Connect asks for: fields of the entry and of the data, of a name the bytes before its first zero.
pub record Parameters : Type 0 where
  pub recfmt : ℕ
  pub qid : ℕ
  pub sqsize : ℕ
  pub cntlid : ℕ
  pub subsystem : List ℕ
  pub host : List ℕ
  pub hostid : List ℕ

-- .. by its entry and the data in its capsule
unfoldable pub parameters_of : List ℕ → List ℕ → Parameters
parameters_of entry payload =
    let bytes = data_at (sgl1_of entry) payload in
    record {
      recfmt = (connect_of entry).recfmt;
      qid = (connect_of entry).qid;
      sqsize = (connect_of entry).sqsize;
      cntlid = cntlid_of bytes;
      subsystem = up_to_zero (subnqn_of bytes);
      host = up_to_zero (hostnqn_of bytes);
      hostid = hostid_of bytes;
    }

-- the data is there, and its names are well formed
pub record HasNames (entry payload : List ℕ) : Type 0 where
  pub whole : data_verdict (sgl1_of entry) payload ≡ passed
  pub subsystem : IsName (parameters_of entry payload).subsystem
  pub host : IsName (parameters_of entry payload).host
