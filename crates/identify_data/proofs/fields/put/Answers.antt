use Rattle.std.proofs.Common.{length, refl}
use Rattle.identify_data.proofs.Written.{put_mid-with_bytes}
use Rattle.identify_data.proofs.fields.put.Goals as goal

pub returns : goal.returns
returns c =
    rw (c.copy_from_slice.ensures.after) (put_mid-with_bytes c.args.offset (length c.args.bytes.now) c.args.structure.now c.args.bytes.now refl)
