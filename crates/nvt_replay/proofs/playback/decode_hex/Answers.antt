use Rattle.nvt_replay.proofs.ReplayLemmas.{is_decoded}
use Rattle.nvt_replay.proofs.playback.decode_hex.Goals as goal

pub unwrap-requires : goal.unwrap-requires
unwrap-requires c = is_decoded _ _ _ _ c.decode_to_slice.ensures.value (c.requires.room, c.requires.digits)
