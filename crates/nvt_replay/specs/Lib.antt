pub mod CutOff
pub mod Played
pub mod Replay
