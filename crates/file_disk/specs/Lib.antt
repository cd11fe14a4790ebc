pub mod Call
pub mod Held
pub mod Note
pub mod Replay
