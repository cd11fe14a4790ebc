pub mod Asked
pub mod Conversation
pub mod Lines
pub mod Pace
pub mod Reading
pub mod Stages
pub mod Watching
