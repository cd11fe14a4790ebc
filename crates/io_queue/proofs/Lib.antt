pub mod Acts
pub mod Deciding
pub mod Executions
pub mod Pieces
pub mod Reading
pub mod Readings
pub mod Sending
pub mod Within
