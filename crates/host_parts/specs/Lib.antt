pub mod Lines
pub mod Started
pub mod Watched
