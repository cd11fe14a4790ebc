pub mod Bounds
pub mod Consequences
pub mod Hearings
pub mod Lasts
