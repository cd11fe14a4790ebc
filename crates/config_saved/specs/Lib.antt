pub mod Pieces
pub mod Saved
pub mod Text
pub mod Walk
