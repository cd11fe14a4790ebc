pub mod Coming
pub mod Counts
pub mod Joins
pub mod Places
pub mod Splits
pub mod Tags
