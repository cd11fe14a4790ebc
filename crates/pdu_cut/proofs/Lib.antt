pub mod Fronts
pub mod Headers
pub mod Ranges
pub mod Short
pub mod Streams
