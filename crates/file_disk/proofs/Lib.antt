pub mod AnyStart
pub mod Bytes
pub mod Found
pub mod Fronts
pub mod Joined
pub mod Kept
