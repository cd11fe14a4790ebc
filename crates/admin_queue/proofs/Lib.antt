pub mod Asking
pub mod Bounds
pub mod LookingBack
pub mod Parts
pub mod Serials
pub mod Waiting
