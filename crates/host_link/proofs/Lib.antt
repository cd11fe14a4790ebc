pub mod Agreement
pub mod Asking
pub mod Parts
pub mod Ranges
pub mod Turning
pub mod Waited
