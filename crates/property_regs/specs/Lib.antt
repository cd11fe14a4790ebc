pub mod Configuration
pub mod Laws
pub mod Regs
pub mod Size
pub mod Status
