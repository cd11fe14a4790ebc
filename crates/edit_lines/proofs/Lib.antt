pub mod Fronts
pub mod MemoryLast
pub mod PduLemmas
pub mod Refused
pub mod Splits
pub mod Taking
