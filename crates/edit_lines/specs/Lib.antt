pub mod Configured
pub mod Fault
pub mod Line
pub mod Printed
pub mod Reply
pub mod StreamLine
pub mod Writing
