pub mod Asking
pub mod Deed
pub mod History
pub mod Looks
pub mod Reply
pub mod Served
pub mod Sets
pub mod Stepping
