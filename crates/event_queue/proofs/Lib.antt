pub mod Counting
pub mod Edits
pub mod Looking
pub mod Steps
