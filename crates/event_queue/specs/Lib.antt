pub mod Changes
pub mod Completion
pub mod Events
pub mod Kind
pub mod Laws
pub mod Notice
pub mod Occurrence
pub mod Told
