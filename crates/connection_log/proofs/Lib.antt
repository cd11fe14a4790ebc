pub mod Conversations
pub mod Paces
pub mod Readings
pub mod Turns
pub mod Watches
