pub mod Command
pub mod Connect
pub mod Controllers
pub mod Laws
pub mod Permitted
pub mod QueueIds
pub mod Refusal
pub mod Row
