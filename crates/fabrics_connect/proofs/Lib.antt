pub mod Free
pub mod Admitted
pub mod Admissible
pub mod Consequences
pub mod Live
pub mod Queues
pub mod Rows
pub mod Standing
