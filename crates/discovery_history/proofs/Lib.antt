pub mod Few
pub mod Growing
pub mod Learning
pub mod Sound
